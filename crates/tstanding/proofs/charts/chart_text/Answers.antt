use Rattle.std.proofs.Common.{◌≡◌, ◌∙◌, ap, sym, subst, rules, Result, Ok, IsOkAnd}
use Rattle.std.specs.Prelude.{IfErr}
use Rattle.std.specs.Io.KnownBytes.{Appends}
use Rattle.tnet.specs.Net.{NetState}
use Rattle.tfiles.specs.Outputs.{IsCut}
use Rattle.tchart.specs.declared.layout.Chart.{Chart}
use Rattle.tchart.specs.Drawing as drawing
use Rattle.topening.specs.declared.fault.Fault.{Fault}
use Rattle.tstanding.specs.Charts.{charted_of, picture_text}
use Rattle.tstanding.specs.Histories.{enabled_on}
use Rattle.topening.specs.Faults.{IsLeft}
use Rattle.tstanding.proofs.charts.chart_text.Goals as goal

pub returns-in_err-write_chart-clause-left : goal.returns-in_err-write_chart-clause-left
returns-in_err-write_chart-clause-left g c =
    let there : charted_of c.args.wiring.now c.args.files c.args.events.now ≡ Ok c.in_ok-net.net =
    ap (λ (r : Result NetState Fault). enabled_on c.args.events.now r) c.in_ok-net.ensures.answer
    ∙ c.in_ok-try_events.ensures in
    let cut : IsCut (g.W.Write.contents c.args.out.now) (g.W.Write.contents c.write_chart.new.out)
    (picture_text c.args.events.now c.in_ok-net.net) c.in_err-write_chart.field-0.0.written =
    subst (λ (chart : Chart). IsCut (g.W.Write.contents c.args.out.now) (g.W.Write.contents c.write_chart.new.out)
    (drawing.chart_text chart) c.in_err-write_chart.field-0.0.written) c.in_ok-chart.ensures.chart
    c.in_err-write_chart.ensures.out in
    let left : IfErr c.from_residual-in_err-write_chart.result (IsLeft g.W.Write.contents
    (picture_text c.args.events.now) (Ok c.in_ok-net.net) c.args.out.now c.write_chart.new.out) = search rules in
    subst (λ (due : Result NetState Fault). IfErr c.from_residual-in_err-write_chart.result
    (IsLeft g.W.Write.contents (picture_text c.args.events.now) due c.args.out.now c.write_chart.new.out))
    (sym there) left

pub returns-clause-text : goal.returns-clause-text
returns-clause-text g c =
    let there : charted_of c.args.wiring.now c.args.files c.args.events.now ≡ Ok c.in_ok-net.net =
    ap (λ (r : Result NetState Fault). enabled_on c.args.events.now r) c.in_ok-net.ensures.answer
    ∙ c.in_ok-try_events.ensures in
    subst (λ (due : Result NetState Fault). IsOkAnd due (λ (net : NetState).
    Appends (g.W.Write.contents c.args.out.now) (g.W.Write.contents c.write_chart.new.out)
    (picture_text c.args.events.now net))) (sym there)
    (subst (λ (chart : Chart). Appends (g.W.Write.contents c.args.out.now) (g.W.Write.contents c.write_chart.new.out)
    (drawing.chart_text chart)) c.in_ok-chart.ensures.chart c.in_ok-write_chart.ensures.out)
