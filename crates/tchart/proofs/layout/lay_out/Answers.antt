use Rattle.std.proofs.Common.{◌≡◌, ℕ, Bool, List, ap, ap₂, ◌∙◌}
use Rattle.tword.specs.Limits.{most_nodes}
use Rattle.tchart.specs.declared.layout.Column.{Column}
use Rattle.tchart.specs.declared.marks.Mark.{Mark}
use Rattle.tchart.specs.Layout.{chart_of_plot, laid_from, plot_of}
use Rattle.tchart.specs.Plots.{PlotState, ended}
use Rattle.tchart.proofs.layout.lay_out.Goals as goal

pub returns-clause-chart : goal.returns-clause-chart
returns-clause-chart c =
    let plot : c.lay_all.new.plot ≡ plot_of c.args.events.now c.args.net.now =
    c.in_ok-lay_all.ensures.plot
    ∙ ap (λ (p : PlotState). laid_from 0 c.args.events.now c.args.net.now p) c.in_ok-plot.ensures in
    let marks : c.into_marks.result ≡ (ended most_nodes c.lay_all.new.plot.rows c.lay_all.new.plot).marks =
    c.into_marks.ensures
    ∙ ap (λ (p : PlotState). p.marks) c.in_ok-end.ensures
    ∙ ap (λ (r : ℕ). (ended most_nodes r c.lay_all.new.plot).marks) c.rows-rows.ensures in
    ap₂
    (λ (marks : List Mark) (rows : ℕ). record {
      columns = c.in_ok-columns.columns;
      marks = marks;
      rows = rows;
      is_crowded = c.is_crowded-is_crowded.result;
    })
    marks c.rows-rows.ensures
    ∙ ap
    (λ (b : Bool). record {
      columns = c.in_ok-columns.columns;
      marks = (ended most_nodes c.lay_all.new.plot.rows c.lay_all.new.plot).marks;
      rows = c.lay_all.new.plot.rows;
      is_crowded = b;
    })
    c.is_crowded-is_crowded.ensures
    ∙ ap₂ (λ (columns : List Column) (p : PlotState). chart_of_plot columns p) c.in_ok-columns.ensures plot
