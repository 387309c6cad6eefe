use Rattle.std.proofs.Common.{sym, ◌∙◌}
use Rattle.tfindings.proofs.Nets.{line_cut, writes_line}
use Rattle.tfindings.proofs.certified.certified_line.Goals as goal

pub returns-in-Ok-clause-all_runs : goal.returns-in-Ok-clause-all_runs
returns-in-Ok-clause-all_runs g c told =
    writes_line c.args.wiring.now c.args.files _ _ c.in_ok-found.found.plan c.in_ok-found.found.machine
    c.in_ok-found.found.finding c.in_ok-found.ensures.all_runs
    (sym c.is_certified.ensures ∙ c.if-not-is_certified.false) (c.in-Ok.ensures.out c.in_ok-found.found.plan)

pub returns-clause-left : goal.returns-clause-left
returns-clause-left g c =
    line_cut g.W.Write.contents c.args.wiring.now c.args.files c.args.most_steps c.args.out.now
    c.write_certified.new.out c.in_ok-found.found.plan c.in_ok-found.found.machine c.in_ok-found.found.finding
    c.in-Err.cut c.in_ok-found.ensures.found (sym c.is_certified.ensures ∙ c.if-not-is_certified.false)
    (c.in-Err.ensures.out c.in_ok-found.found.plan)
