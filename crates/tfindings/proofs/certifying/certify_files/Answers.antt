use Rattle.tfindings.proofs.Runs.{finding_cut, has_found}
use Rattle.tfindings.proofs.certifying.certify_files.Goals as goal

pub returns-in-Ok-write_finding-clause-found : goal.returns-in-Ok-write_finding-clause-found
returns-in-Ok-write_finding-clause-found g c =
    has_found c.args.wiring.now c.args.files c.args.most_steps c.args.names.now (g.W.Write.contents c.args.out.now)
    (g.W.Write.contents c.write_finding.new.out) c.outcome_of.result c.in_ok-found.found.plan
    c.in_ok-found.found.machine c.in_ok-found.found.finding c.in_ok-found.ensures.found
    c.in-Ok-write_finding.ensures.out c.outcome_of.ensures

pub returns-clause-left : goal.returns-clause-left
returns-clause-left g c =
    finding_cut g.W.Write.contents c.args.wiring.now c.args.files c.args.most_steps c.args.names.now c.args.out.now
    c.write_finding.new.out c.in_ok-found.found.plan c.in_ok-found.found.machine c.in_ok-found.found.finding
    c.in-Err.cut c.in_ok-found.ensures.found c.in-Err.ensures.out
