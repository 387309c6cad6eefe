use Rattle.tfindings.proofs.Runs.{has_run}
use Rattle.tfindings.proofs.certifying.run.Goals as goal

pub returns-clause-ran : goal.returns-clause-ran
returns-clause-ran g c =
    has_run c.args.plan.now c.args.most_steps c.certify_in_parts-verdict.new.machine c.in_ok-verdict.verdict
    c.in_ok-finding.finding c.in_ok-verdict.ensures.told c.in_ok-verdict.ensures.follows c.in_ok-finding.ensures
