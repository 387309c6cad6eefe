use Rattle.tfindings.proofs.Nets.{tells_all}
use Rattle.tfindings.proofs.certifying.find.Goals as goal

pub returns-clause-all_runs : goal.returns-clause-all_runs
returns-clause-all_runs g c =
    tells_all c.args.wiring.now c.args.files c.args.most_steps c.in_ok-plan.plan c.in_ok-machine.field-0.machine
    c.in_ok-machine.field-0.finding c.in_ok-plan.ensures c.in_ok-machine.ensures.planned c.know_plan.ensures
    c.in_ok-machine.ensures.ran
