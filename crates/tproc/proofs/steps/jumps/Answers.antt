use Rattle.std.proofs.Common.{Ok, true}
use Rattle.tproc.proofs.Quiet.{foresees, jump_jumps}
use Rattle.tproc.proofs.steps.jumps.Goals as goal

pub returns-in-J-clause-told : goal.returns-in-J-clause-told
returns-in-J-clause-told c = jump_jumps c.args.claimed.now.memory.kind c.args.i _ _ _ c.in-J.is

pub returns-in-J-clause-foreseen : goal.returns-in-J-clause-foreseen
returns-in-J-clause-foreseen c = foresees c.args.claimed.now.memory.kind c.args.i _ c.args.claimed.now (Ok true)
    (jump_jumps c.args.claimed.now.memory.kind c.args.i _ _ _ c.in-J.is)

pub returns-in_default-clause-foreseen : goal.returns-in_default-clause-foreseen
returns-in_default-clause-foreseen c =
    foresees c.args.claimed.now.memory.kind c.args.i _ c.args.claimed.now c.jumps_otherwise.result
    c.jumps_otherwise.ensures
