use Rattle.std.proofs.Common.{[]}
use Rattle.tproc.proofs.Agreeing.{agrees_but}
use Rattle.tproc.proofs.engine.Engine.await_choice.Goals as goal

pub wait-requires-clause-agrees : goal.wait-requires-clause-agrees
wait-requires-clause-agrees c =
    rw (c.requires.own.workspace, c.set_saved_word-2.ensures.claims, c.set_saved_word.ensures.claims)
    (agrees_but _ [] _ _ _ (rw c.set_word-2.ensures.claims c.args.self.now.agrees)
    (rw c.registers-r.ensures at c.deschedule.ensures.fresh) (rw c.registers-r.ensures at c.deschedule.ensures.claims))
