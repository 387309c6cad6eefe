use Rattle.std.proofs.Common.{refl}
use Rattle.tcpu.proofs.Quiet.{stands_at}
use Rattle.tcpu.proofs.Writing.{outside_at}
use Rattle.tcpu.proofs.execution.act_or_stay.Goals as goal

pub returns-in-Ok-clause-left : goal.returns-in-Ok-clause-left
returns-in-Ok-clause-left c =
    stands_at c.args.kind.now c.args.instruction.function c.args.instruction.operand c.args.registers.now _ _ _ _ _
    c.in-Ok.next refl
    c.in-Ok.ensures.done

pub returns-in-Ok-clause-written : goal.returns-in-Ok-clause-written
returns-in-Ok-clause-written c =
    outside_at c.args.kind.now c.args.instruction.function c.args.instruction.operand _ c.args.registers.now _ _ _ _
    c.in-Ok.next c.behind-registers.ensures.word c.in-Ok.ensures.done
