use Rattle.std.proofs.Common.{sym, ◌∙◌}
use Rattle.tcertify.specs.Contexts.{context_of}
use Rattle.tcertify.proofs.Leaving.{makes_one}
use Rattle.tcertify.proofs.common.operated.Goals as goal

pub returns : goal.returns
returns c =
    rw c.left_with.ensures
    (makes_one c.args.kind (context_of c.args.context.now) c.args.instruction.now c.in_ok-context-2.field-0
    c.in_ok-context-2.was c.in_ok-context.field-0 c.in_ok-value.value c.in_ok-operation.operation c.in_ok-context.was
    (sym c.operation_of.ensures ∙ c.in_ok-operation.was) c.in_ok-value.ensures c.requires)
