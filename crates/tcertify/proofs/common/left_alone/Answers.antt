use Rattle.tcertify.specs.Contexts.{context_of}
use Rattle.tcertify.proofs.Leaving.{adds_constant, loads_address, loads_constant, loads_non_local_address}
use Rattle.tcertify.proofs.Leaving.{tests_equal}
use Rattle.tcertify.proofs.common.left_alone.Goals as goal

pub returns-in-Ldc : goal.returns-in-Ldc
returns-in-Ldc c =
    rw c.pushed.ensures
    (loads_constant c.args.kind (context_of c.args.context.now) c.args.instruction.now c.in-Ldc.is)

pub returns-in-Ldlp : goal.returns-in-Ldlp
returns-in-Ldlp c =
    rw c.pushed-in-Ldlp.ensures
    (loads_address c.args.kind (context_of c.args.context.now) c.args.instruction.now _ c.word_address-address.ensures
    c.in-Ldlp.is)

pub returns-in_ok-context-in-Ldnlp : goal.returns-in_ok-context-in-Ldnlp
returns-in_ok-context-in-Ldnlp c =
    rw c.replaced.ensures
    (loads_non_local_address c.args.kind (context_of c.args.context.now) c.args.instruction.now
    c.in_ok-context-in-Ldnlp.field-0 c.in_ok-context-in-Ldnlp.was _
    c.word_address-address-in-Ldnlp.ensures c.in-Ldnlp.is)

pub returns-in_ok-sum-in-Adc : goal.returns-in_ok-sum-in-Adc
returns-in_ok-sum-in-Adc c =
    rw c.replaced-in-Adc.ensures
    (adds_constant c.args.kind (context_of c.args.context.now) c.args.instruction.now c.in_ok-context-in-Adc.field-0
    c.in_ok-context-in-Adc.was _ c.in_ok-sum-in-Adc.ensures.0 c.in_ok-sum-in-Adc.ensures.1 c.in-Adc.is)

pub returns-in_ok-context-in-Eqc : goal.returns-in_ok-context-in-Eqc
returns-in_ok-context-in-Eqc c =
    rw c.replaced-in-Eqc.ensures
    (tests_equal c.args.kind (context_of c.args.context.now) c.args.instruction.now c.in_ok-context-in-Eqc.field-0
    c.in_ok-context-in-Eqc.was _ (rw (c.get.ensures, c.get-in-Eqc.ensures) at c.truth-equal.ensures) c.in-Eqc.is)
