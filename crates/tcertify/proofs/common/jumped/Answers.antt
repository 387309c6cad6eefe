use Rattle.std.proofs.Common.{sym, ◌∙◌}
use Rattle.std.proofs.lemmas.Bool.{eq-eqb}
use Rattle.tcertify.specs.Contexts.{context_of}
use Rattle.tcertify.proofs.Leaving.{jumps, jumps_not, no_zero}
use Rattle.tcertify.proofs.common.jumped.Goals as goal

pub returns-then-get-ne0 : goal.returns-then-get-ne0
returns-then-get-ne0 c = λ kind.
    let ctx = context_of c.args.context.now in
    rw c.popped.ensures
    (jumps_not kind ctx c.args.instruction.now c.args.a c.requires.known
    (no_zero c.args.a (λ e. c.if-get-ne0.true (c.get.ensures ∙ e))) c.requires.function)

pub returns : goal.returns
returns c = λ kind.
    let ctx = context_of c.args.context.now in
    rw (c.plus.ensures, c.plus-target.ensures, c.new.ensures, c.from.ensures)
    (jumps kind ctx c.args.instruction.now c.args.a c.requires.known
    (eq-eqb c.args.a 0 (sym c.get.ensures ∙ c.if-get-ne0.false)) c.requires.function)
