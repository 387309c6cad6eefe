use Rattle.std.proofs.Common.{sym, ap, ◌∙◌, Some}
use Rattle.std.specs.Prelude.{unwrap_or}
use Rattle.tcode.specs.declared.instruction.Operation.{Operation}
use Rattle.tcode.specs.declared.instruction.Operation.TheVariants.{Lb, Ret, Lend, Sb, Move}
use Rattle.tcpu.specs.Effects.{effect}
use Rattle.tprocesses.specs.Uses.{known_writes, operation_uses, uses_of}
use Rattle.tcertify.specs.Contexts.{context_of}
use Rattle.tcertify.specs.Words.{site_of}
use Rattle.tcertify.proofs.Locals.{at_operation, none_alone, operation_alone, runs_alone}
use Rattle.tcertify.proofs.local.do_operation.Goals as goal

pub returns-in-Lb-clause-done : goal.returns-in-Lb-clause-done
returns-in-Lb-clause-done c =
    let w = c.args.words.now in let r = c.args.registers.now in let i = c.args.instruction in
    let ctx = context_of c.args.context.now in
    at_operation (site_of w) w.kind ctx i r w _ Lb _ c.requires.function
    (sym c.in-Some.ensures ∙ ap (λ (o : Operation). Some o) c.in-Lb.is)
    (rw c.advance.ensures at (c.load_byte.ensures.done r))

pub returns-in-Sb-clause-done : goal.returns-in-Sb-clause-done
returns-in-Sb-clause-done c =
    let w = c.args.words.now in let r = c.args.registers.now in let i = c.args.instruction in
    let ctx = context_of c.args.context.now in
    at_operation (site_of w) w.kind ctx i r w _ Sb _ c.requires.function
    (sym c.in-Some.ensures ∙ ap (λ (o : Operation). Some o) c.in-Sb.is)
    (rw (c.advance-in-Sb.ensures, c.is_some.ensures) at (c.store_byte.ensures.done r))

pub returns-in-Ret-clause-done : goal.returns-in-Ret-clause-done
returns-in-Ret-clause-done c =
    let w = c.args.words.now in let r = c.args.registers.now in let i = c.args.instruction in
    let ctx = context_of c.args.context.now in
    at_operation (site_of w) w.kind ctx i r w _ Ret _ c.requires.function
    (sym c.in-Some.ensures ∙ ap (λ (o : Operation). Some o) c.in-Ret.is)
    (rw c.advance-in-Ret.ensures at (c.return_to_caller.ensures.done r))

pub returns-in-Lend-clause-done : goal.returns-in-Lend-clause-done
returns-in-Lend-clause-done c =
    let w = c.args.words.now in let r = c.args.registers.now in let i = c.args.instruction in
    let ctx = context_of c.args.context.now in
    at_operation (site_of w) w.kind ctx i r w _ Lend _ c.requires.function
    (sym c.in-Some.ensures ∙ ap (λ (o : Operation). Some o) c.in-Lend.is)
    (rw c.advance-in-Lend.ensures at (c.loop_end.ensures.done r))

pub returns-in-Move-clause-done : goal.returns-in-Move-clause-done
returns-in-Move-clause-done c =
    let w = c.args.words.now in let r = c.args.registers.now in let i = c.args.instruction in
    let ctx = context_of c.args.context.now in
    at_operation (site_of w) w.kind ctx i r w _ Move _ c.requires.function
    (sym c.in-Some.ensures ∙ ap (λ (o : Operation). Some o) c.in-Move.is)
    (rw c.advance-in-Move.ensures at
    (c.move_bytes.ensures.done r (known_writes ctx (operation_uses Move))))

pub returns-in_default-clause-done : goal.returns-in_default-clause-done
returns-in_default-clause-done c =
    let w = c.args.words.now in let r = c.args.registers.now in let i = c.args.instruction in
    let ctx = context_of c.args.context.now in
    runs_alone (site_of w) (known_writes ctx (uses_of w.kind i (unwrap_or ctx.a 0))) (effect w.kind i r) w _
    (none_alone (site_of w) w.kind ctx i r c.requires.function (sym c.operation_of.ensures ∙ c.in_default.is))
    (λ t. rw c.requires.kind at
    (c.do_alone.ensures.done (site_of w) (known_writes ctx (uses_of w.kind i (unwrap_or ctx.a 0))) t))

pub do_alone-requires : goal.do_alone-requires
do_alone-requires c =
    let w = c.args.words.now in let r = c.args.registers.now in let i = c.args.instruction in
    let ctx = context_of c.args.context.now in
    rw c.requires.kind
    (none_alone (site_of w) w.kind ctx i r c.requires.function (sym c.operation_of.ensures ∙ c.in_default.is))

pub returns-in_default-operation-clause-done : goal.returns-in_default-operation-clause-done
returns-in_default-operation-clause-done c =
    let w = c.args.words.now in let r = c.args.registers.now in let i = c.args.instruction in
    let ctx = context_of c.args.context.now in
    runs_alone (site_of w) (known_writes ctx (uses_of w.kind i (unwrap_or ctx.a 0))) (effect w.kind i r) w _
    (operation_alone (site_of w) w.kind ctx i r c.in-Some.operation c.requires.function (sym c.in-Some.ensures)
    c.in_default-operation.not-Lb c.in_default-operation.not-Ret c.in_default-operation.not-Lend
    c.in_default-operation.not-Sb c.in_default-operation.not-Move)
    (λ t. rw c.requires.kind at
    (c.do_alone-in_default-operation.ensures.done (site_of w)
    (known_writes ctx (uses_of w.kind i (unwrap_or ctx.a 0))) t))

pub do_alone-requires-in_default-operation : goal.do_alone-requires-in_default-operation
do_alone-requires-in_default-operation c =
    let w = c.args.words.now in let r = c.args.registers.now in let i = c.args.instruction in
    let ctx = context_of c.args.context.now in
    rw c.requires.kind
    (operation_alone (site_of w) w.kind ctx i r c.in-Some.operation c.requires.function (sym c.in-Some.ensures)
    c.in_default-operation.not-Lb c.in_default-operation.not-Ret c.in_default-operation.not-Lend
    c.in_default-operation.not-Sb c.in_default-operation.not-Move)
