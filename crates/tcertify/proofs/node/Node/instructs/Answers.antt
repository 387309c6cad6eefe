use Rattle.std.proofs.Common.{◌≡◌, ℕ, true, sym, ap, ◌∙◌}
use Rattle.std.proofs.lemmas.Result.{err_from_is_err_and}
use Rattle.std.specs.Prelude.{not, ◌||◌, unwrap_or}
use Rattle.tprocesses.specs.Instructions.{context_after}
use Rattle.tprocesses.specs.Uses.{Uses, has_needed}
use Rattle.tprocesses.specs.Values.{Context}
use Rattle.tcertify.specs.Contexts.{context_of, uses_with}
use Rattle.tcertify.specs.Flags.{flags_of}
use Rattle.tcertify.specs.Instructions.{outcome}
use Rattle.tcertify.specs.Words.{reason_of}
use Rattle.tcertify.proofs.Instructing.{acts_not, instructs, needs_more, reads_more, used}
use Rattle.tcertify.proofs.node.Node.instructs.Goals as goal

pub returns-then-not-has_needed-clause-done : goal.returns-then-not-has_needed-clause-done
returns-then-not-has_needed-clause-done c =
    let a = c.args.self.now in let i = c.args.instruction in
    let ctx : Context = context_of c.args.context.now in
    let top : c.unwrap_or-top.result ≡ unwrap_or ctx.a 0 =
    c.unwrap_or-top.ensures ∙ ap (λ (n : ℕ). unwrap_or ctx.a n) c.new.ensures in
    let row : uses_with c.of_instruction-uses.result (used a ctx i).written ≡ used a ctx i =
    rw top at c.of_instruction-uses.ensures in
    needs_more a ctx i
    (ap (λ (u : Uses). has_needed u.needs ctx) (sym row) ∙ sym c.has_needed.ensures ∙ c.if-not-has_needed.true)

pub returns-in_err-done-clause-done : goal.returns-in_err-done-clause-done
returns-in_err-done-clause-done c =
    let a = c.args.self.now in let i = c.args.instruction in
    let ctx : Context = context_of c.args.context.now in
    let top : c.unwrap_or-top.result ≡ unwrap_or ctx.a 0 =
    c.unwrap_or-top.ensures ∙ ap (λ (n : ℕ). unwrap_or ctx.a n) c.new.ensures in
    let row : uses_with c.of_instruction-uses.result (used a ctx i).written ≡ used a ctx i =
    rw top at c.of_instruction-uses.ensures in
    let enough : has_needed (used a ctx i).needs ctx ≡ true =
    ap (λ (u : Uses). has_needed u.needs ctx) (sym row) ∙ sym c.has_needed.ensures ∙ c.if-not-has_needed.false in
    let p = err_from_is_err_and c.from_residual.result c.from_residual.ensures.1 in
    rw (p.1, p.2)
    (acts_not a ctx i enough c.flags_before-before.new.self (flags_of c.flags_before-before.result)
    (rw c.has_flags-looks.ensures at c.flags_before-before.ensures) c.performs.new.self
    (reason_of c.in_err-done.field-0.0) (rw c.registers-registers.ensures at c.in_err-done.ensures.done))

pub returns-then-not-are_met-clause-done : goal.returns-then-not-are_met-clause-done
returns-then-not-are_met-clause-done c =
    let a = c.args.self.now in let i = c.args.instruction in
    let ctx : Context = context_of c.args.context.now in
    let top : c.unwrap_or-top.result ≡ unwrap_or ctx.a 0 =
    c.unwrap_or-top.ensures ∙ ap (λ (n : ℕ). unwrap_or ctx.a n) c.new.ensures in
    let row : uses_with c.of_instruction-uses.result (used a ctx i).written ≡ used a ctx i =
    rw top at c.of_instruction-uses.ensures in
    let enough : has_needed (used a ctx i).needs ctx ≡ true =
    ap (λ (u : Uses). has_needed u.needs ctx) (sym row) ∙ sym c.has_needed.ensures ∙ c.if-not-has_needed.false in
    reads_more a ctx i enough c.flags_before-before.new.self (flags_of c.flags_before-before.result)
    (rw c.has_flags-looks.ensures at c.flags_before-before.ensures) c.performs.new.self
    (outcome c.performs.new.registers c.in_ok-done.done)
    (rw c.registers-registers.ensures at c.in_ok-done.ensures.done)
    (ap (λ (u : Uses). c.in_ok-done.done.known || not u.reads_known) (sym row) ∙ sym c.are_met.ensures
    ∙ c.if-not-are_met.true)

pub returns-clause-done : goal.returns-clause-done
returns-clause-done c =
    let a = c.args.self.now in let i = c.args.instruction in
    let ctx : Context = context_of c.args.context.now in
    let top : c.unwrap_or-top.result ≡ unwrap_or ctx.a 0 =
    c.unwrap_or-top.ensures ∙ ap (λ (n : ℕ). unwrap_or ctx.a n) c.new.ensures in
    let row : uses_with c.of_instruction-uses.result (used a ctx i).written ≡ used a ctx i =
    rw top at c.of_instruction-uses.ensures in
    let enough : has_needed (used a ctx i).needs ctx ≡ true =
    ap (λ (u : Uses). has_needed u.needs ctx) (sym row) ∙ sym c.has_needed.ensures ∙ c.if-not-has_needed.false in
    rw (c.behind-left.ensures (used a ctx i).written
    ∙ ap (λ (u : Uses). context_after ctx u c.in_ok-done.done.known c.performs.new.registers) row)
    (instructs a ctx i enough c.flags_before-before.new.self (flags_of c.flags_before-before.result)
    (rw c.has_flags-looks.ensures at c.flags_before-before.ensures) c.performs.new.self
    (outcome c.performs.new.registers c.in_ok-done.done)
    (rw c.registers-registers.ensures at c.in_ok-done.ensures.done) c.flags_after.new.self
    (ap (λ (u : Uses). c.in_ok-done.done.known || not u.reads_known) (sym row) ∙ sym c.are_met.ensures
    ∙ c.if-not-are_met.false)
    (rw c.has_flags-looks.ensures at c.flags_after.ensures))
