-- Of what kind 1 does not list, kind 2 lists only `dup`.
use Rattle.std.proofs.Common.{◌≡◌, ◌∙◌, ℕ, sym, List, [], ◌∷◌, Option, Some, None, find, Bool, true, false, cond}
use Rattle.std.specs.Prelude.{◌==◌, ◌&&◌}
use Rattle.std.proofs.lemmas.Bool.{ne_eqb}
use Rattle.tword.specs.declared.kind.Kind.{Kind}
use Rattle.tword.specs.declared.kind.Kind.TheVariants.{One, Two}
use Rattle.tcode.specs.declared.instruction.Operation.{Operation}
use Rattle.tcode.specs.declared.instruction.Operation.TheVariants.{Dup}
use Rattle.tcode.specs.Table.{operation_entry, operation_at, is_of, all_operations}
use Rattle.tcode.proofs.codes.further_operation_of.Goals as goal

passed : (b : Bool) (o : Operation) (x y : Option Operation) → (x ≡ None → y ≡ None)
    → cond b (Some o) x ≡ None → cond b (Some o) y ≡ None
passed true o x y f h = cc
passed false o x y f h = f h

unlisted : (kind : Kind) (n : ℕ) → (n ≡ 0x5a → ⊥) → (os : List Operation)
    → find (λ o. is_of o One && (operation_entry o).code == n) os ≡ None
    → find (λ o. is_of o kind && (operation_entry o).code == n) os ≡ None
unlisted One n other os h = h
unlisted Two n other [] h = h
unlisted Two n other (Dup ∷ os) h = rw (ne_eqb 0x5a n (λ e. other (sym e))) (unlisted Two n other os h)
unlisted Two n other (o ∷ os) h = passed ((operation_entry o).code == n) o _ _ (unlisted Two n other os) h

pub returns-in_default : goal.returns-in_default
unfolding operation_at
returns-in_default c =
    sym (unlisted c.args.kind c.args.operand (λ e. c.in_default.in_default-own.rest.1 (c.get.ensures ∙ e))
    all_operations
    c.requires)
