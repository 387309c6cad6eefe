use Rattle.std.proofs.Common.{ℕ, List, ◌<◌, ◌≡◌, get_or, length, reverse, ◌∙◌, sym, ap, eqb, not, ◌&&◌, arith}
use Rattle.std.proofs.lemmas.List.{length-reverse, get_or_read}
use Rattle.std.proofs.lemmas.List.Sums.{sum_by-swap_remove}
use Rattle.std.specs.List.{list_any}
use Rattle.tword.specs.Slots.{saved_in, saves_word}
use Rattle.tword.proofs.SavedTable.{once_swap_remove, any-swap_remove, any-reverse, sum-reverse}
use Rattle.tword.proofs.saved.Saved.remove.Goals as goal

within : (ws seen : List ℕ) (i : ℕ) → reverse ws ≡ seen → i < length seen → i < length ws
within ws seen i e lt = omega (arith, length-reverse ws, ap (λ (xs : List ℕ). length xs) e)

pub invariant_of-self : goal.invariant_of-self
invariant_of-self c =
    let lt = within c.self.inside.workspaces.items _ c.args.place c.self.view_is c.requires in
    let size = ap (λ (xs : List ℕ). length xs) c.swap_remove-workspace.ensures.items in (
      rw c.swap_remove-workspace.ensures.items
          (once_swap_remove _ c.args.place c.swap_remove-workspace.result c.self.invariant.0 lt
          (omega (arith, size, c.swap_remove-workspace.ensures.len))),
      omega (arith, c.swap_remove-workspace.ensures.capacity),
    )

pub returns-clause-others : goal.returns-clause-others
returns-clause-others c = λ v.
    let ws = c.self.inside.workspaces.items in
    let lt = within ws _ c.args.place c.self.view_is c.requires in
    let test = λ (u : ℕ). eqb u v in
    let read = c.swap_remove-workspace.ensures.value in
    let at : get_or ws c.args.place 0 ≡ c.swap_remove-workspace.result = sym (get_or_read ws _ _ lt read 0) in
    any-reverse test c.swap_remove-workspace.new.self.items
    ∙ ap (λ (xs : List ℕ). list_any test xs) c.swap_remove-workspace.ensures.items
    ∙ any-swap_remove ws c.args.place c.swap_remove-workspace.result _ v c.self.invariant.0.once lt read at
    ∙ ap (λ b. not (eqb v c.swap_remove-workspace.result) && b) (sym (any-reverse test ws)
    ∙ ap (λ (xs : List ℕ). list_any test xs) c.self.view_is)

pub returns-clause-words : goal.returns-clause-words
returns-clause-words c = λ word.
    let ws = c.self.inside.workspaces.items in
    let lt = within ws _ c.args.place c.self.view_is c.requires in
    let removed = c.swap_remove-workspace.result in
    let left = sum-reverse (saves_word word) c.swap_remove-workspace.new.self.items in
    let here = ap (λ (xs : List ℕ). saved_in word xs) c.swap_remove-workspace.ensures.items in
    let total = sum_by-swap_remove (saves_word word) ws c.args.place removed lt in
    let same : saves_word word (get_or ws c.args.place removed) ≡ saves_word word removed =
    ap (saves_word word) (sym c.swap_remove-workspace.ensures.value) in
    let before = sum-reverse (saves_word word) ws in
    let seen = ap (λ (xs : List ℕ). saved_in word xs) c.self.view_is in
    omega (arith, left, here, total, same, before, seen)
