use Rattle.std.proofs.Common.{ℕ, List, sym, ap, ◌∙◌}
use Rattle.std.specs.List.{list_any}
use Rattle.tword.specs.Claims.{overlap, saved_words}
use Rattle.tword.proofs.SavedTable.{any-reverse}
use Rattle.tword.proofs.saved.Saved.overlap.Goals as goal

pub returns : goal.returns
returns c =
    let test = λ (w : ℕ). overlap c.args.span.now (saved_words w) in
    c.any_overlaps.ensures
    ∙ ap (λ (xs : List ℕ). list_any test xs) c.as_slice.ensures.value
    ∙ sym (any-reverse test c.self.inside.workspaces.items)
    ∙ ap (λ (xs : List ℕ). list_any test xs) c.self.view_is
