use Rattle.std.proofs.Common.{◌≡◌, ◌<◌, ℕ, ◌-◌, ◌/◌, refl, sym, subst, ap, length, arith, ◌∙◌}
use Rattle.std.proofs.lemmas.Option.{slice_get_read}
use Rattle.tword.specs.Words.{most_neg}
use Rattle.tprocesses.specs.Changes as changes
use Rattle.tprocesses.specs.Parts.{WordInUse}
use Rattle.tprocesses.specs.Touching.{word_number}
use Rattle.tprocesses.specs.Values as value
use Rattle.tcertify.specs.declared.notes.Mode.TheVariants.{Puts}
use Rattle.tcertify.specs.declared.word_use.WordUse.TheVariants.{Free}
use Rattle.tcertify.specs.Cells.{cells_of}
use Rattle.tcertify.proofs.Noting.{has_change, has_look}
use Rattle.tcertify.proofs.Places.{puts}
use Rattle.tcertify.proofs.Unsaving.{has_other_use, has_use, unsaves, unsaves_not}
use Rattle.tcertify.proofs.stored.Words.unsave_word.Goals as goal

pub returns-then-not-is_saved-clause-change : goal.returns-then-not-is_saved-clause-change
returns-then-not-is_saved-clause-change c =
    let w = c.args.self.now in let v = c.note.new.self in
    let words = v.items.items in let stored = c.index-stored.result.now in
    let number : ℕ = c.saturating_sub.result / 4 in
    let at : number ≡ word_number c.args.address =
    ap (λ (n : ℕ). n / 4) (c.saturating_sub.ensures ∙ ap (λ (n : ℕ). n - most_neg) c.get.ensures) in
    let fits : number < length w.items.items = omega (arith, at, c.requires) in
    let inside : number < length words =
    subst (λ (n : ℕ). number < n) (sym (ap length c.note.ensures.items)) fits in
    let there = slice_get_read words (length words) number stored refl inside c.index-stored.ensures in
    unsaves_not w v c.args.address number at c.note.ensures WordInUse
    (has_other_use v number stored there (has_look v number Puts c.note.ensures.tells refl) value.Saved
    (sym c.is_saved.ensures ∙ c.if-not-is_saved.true))

pub returns-clause-change : goal.returns-clause-change
returns-clause-change c =
    let w = c.args.self.now in let v = c.note.new.self in
    let words = v.items.items in let stored = c.index-stored.result.now in
    let number : ℕ = c.saturating_sub.result / 4 in
    let at : number ≡ word_number c.args.address =
    ap (λ (n : ℕ). n / 4) (c.saturating_sub.ensures ∙ ap (λ (n : ℕ). n - most_neg) c.get.ensures) in
    let fits : number < length w.items.items = omega (arith, at, c.requires) in
    let inside : number < length words =
    subst (λ (n : ℕ). number < n) (sym (ap length c.note.ensures.items)) fits in
    let there = slice_get_read words (length words) number stored refl inside c.index-stored.ensures in
    unsaves w v c.args.address number at c.note.ensures _ (cells_of stored.cells)
    (has_use v number stored there (has_look v number Puts c.note.ensures.tells refl) value.Saved
    (sym c.is_saved.ensures ∙ c.if-not-is_saved.false))
    (puts v c.set.new.self number stored stored.cells Free there c.set.ensures
    (has_change v number Puts c.note.ensures.tells
    (changes.Put (value.IsWord (record { cells = cells_of stored.cells; used = value.Free }))) refl))
