use Rattle.std.proofs.Common.{◌<◌, ℕ, refl, length, sym, subst, ap, ◌∙◌, List}
use Rattle.std.specs.Prelude.{option_map, slice_get}
use Rattle.std.proofs.lemmas.Option.{slice_get_read}
use Rattle.tprocesses.specs.Touching.{Site, word_for}
use Rattle.tcertify.specs.declared.notes.Mode.TheVariants.{Looks}
use Rattle.tcertify.specs.declared.stored.StoredWord.{StoredWord}
use Rattle.tcertify.specs.Cells.{cells_of}
use Rattle.tcertify.specs.Words.{use_of}
use Rattle.tcertify.proofs.Noting.{has_look, runs_noted}
use Rattle.tcertify.proofs.Unsaving.{has_other_use, has_use}
use Rattle.tcertify.proofs.stored.Words.expect_word.Goals as goal

pub returns-then-not-is_same-clause-change : goal.returns-then-not-is_same-clause-change
returns-then-not-is_same-clause-change c =
    let w = c.args.self.now in let v = c.note.new.self in
    let words = v.items.items in let stored = c.index-stored.result.now in
    let inside = subst (λ (n : ℕ). c.args.number < n) (sym (ap length c.note.ensures.items)) c.requires in
    let there = slice_get_read words (length words) c.args.number stored refl inside c.index-stored.ensures in
    runs_noted (λ (s : Site). word_for s (use_of c.args.used) c.args.number) w v v c.args.number Looks _ c.note.ensures
    (has_other_use v c.args.number stored there (has_look v c.args.number Looks c.note.ensures.tells refl)
    (use_of c.args.used) (sym c.is_same.ensures ∙ c.if-not-is_same.true))

pub returns-clause-change : goal.returns-clause-change
returns-clause-change c =
    let w = c.args.self.now in let v = c.note.new.self in
    let words = v.items.items in let stored = c.index-stored.result.now in
    let inside = subst (λ (n : ℕ). c.args.number < n) (sym (ap length c.note.ensures.items)) c.requires in
    let there = slice_get_read words (length words) c.args.number stored refl inside c.index-stored.ensures in
    runs_noted (λ (s : Site). word_for s (use_of c.args.used) c.args.number) w v v c.args.number Looks _ c.note.ensures
    (has_use v c.args.number stored there (has_look v c.args.number Looks c.note.ensures.tells refl)
    (use_of c.args.used) (sym c.is_same.ensures ∙ c.if-not-is_same.false))

pub returns-clause-cells : goal.returns-clause-cells
returns-clause-cells c =
    let w = c.args.self.now in let v = c.note.new.self in
    let words = v.items.items in let stored = c.index-stored.result.now in
    let inside = subst (λ (n : ℕ). c.args.number < n) (sym (ap length c.note.ensures.items)) c.requires in
    let there = slice_get_read words (length words) c.args.number stored refl inside c.index-stored.ensures in
    sym (ap (λ (ws : List StoredWord). option_map (λ x. cells_of x.cells) (slice_get ws c.args.number))
    (sym c.note.ensures.items)
    ∙ ap (option_map (λ x. cells_of x.cells)) there)
