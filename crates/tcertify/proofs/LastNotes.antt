-- A note that is replaced by one that tells of more.
use Rattle.std.proofs.Common.{◌≡◌, ◌≤◌, ℕ, refl, sym, subst, ap, ◌∙◌, ◌⊎◌, inl, inr, List, length, get_or, set}
use Rattle.std.proofs.Common.{true, Some, arith}
use Rattle.std.specs.Prelude.{Contains, slice_get}
use Rattle.std.proofs.lemmas.Bool.{cases_eq}
use Rattle.std.proofs.lemmas.Option.{get_or_from_slice_get, same_Some, slice_get_read, slice_get_within}
use Rattle.tagents.specs.WalkAccesses as walks
use Rattle.tprocesses.specs.Places.{Place}
use Rattle.tprocesses.specs.Changes.{ChangeKind}
use Rattle.tcertify.specs.declared.notes.Mode.{Mode}
use Rattle.tcertify.specs.declared.notes.Note.{Note}
use Rattle.tcertify.specs.declared.notes.Notes.{Notes}
use Rattle.tcertify.specs.Notes.{IsNoted, Keeps, MayRaise, Numbering, Tells, tells_of}
use Rattle.tcertify.specs.Walked.{Accessed}
use Rattle.tcertify.proofs.Places.{set_elsewhere, set_here}

-- what stands in a list is one of its items
contains_from : (notes : List Note) (k : ℕ) (x : Note) → slice_get notes k ≡ Some x → Contains notes x
contains_from notes k x e = (k, slice_get_within notes k x e, get_or_from_slice_get notes k x x e)

module _ (notes : List Note) (k : ℕ) (x y : Note) (there : slice_get notes k ≡ Some x) (same : y.place ≡ x.place)
    (tells : (p : Place) (a : walks.Mode ChangeKind) → tells_of x.mode p a ≡ true → tells_of y.mode p a ≡ true) where
  replaced_there : slice_get (set notes k y) k ≡ Some y
  replaced_there = set_here notes k y x there

  still_noted : (numbering : Numbering) (access : Accessed) → IsNoted numbering notes access
      → IsNoted numbering (set notes k y) access
  still_noted numbering access h = by (cases_eq k h.there.0)
    where
      found : slice_get notes h.there.0 ≡ Some h.note
      found = slice_get_read notes (length notes) h.there.0 h.note refl h.there.1 (sym h.there.2)

      by : (k ≡ h.there.0) ⊎ (k ≡ h.there.0 → ⊥) → IsNoted numbering (set notes k y) access
      by (inl e) =
          let is : Some x ≡ Some h.note = sym there ∙ ap (slice_get notes) e ∙ found in
          let note : x ≡ h.note = cc in
          record {
            note = y;
            there = contains_from (set notes k y) k y replaced_there;
            place = h.place ∙ sym (ap (λ (n : Note). n.place) note) ∙ sym same;
            tells = tells access.place access.mode
                (ap (λ (n : Note). tells_of n.mode access.place access.mode) note ∙ h.tells);
          }
      by (inr other) =
          record {
            note = h.note;
            there = contains_from (set notes k y) h.there.0 h.note
                (set_elsewhere notes k h.there.0 y other ∙ found);
            place = h.place;
            tells = h.tells;
          }

  module _ (old new : Notes) (items : old.items.items ≡ notes) (left : new.items.items ≡ set notes k y)
      (lost : new.is_lost ≡ old.is_lost) (earlier : new.earlier ≡ old.earlier) where
    pub replaced_keeps : old.earlier ≤ k → Keeps old new
    replaced_keeps high =
        record {
          lost = λ e. sym lost ∙ e;
          notes = λ e numbering access h. subst (λ (l : List Note). IsNoted numbering l access) (sym left)
              (still_noted numbering access
              (subst (λ (l : List Note). IsNoted numbering l access) items h));
          earlier = earlier;
          stay = λ j note low at.
              let other : k ≡ j → ⊥ = λ e. omega (arith, high, low, e) in
              ap (λ (l : List Note). slice_get l j) left ∙ set_elsewhere notes k j y other
              ∙ ap (λ (l : List Note). slice_get l j) (sym items) ∙ at;
        }

    pub replaced_tells : (place : ℕ) → y.place ≡ place → Tells new place y.mode
    replaced_tells place e =
        record {
          noted = λ kept numbering access at told. subst (λ (l : List Note). IsNoted numbering l access) (sym left)
              (record {
                note = y;
                there = contains_from (set notes k y) k y replaced_there;
                place = at ∙ sym e;
                tells = told;
              });
        }

-- a note that may be raised is
module _ (old new : Notes) (k place : ℕ) (mode : Mode) (x : Note) (may : MayRaise old k place mode)
    (read : x ≡ get_or old.items.items k x)
    (left : new.items.items ≡ set old.items.items k (record x { mode = mode })) (lost : new.is_lost ≡ old.is_lost)
    (earlier : new.earlier ≡ old.earlier) where
  abbrev raised : Note
  raised = record x { mode = mode }

  it_there : slice_get old.items.items k ≡ Some x
  it_there =
      slice_get_read old.items.items (length old.items.items) k x refl
      (slice_get_within old.items.items k may.note may.there) read

  it_is : may.note ≡ x
  it_is = same_Some may.note x (sym may.there ∙ it_there)

  it_tells : (p : Place) (a : walks.Mode ChangeKind) → tells_of x.mode p a ≡ true → tells_of mode p a ≡ true
  it_tells p a e = may.tells p a (ap (λ (n : Note). tells_of n.mode p a) it_is ∙ e)

  pub raised_keeps : Keeps old new
  raised_keeps =
      replaced_keeps old.items.items k x raised it_there refl it_tells old new refl left lost earlier may.late

  pub raised_tells : Tells new place mode
  raised_tells =
      replaced_tells old.items.items k x raised it_there refl it_tells old new refl left lost earlier place
      (ap (λ (n : Note). n.place) (sym it_is) ∙ may.same)
