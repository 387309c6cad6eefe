-- What notes tell of is told with them.
use Rattle.std.proofs.Common.{◌≡◌, ◌⊎◌, ℕ, sym, ap, ◌∙◌, subst, true, List, [], ◌∷◌, map, Contains, inl, inr, arith}
use Rattle.std.proofs.lemmas.List.Elements.{All-contains}
use Rattle.tclocks.specs.declared.mode.Mode as clocks
use Rattle.tclocks.specs.Modes.{covers}
use Rattle.tclocks.specs.Checks.{accesses_at}
use Rattle.tclocks.specs.Own.{IsOwnYet}
use Rattle.tclocks.specs.Followed.{HasCover}
use Rattle.tclocks.proofs.Lists.{contains-cons, contains-first, contains-rest}
use Rattle.tclocks.proofs.ModeLemmas.{covers-trans}
use Rattle.tprocesses.specs.Places.{Place, Sending}
use Rattle.tcertify.specs.declared.notes.Mode.{Mode}
use Rattle.tcertify.specs.declared.notes.Note.{Note}
use Rattle.tcertify.specs.Notes.{tells_of_value, tells_of_outputs, tells_of, IsNoted}
use Rattle.tcertify.specs.Walked.{Accessed}
use Rattle.tfollow.specs.Modes.{Manner, outputs_mode, value_mode, mode_at}
use Rattle.tfollow.specs.Numbering.{Places}
use Rattle.tfollow.specs.Following.{Told, IsTold, IsToldOrOwn}
use Rattle.tfollow.specs.Telling.{told_mode, told_of, NotesAreTold, NotesAreToldOrOwn}

value-covered : (m : Mode) (k : Manner) → tells_of_value m k ≡ true → covers (told_mode m) (value_mode k) ≡ true
value-covered m k h = grind arith

outputs-covered : (m : Mode) (k : Manner) → tells_of_outputs m k ≡ true → covers (told_mode m) (outputs_mode k) ≡ true
outputs-covered m k h = grind arith

place-covered : (m : Mode) (p : Place) (k : Manner) → tells_of m p k ≡ true
    → covers (told_mode m) (mode_at p k) ≡ true
place-covered m (Sending n w) k h = outputs-covered m k h
place-covered m _ k h = value-covered m k h

contains-map : {A B : Type 0} (f : A → B) (xs : List A) (x : A) → Contains xs x → Contains (map f xs) (f x)
contains-map f [] x has = absurd (omega (arith, has.1))
contains-map f (y ∷ ys) x has = elim (contains-cons y ys x has) as (λ _. Contains (map f (y ∷ ys)) (f x)) [
  | inl here ↦ (0, omega arith, ap f here)
  | inr there ↦ contains-rest (f y) (map f ys) (f x) (contains-map f ys x there)
]

is-told : (places : Places) (notes : List Note) (access : Accessed) → IsNoted places notes access
    → IsTold places (map told_of notes) access
is-told places notes access noted =
    record {
      by = told_of noted.note;
      there = contains-map told_of notes noted.note noted.there;
      place = sym noted.place;
      covers = place-covered noted.note.mode access.place access.mode noted.tells;
    }

pub notes_are_told : NotesAreTold
notes_are_told places notes accesses all k d h = is-told places notes _ (all k d h)

-- a cover is one of what is told
cover-there : (places : Places) (told : List Told) (access : Accessed) (place : ℕ) (mode : clocks.Mode)
    → place ≡ places access.place → covers mode (mode_at access.place access.mode) ≡ true → HasCover told place mode
    → IsTold places told access
cover-there places [] access place mode e over has = absurd has
cover-there places (x ∷ xs) access place mode e over (inl here) = record {
  by = x;
  there = contains-first x xs;
  place = here.0 ∙ e;
  covers = covers-trans x.mode mode (mode_at access.place access.mode) here.1 over;
}
cover-there places (x ∷ xs) access place mode e over (inr later) =
    let rest : IsTold places xs access = cover-there places xs access place mode e over later in record {
      by = rest.by;
      there = contains-rest x xs rest.by rest.there;
      place = rest.place;
      covers = rest.covers;
    }

pub notes_are_told_or_own : NotesAreToldOrOwn
notes_are_told_or_own places check number notes told accesses all each k d h =
    from_note _ (all k d h)
  where
    from_note : (access : Accessed) → IsNoted places notes access → IsToldOrOwn places check number told access
    from_note access noted =
        elim (All-contains (λ note. HasCover told note.place (told_mode note.mode)
        ⊎ IsOwnYet check number note.place (told_mode note.mode)) notes noted.note each noted.there) as
        (λ _. IsToldOrOwn places check number told access) [
          | inl has ↦ inl (cover-there places told access noted.note.place (told_mode noted.note.mode) (sym noted.place)
              (place-covered noted.note.mode access.place access.mode noted.tells) has)
          | inr own ↦ inr record {
            access = own.access;
            there = subst (λ (q : ℕ). Contains (accesses_at check q) own.access) (sym noted.place) own.there;
            by = own.by;
            over = covers-trans own.access.mode (told_mode noted.note.mode) (mode_at access.place access.mode) own.over
                (place-covered noted.note.mode access.place access.mode noted.tells);
            unknown = own.unknown;
          }
        ]
