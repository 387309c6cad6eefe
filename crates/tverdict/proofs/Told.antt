-- Notes that are told to the check one after another.
use Rattle.std.proofs.Common.{◌≡◌, ◌<◌, ◌+◌, ◌∙◌, ap, refl, sym, subst, ℕ, List, [], ◌∷◌, ◌++◌, Some, arith, length}
use Rattle.std.proofs.Common.{All, ◌⊎◌, inl, inr, map, take}
use Rattle.std.specs.Prelude.{slice_get}
use Rattle.std.proofs.Math.ListN.{get_or-map}
use Rattle.std.proofs.lemmas.List.{length-map, length-set, take_more}
use Rattle.std.proofs.lemmas.List.Elements.{All-cons, All-head, All-nil, All-weaker, Contains-append_left}
use Rattle.std.proofs.lemmas.List.Elements.{Contains-append_right}
use Rattle.std.proofs.lemmas.Option.{get_or_from_slice_get, slice_get_within}
use Rattle.tagents.specs.Tables.{Access}
use Rattle.tclocks.specs.declared.mode.Mode.{Mode}
use Rattle.tclocks.specs.declared.step.PlaceAccess.{PlaceAccess}
use Rattle.tclocks.specs.declared.step.Step.{Step}
use Rattle.tclocks.specs.Checks.{Check, IsAccessed, accesses_at}
use Rattle.tclocks.specs.Followed.{AreAccessed}
use Rattle.tcertify.specs.declared.notes.Note.{Note}
use Rattle.tcertify.specs.Notes.{IsNoted}
use Rattle.tcertify.specs.Walked.{Accessed}
use Rattle.tfollow.specs.Following.{IsTold}
use Rattle.tfollow.specs.Numbering.{Places}
use Rattle.tfollow.specs.Telling.{told_mode, told_of}
use Rattle.tfollow.proofs.Telling.{notes_are_told}
use Rattle.tverdict.specs.declared.halt.Halt.{Halt}
use Rattle.tverdict.specs.declared.halt.Halt.TheVariants as halt
use Rattle.tverdict.specs.Told.{IsHalted}

-- accesses add no place
pub places_accessed : (step : Step) (told : List (Access ℕ Mode)) (c d : Check) → AreAccessed step told c d
    → length d.places ≡ length c.places
places_accessed step [] c d same = ap (λ (e : Check). length e.places) same
places_accessed step (access ∷ rest) c d (between, is, are) =
    places_accessed step rest between d are ∙ ap (λ (e : Check). length e.places) is.only
    ∙ length-set c.places access.place (accesses_at between access.place)

-- accesses add no clock
pub clocks_accessed : (step : Step) (told : List (Access ℕ Mode)) (c d : Check) → AreAccessed step told c d
    → length d.clocks ≡ length c.clocks
clocks_accessed step [] c d same = ap (λ (e : Check). length e.clocks) same
clocks_accessed step (access ∷ rest) c d (between, is, are) =
    clocks_accessed step rest between d are ∙ ap (λ (e : Check). length e.clocks) is.only

-- accesses and then others
pub accessed_twice : (step : Step) (told more : List (Access ℕ Mode)) (a b c : Check) → AreAccessed step told a b
    → AreAccessed step more b c → AreAccessed step (told ++ more) a c
accessed_twice step [] more a b c same are = subst (λ (x : Check). AreAccessed step more x c) same are
accessed_twice step (access ∷ rest) more a b c (between, is, first) are =
    (between, is, accessed_twice step rest more between b c first are)

pub halted_twice : (step : Step) (told : List (Access ℕ Mode)) (a b c : Check) (h : Halt) → AreAccessed step told a b
    → IsHalted step b c h → IsHalted step a c h
halted_twice step told a b c (halt.Race race) first r =
    record {
      told = told ++ r.told;
      made = accessed_twice step told r.told a b c first r.made;
      same = r.same;
      first = r.first;
    }
halted_twice step told a b c halt.OutOfMemory first r = tt
halted_twice step told a b c (halt.Stops why) first r = absurd r

-- what is noted in one of two lists is told with both
pub told_of_both : (places : Places) (one other : List Note) (accesses : List Accessed)
    → All (λ x. IsNoted places one x ⊎ IsNoted places other x) accesses
    → All (IsTold places (map told_of one ++ map told_of other)) accesses
told_of_both places one other accesses all =
    All-weaker (λ x. IsNoted places one x ⊎ IsNoted places other x)
    (IsTold places (map told_of one ++ map told_of other)) by accesses all
  where
    single : (notes : List Note) (x : Accessed) → IsNoted places notes x → IsTold places (map told_of notes) x
    single notes x noted =
        All-head (IsTold places (map told_of notes)) x []
        (notes_are_told places notes (x ∷ []) (All-cons (IsNoted places notes) x [] noted
        (All-nil (IsNoted places notes))))

    by : (x : Accessed) → IsNoted places one x ⊎ IsNoted places other x
        → IsTold places (map told_of one ++ map told_of other) x
    by x (inl noted) =
        let t : IsTold places (map told_of one) x = single one x noted in
        record {
          by = t.by;
          there = Contains-append_left (map told_of one) (map told_of other) t.by t.there;
          place = t.place;
          covers = t.covers;
        }
    by x (inr noted) =
        let t : IsTold places (map told_of other) x = single other x noted in
        record {
          by = t.by;
          there = Contains-append_right (map told_of one) (map told_of other) t.by t.there;
          place = t.place;
          covers = t.covers;
        }

accessed_push : (step : Step) (told : List (Access ℕ Mode)) (access : Access ℕ Mode) (before between after : Check)
    → AreAccessed step told before between → IsAccessed step access between after
    → AreAccessed step (told ++ access ∷ []) before after
accessed_push step [] access before between after h is =
    (after, subst (λ (c : Check). IsAccessed step access c after) h is, refl)
accessed_push step (first ∷ rest) access before between after (middle, h, more) is =
    (middle, h, accessed_push step rest access middle between after more is)

-- the accesses before this one are made, and agents and places are as many as before
pub record AreMade (step : Step) (accesses : List (Access ℕ Mode)) (index : ℕ) (before after : Check) : Type 0 where
  pub made : AreAccessed step (take index accesses) before after
  pub clocks : after.clocks ≡ before.clocks
  pub places : length after.places ≡ length before.places

-- one more note is told
pub more_told : (step : Step) (notes : List Note) (i : ℕ) (note : Note) (access : PlaceAccess)
    (before between after : Check) → slice_get notes i ≡ Some note → access.place ≡ note.place
    → access.mode ≡ told_mode note.mode → AreMade step (map told_of notes) i before between
    → IsAccessed step (record { place = access.place; mode = access.mode }) between after
    → AreMade step (map told_of notes) (i + 1) before after
more_told step notes i note access before between after at place mode so is =
    let within : i < length notes = slice_get_within notes i note at in
    let more : take (i + 1) (map told_of notes) ≡ take i (map told_of notes) ++ told_of note ∷ [] =
    take_more (map told_of notes) i (told_of note) (omega (arith, within, length-map notes told_of))
    ∙ ap (λ (x : Access ℕ Mode). take i (map told_of notes) ++ x ∷ [])
    (get_or-map told_of notes i note ∙ ap told_of (get_or_from_slice_get notes i note note at)) in
    let said : IsAccessed step (told_of note) between after =
    subst (λ (x : Access ℕ Mode). IsAccessed step x between after)
    (λ j. record { place = place j; mode = mode j }) is in
    record {
      made = subst (λ (xs : List (Access ℕ Mode)). AreAccessed step xs before after) (sym more)
          (accessed_push step (take i (map told_of notes)) (told_of note) before between after so.made said);
      clocks = ap (λ (c : Check). c.clocks) said.only ∙ so.clocks;
      places = ap (λ (c : Check). length c.places) said.only
          ∙ length-set between.places note.place (accesses_at after note.place) ∙ so.places;
    }
