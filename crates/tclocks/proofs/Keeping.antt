-- What is kept of all places, before and after one of them has an access more.
use Rattle.std.proofs.Common.{◌≡◌, ◌≢◌, ℕ, ◌<◌, inl, inr, List, [], ◌∷◌, ◌++◌, map, length, ap, refl, sym, ◌∙◌}
use Rattle.std.proofs.Common.{zero, suc, subst, arith, slice_index, slice_index_or, slice_set, replicate, Result, Ok}
use Rattle.std.proofs.Common.{Err, OnOk, OnErr, Bool, true, false}
use Rattle.std.proofs.lemmas.List.{get_or-map, map-append, length-map, ext_get_or}
use Rattle.std.proofs.lemmas.List.{get_or-set_same, get_or-set_other, length-set}
use Rattle.std.proofs.Math.Seq.{map-set_same}
use Rattle.tclocks.specs.declared.step.Access.{Access}
use Rattle.tclocks.specs.declared.kept.Kept.{Kept}
use Rattle.tclocks.specs.declared.kept.Kept.TheVariants.{OfOne, UpToTwo, TwoChanges, PutAndChange, InList}
use Rattle.tclocks.specs.Places.{first_race, NotesAccess}
use Rattle.tclocks.specs.Kept.{accesses_of, AreOwned, IsOwned, IsBrief, IsNotedBriefly, IsKeptAt, IsNotedAt}
use Rattle.tclocks.specs.Tables.{kept_at, IsNotedOnly}
use Rattle.tclocks.proofs.Accessing.{same-or-not}

-- what is kept of all
abbrev pub all_of : List (List Access) → List Kept → List (List Access)
all_of lists kept = map (accesses_of lists) kept

pub at-place : (lists : List (List Access)) (kept : List Kept) (place : ℕ) → place < length kept
    → slice_index_or (all_of lists kept) place [] ≡ accesses_of lists (kept_at kept place)
at-place lists kept place within = get_or-map (accesses_of lists) kept place (OfOne false 0 0 0) [] within

pub within-all : (lists : List (List Access)) (kept : List Kept) (all : List (List Access)) (place : ℕ)
    → all_of lists kept ≡ all → place < length all → place < length kept
within-all lists kept all place e h =
    omega (arith, h, length-map kept (accesses_of lists), ap (λ (list : List (List Access)). length list) e)

-- where one place keeps something else, the others stay
pub one-changed : (lists lists' : List (List Access)) (kept kept' : List Kept) (place : ℕ)
    → length kept' ≡ length kept → place < length kept
    → ((q : ℕ) → q < length kept → q ≢ place
    → accesses_of lists' (kept_at kept' q) ≡ accesses_of lists (kept_at kept q))
    → all_of lists' kept' ≡ slice_set (all_of lists kept) place (accesses_of lists' (kept_at kept' place))
one-changed lists lists' kept kept' place same within others =
    ext_get_or [] (all_of lists' kept') (slice_set (all_of lists kept) place (accesses_of lists' (kept_at kept' place)))
    (length-map kept' (accesses_of lists') ∙ same ∙ sym (length-map kept (accesses_of lists))
    ∙ sym (length-set (all_of lists kept) place (accesses_of lists' (kept_at kept' place))))
    (λ q h. (let below : q < length kept = omega (arith, h, length-map kept' (accesses_of lists'), same) in
    let mine : slice_index_or (all_of lists' kept') q [] ≡ accesses_of lists' (kept_at kept' q) =
    at-place lists' kept' q (omega (arith, below, same)) in
    elim (same-or-not q place) as (λ _. slice_index_or (all_of lists' kept') q []
    ≡ slice_index_or (slice_set (all_of lists kept) place (accesses_of lists' (kept_at kept' place))) q []) [
      | inl e ↦ mine ∙ ap (λ (i : ℕ). accesses_of lists' (kept_at kept' i)) e
          ∙ sym (get_or-set_same (all_of lists kept) place (accesses_of lists' (kept_at kept' place)) []
          (omega (arith, within, length-map kept (accesses_of lists))))
          ∙ ap (λ (i : ℕ). slice_index_or
          (slice_set (all_of lists kept) place (accesses_of lists' (kept_at kept' place))) i []) (sym e)
      | inr away ↦ mine ∙ others q below away ∙ sym (at-place lists kept q below)
          ∙ sym (get_or-set_other (all_of lists kept) place q (accesses_of lists' (kept_at kept' place)) [] away)
    ]))

pub changed-at : (clock : List ℕ) (new : Access) (lists lists' : List (List Access)) (kept kept' : List Kept)
    (place : ℕ) → length kept' ≡ length kept → place < length kept
    → ((q : ℕ) → q < length kept → q ≢ place
    → accesses_of lists' (kept_at kept' q) ≡ accesses_of lists (kept_at kept q))
    → NotesAccess clock new (accesses_of lists (kept_at kept place)) (accesses_of lists' (kept_at kept' place))
    → IsKeptAt clock new place (all_of lists kept) (all_of lists' kept')
changed-at clock new lists lists' kept kept' place same within others notes =
    let was : slice_index_or (all_of lists kept) place [] ≡ accesses_of lists (kept_at kept place) =
    at-place lists kept place within in
    let is : slice_index_or (all_of lists' kept') place [] ≡ accesses_of lists' (kept_at kept' place) =
    at-place lists' kept' place (omega (arith, within, same)) in
    record {
      noted = subst (λ (list : List Access). NotesAccess clock new list (slice_index_or (all_of lists' kept') place []))
          (sym was) (subst (λ (list : List Access). NotesAccess clock new (accesses_of lists (kept_at kept place)) list)
          (sym is) notes);
      only = one-changed lists lists' kept kept' place same within others
          ∙ ap (λ (list : List Access). slice_set (all_of lists kept) place list) (sym is);
    }

others-same : (kept : List Kept) (place : ℕ) (new : Kept) (q : ℕ) → q ≢ place
    → kept_at (slice_set kept place new) q ≡ kept_at kept q
others-same kept place new q away = get_or-set_other kept place q new (OfOne false 0 0 0) away

-- what is kept of one place changes, and no list
pub changed-briefly : (clock : List ℕ) (new : Access) (lists : List (List Access)) (kept : List Kept) (place : ℕ)
    (after : Kept) → place < length kept
    → NotesAccess clock new (accesses_of lists (kept_at kept place)) (accesses_of lists after)
    → IsKeptAt clock new place (all_of lists kept) (all_of lists (slice_set kept place after))
changed-briefly clock new lists kept place after within notes =
    changed-at clock new lists lists kept (slice_set kept place after) place (length-set kept place after) within
    (λ q h away. ap (λ (k : Kept). accesses_of lists k) (others-same kept place after q away))
    (subst (λ (k : Kept). NotesAccess clock new (accesses_of lists (kept_at kept place)) (accesses_of lists k))
    (sym (get_or-set_same kept place after (OfOne false 0 0 0) within)) notes)

pub noted-briefly : (clock : List ℕ) (new : Access) (lists : List (List Access)) (kept : List Kept) (place : ℕ)
    (after : Kept) → place < length kept → IsNotedBriefly clock new (kept_at kept place) after
    → IsNotedAt clock new place (all_of lists kept) (all_of lists (slice_set kept place after))
noted-briefly clock new lists kept place after within is =
    let changed : IsKeptAt clock new place (all_of lists kept) (all_of lists (slice_set kept place after)) =
    changed-briefly clock new lists kept place after within (is.noted lists) in
    record {
      permitted = ap (λ (list : List Access). first_race new.step.agent clock new.mode list)
          (at-place lists kept place within) ∙ is.permitted lists;
      noted = changed.noted;
      only = changed.only;
    }

-- a list that is not a place's does not matter to it
pub other-list : (lists : List (List Access)) (list : ℕ) (new : List Access) (kept : Kept) → kept ≢ InList list
    → accesses_of (slice_set lists list new) kept ≡ accesses_of lists kept
other-list lists list new (OfOne claims agent put look) other = refl
other-list lists list new (UpToTwo ways agents numbers) other = refl
other-list lists list new (TwoChanges kind agents numbers) other = refl
other-list lists list new (PutAndChange kind agents numbers) other = refl
other-list lists list new (InList of) other =
    get_or-set_other lists list of new [] (λ e. other (ap (λ (n : ℕ). InList n) e))

-- what an owner's list is
pub owned-list : (kept : List Kept) (lists : List (List Access)) (owners : List ℕ) → AreOwned kept lists owners
    → (place list : ℕ) → place < length kept → kept_at kept place ≡ InList list
    → (list < length lists) × (slice_index owners list ≡ place)
owned-list kept lists owners are place list within e =
    let owns : (list < length owners) × (slice_index owners list ≡ place) =
    subst (λ (k : Kept). IsOwned owners place k) e (are.owned place within) in
    (omega (arith, owns.0, are.same), owns.1)

-- an access is noted in the list of a place
pub changed-list : (clock : List ℕ) (new : Access) (lists : List (List Access)) (kept : List Kept) (owners : List ℕ)
    (place list : ℕ) (after : List Access) → AreOwned kept lists owners → place < length kept
    → kept_at kept place ≡ InList list → NotesAccess clock new (slice_index_or lists list []) after
    → IsKeptAt clock new place (all_of lists kept) (all_of (slice_set lists list after) kept)
changed-list clock new lists kept owners place list after are within e notes =
    let mine : (list < length lists) × (slice_index owners list ≡ place) =
    owned-list kept lists owners are place list within e in
    changed-at clock new lists (slice_set lists list after) kept kept place refl within
    (λ q h away. other-list lists list after (kept_at kept q)
    (λ f. away (sym (owned-list kept lists owners are q list h f).1 ∙ mine.1)))
    (subst (λ (k : Kept). NotesAccess clock new (accesses_of lists k) (accesses_of (slice_set lists list after) k))
    (sym e)
    (subst (λ (own : List Access). NotesAccess clock new (slice_index_or lists list []) own)
    (sym (get_or-set_same lists list after [] mine.0)) notes))

-- an access is noted at a place that gets a list
pub changed-into-list : (clock : List ℕ) (new : Access) (lists : List (List Access)) (kept : List Kept)
    (place list : ℕ) (after : List Access) → place < length kept → list < length lists
    → ((q : ℕ) → q < length kept → kept_at kept q ≢ InList list)
    → NotesAccess clock new (accesses_of lists (kept_at kept place)) after
    → IsKeptAt clock new place (all_of lists kept)
    (all_of (slice_set lists list after) (slice_set kept place (InList list)))
changed-into-list clock new lists kept place list after within there unused notes =
    changed-at clock new lists (slice_set lists list after) kept (slice_set kept place (InList list)) place
    (length-set kept place (InList list)) within
    (λ q h away. ap (λ (k : Kept). accesses_of (slice_set lists list after) k)
    (others-same kept place (InList list) q away) ∙ other-list lists list after (kept_at kept q) (unused q h))
    (subst (λ (k : Kept). NotesAccess clock new (accesses_of lists (kept_at kept place))
    (accesses_of (slice_set lists list after) k))
    (sym (get_or-set_same kept place (InList list) (OfOne false 0 0 0) within))
    (subst (λ (own : List Access). NotesAccess clock new (accesses_of lists (kept_at kept place)) own)
    (sym (get_or-set_same lists list after [] there)) notes))

-- what is kept of a place is kept in another way
pub kept-otherwise : (lists : List (List Access)) (kept : List Kept) (place : ℕ) (after : Kept)
    → accesses_of lists after ≡ accesses_of lists (kept_at kept place)
    → all_of lists (slice_set kept place after) ≡ all_of lists kept
kept-otherwise lists kept place after e = map-set_same (accesses_of lists) kept place after (OfOne false 0 0 0) e

-- the same holds whether there is memory for it or not
pub kept-or-not : {E : Type 0} (r : Result (Unit {0}) E) (lists : List (List Access)) (kept kept' : List Kept)
    (place : ℕ) (after : Kept) → accesses_of lists after ≡ accesses_of lists (kept_at kept place)
    → OnOk r (kept' ≡ slice_set kept place after) → OnErr r (kept' ≡ kept) → all_of lists kept' ≡ all_of lists kept
kept-or-not (Ok x) lists kept kept' place after e ok err =
    ap (λ (k : List Kept). all_of lists k) ok ∙ kept-otherwise lists kept place after e
kept-or-not (Err x) lists kept kept' place after e ok err = ap (λ (k : List Kept). all_of lists k) err

-- one more list does not matter to anybody
more-lists : (lists : List (List Access)) (kept : Kept) → accesses_of (lists ++ [] ∷ []) kept ≡ accesses_of lists kept
more-lists lists (OfOne claims agent put look) = refl
more-lists lists (UpToTwo ways agents numbers) = refl
more-lists lists (TwoChanges kind agents numbers) = refl
more-lists lists (PutAndChange kind agents numbers) = refl
more-lists lists (InList list) = more list lists
  where
    more : (i : ℕ) (lists : List (List Access)) → slice_index_or (lists ++ [] ∷ []) i [] ≡ slice_index_or lists i []
    more zero [] = refl
    more (suc i) [] = refl
    more zero (x ∷ xs) = refl
    more (suc i) (x ∷ xs) = more i xs

pub one-more-list : (lists : List (List Access)) (kept : List Kept)
    → all_of (lists ++ [] ∷ []) kept ≡ all_of lists kept
one-more-list lists [] = refl
one-more-list lists (k ∷ ks) =
    ap (λ (list : List Access). list ∷ all_of (lists ++ [] ∷ []) ks) (more-lists lists k)
    ∙ ap (λ (all : List (List Access)). accesses_of lists k ∷ all) (one-more-list lists ks)

-- new places keep nothing
pub nothing-of : (lists : List (List Access)) (n : ℕ) → all_of lists (replicate n (OfOne false 0 0 0)) ≡ replicate n []
nothing-of lists zero = refl
nothing-of lists (suc n) = ap (λ (all : List (List Access)). [] ∷ all) (nothing-of lists n)

pub more-places : (lists : List (List Access)) (kept : List Kept) (n : ℕ)
    → all_of lists (kept ++ replicate n (OfOne false 0 0 0)) ≡ all_of lists kept ++ replicate n []
more-places lists kept n =
    map-append (accesses_of lists) kept (replicate n (OfOne false 0 0 0))
    ∙ ap (λ (all : List (List Access)). all_of lists kept ++ all) (nothing-of lists n)

pub on-ok : {T E P Q : Type 0} (r : Result T E) → (P → Q) → OnOk r P → OnOk r Q
on-ok (Ok x) f h = f h
on-ok (Err e) f h = tt

-- where the value of all places is known
pub noted-now : (clock : List ℕ) (new : Access) (lists : List (List Access)) (kept : List Kept) (place : ℕ)
    (after : Kept) (now : List (List Access)) → place < length kept → all_of lists kept ≡ now
    → IsNotedBriefly clock new (kept_at kept place) after
    → IsNotedAt clock new place now (all_of lists (slice_set kept place after))
noted-now clock new lists kept place after now within e is =
    subst (λ (all : List (List Access)). IsNotedAt clock new place all (all_of lists (slice_set kept place after))) e
    (noted-briefly clock new lists kept place after within is)

pub kept-now : (clock : List ℕ) (new : Access) (place : ℕ) (all after now : List (List Access)) → all ≡ now
    → IsKeptAt clock new place all after → IsKeptAt clock new place now after
kept-now clock new place all after now e is =
    subst (λ (before : List (List Access)). IsKeptAt clock new place before after) e is

-- a place that needs no list owns none
pub owned-briefly : (kept : List Kept) (lists : List (List Access)) (owners : List ℕ) (place : ℕ) (after : Kept)
    → AreOwned kept lists owners → IsBrief after → AreOwned (slice_set kept place after) lists owners
owned-briefly kept lists owners place after are brief = record {
  same = are.same;
  owned = λ q h. (let below : q < length kept = omega (arith, h, length-set kept place after) in
      elim (same-or-not q place) as (λ _. IsOwned owners q (kept_at (slice_set kept place after) q)) [
        | inl e ↦ subst (λ (k : Kept). IsOwned owners q k)
            (sym (ap (λ (i : ℕ). kept_at (slice_set kept place after) i) e
            ∙ get_or-set_same kept place after (OfOne false 0 0 0) (omega (arith, below, e)))) (none q after brief)
        | inr away ↦ subst (λ (k : Kept). IsOwned owners q k) (sym (others-same kept place after q away))
            (are.owned q below)
      ]);
}
  where
    none : (q : ℕ) (k : Kept) → IsBrief k → IsOwned owners q k
    none q (OfOne claims agent put look) h = tt
    none q (UpToTwo ways agents numbers) h = tt
    none q (TwoChanges kind agents numbers) h = tt
    none q (PutAndChange kind agents numbers) h = tt
    none q (InList list) h = absurd h

-- an access was noted in a copy of what is kept of a place
pub notes-copy : (clock : List ℕ) (new : Access) (lists lists' : List (List Access)) (kept : List Kept) (place : ℕ)
    (k : Kept) (copy copy' : List Access) → k ≡ kept_at kept place → lists' ≡ lists → copy ≡ accesses_of lists' k
    → NotesAccess clock new copy copy' → NotesAccess clock new (accesses_of lists (kept_at kept place)) copy'
notes-copy clock new lists lists' kept place k copy copy' read same is notes =
    subst (λ (list : List Access). NotesAccess clock new list copy')
    (is ∙ ap (λ (all : List (List Access)). accesses_of all k) same
    ∙ ap (λ (own : Kept). accesses_of lists own) read) notes

-- where all that is kept is the same, so is what is kept of one place
pub same-at : (lists lists' : List (List Access)) (kept : List Kept) (place : ℕ) → place < length kept
    → all_of lists' kept ≡ all_of lists kept
    → accesses_of lists' (kept_at kept place) ≡ accesses_of lists (kept_at kept place)
same-at lists lists' kept place within e =
    sym (at-place lists' kept place within) ∙ ap (λ (all : List (List Access)). slice_index_or all place []) e
    ∙ at-place lists kept place within

-- an access was noted at a place in the table, or nothing was
pub owned-noted : (b : Bool) (new : Access) (place : ℕ) (kept kept' : List Kept) (lists : List (List Access))
    (owners : List ℕ) → AreOwned kept lists owners → (b ≡ true → IsNotedOnly new place kept kept')
    → (b ≡ false → kept' ≡ kept) → AreOwned kept' lists owners
owned-noted true new place kept kept' lists owners are noted same =
    subst (λ (k : List Kept). AreOwned k lists owners) (sym (noted refl).only)
    (owned-briefly kept lists owners place (kept_at kept' place) are ((noted refl).noted []).brief)
owned-noted false new place kept kept' lists owners are noted same =
    subst (λ (k : List Kept). AreOwned k lists owners) (sym (same refl)) are

pub noted-only : (clock : List ℕ) (new : Access) (lists : List (List Access)) (kept kept' : List Kept) (place : ℕ)
    (now : List (List Access)) → place < length now → all_of lists kept ≡ now → IsNotedOnly new place kept kept'
    → IsNotedAt clock new place now (all_of lists kept')
noted-only clock new lists kept kept' place now h e is =
    subst (λ (k : List Kept). IsNotedAt clock new place now (all_of lists k)) (sym is.only)
    (noted-now clock new lists kept place (kept_at kept' place) now (within-all lists kept now place e h) e
    (is.noted clock))
