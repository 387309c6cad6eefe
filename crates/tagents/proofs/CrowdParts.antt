-- What begins and ends in parts: each part is within its limit, and all of them make up the whole.
use Rattle.std.proofs.Common.{ℕ, zero, suc, ◌+◌, ◌≡◌, ◌<◌, ◌≤◌, refl, ap, subst, Bool, true}
use Rattle.std.proofs.Common.{List, [], ◌∷◌, ◌++◌, inl, inr, length, take, add-one, arith}
use Rattle.std.specs.Prelude.{◌==◌, ◌&&◌, nat_lt, slice_index}
use Rattle.std.specs.List.{sum, count_by}
use Rattle.std.proofs.lemmas.Bool.{lt-ltb}
use Rattle.std.proofs.lemmas.Bool.Decides.{nat_tests}
use Rattle.std.proofs.lemmas.List.{take_all}
use Rattle.std.proofs.lemmas.List.Sums.{sum_by_more}
use Rattle.tagents.specs.Agents.{Agents, IsRun, IsOver}
use Rattle.tagents.specs.Races.{IsRaceFree, TakesNothing}
use Rattle.tagents.specs.Certificates.{IsReached, IsLawful}
use Rattle.tagents.specs.Tidy.{HoldsOfEach}
use Rattle.tagents.specs.Crowds.{in_part, PartsTellOfTheWhole}
use Rattle.tagents.proofs.Lists.{race_free, takes_nothing}
use Rattle.tagents.proofs.Fronted.{Fronted, fronted, reached_step, test}
use Rattle.tagents.proofs.Found.{both_parts, from_parts}
use Rattle.tagents.proofs.Parts.{one_if, count_front}
use Rattle.tagents.proofs.Crowded.{no_run_is_crowded}

-- each step of another run is one of the steps of the one run
module _ {State Agent Label : Type 0} (m : Agents State Agent Label) (start : State) (laws : IsLawful m start)
    (P : Label → Type 0) where
  of_others : (others : List Label) (s end s' : State) (steps : List Label) → IsReached m start s
      → IsRun m s steps end → IsOver m end → IsRaceFree m steps → TakesNothing m steps → HoldsOfEach P steps
      → IsRun m s others s' → HoldsOfEach P others
  of_others [] s end s' steps r run over free takes h other = tt
  of_others (f ∷ fs) s end s' steps r run over free takes h other =
      let fr : Fronted m start laws other.0 f steps end =
      fronted m start laws steps s other.0 end f r run over free takes other.1 in
      let k : HoldsOfEach P fr.pre × HoldsOfEach P (f ∷ fr.post) =
      both_parts P fr.pre (f ∷ fr.post) (subst (HoldsOfEach P) fr.are h) in (
        k.1.0,
        of_others fs other.0 end s' (fr.pre ++ fr.post) (reached_step m start s other.0 f r other.1) fr.run over
            (race_free m f fr.pre fr.post fr.none (subst (IsRaceFree m) fr.are free))
            (takes_nothing m f fr.pre fr.post (subst (TakesNothing m) fr.are takes))
            (from_parts P fr.pre fr.post k.0 k.1.1) other.2,
      )

module _ {Label : Type 0} (part : Label → ℕ) where
  -- what is in the first parts
  abbrev in_first : ℕ → (Label → Bool) → Label → Bool
  in_first n t f = t f && nat_lt (part f) n

  one_more : (b : Bool) (p n : ℕ) → one_if (b && nat_lt p (suc n)) ≡ one_if (b && nat_lt p n) + one_if (b && (p == n))
  one_more b p n = grind (arith, nat_tests)

  count_none : (t : Label → Bool) (fs : List Label) → count_by (in_first 0 t) fs ≡ 0
  count_none t [] = refl
  count_none t (f ∷ fs) =
      let one : one_if (t f && nat_lt (part f) 0) ≡ 0 = grind (arith, nat_tests) in
      omega (arith, count_front (in_first 0 t) f fs, one, count_none t fs)

  count_more : (t : Label → Bool) (n : ℕ) (fs : List Label)
      → count_by (in_first (suc n) t) fs ≡ count_by (in_first n t) fs + count_by (in_part part n t) fs
  count_more t n [] = refl
  count_more t n (f ∷ fs) =
      omega (
        arith,
        count_front (in_first (suc n) t) f fs,
        count_front (in_first n t) f fs,
        count_front (in_part part n t) f fs,
        one_more (t f) (part f) n,
        count_more t n fs,
      )

  count_few : (t : Label → Bool) (n : ℕ) (fs : List Label) → count_by (in_first n t) fs ≤ count_by t fs
  count_few t n [] = omega arith
  count_few t n (f ∷ fs) =
      let one : one_if (t f && nat_lt (part f) n) ≤ one_if (t f) = grind (arith, nat_tests) in
      omega (arith, count_front (in_first n t) f fs, count_front t f fs, one, count_few t n fs)

  count_all : (t : Label → Bool) (n : ℕ) (fs : List Label) → HoldsOfEach (λ f. t f ≡ true → part f < n) fs
      → count_by (in_first n t) fs ≡ count_by t fs
  count_all t n [] h = refl
  count_all t n (f ∷ fs) h =
      omega (arith, count_front (in_first n t) f fs, count_front t f fs, same, count_all t n fs h.1)
    where
      same : one_if (t f && nat_lt (part f) n) ≡ one_if (t f)
      same = elim (test (t f)) as (λ _. one_if (t f && nat_lt (part f) n) ≡ one_if (t f)) [
        | inl b ↦ (let l : nat_lt (part f) n ≡ true = lt-ltb (part f) n (h.0 b) in rw (b, l) refl)
        | inr b ↦ rw b refl
      ]

  -- the first parts are within their limits together
  first_few : (begins ends : Label → Bool) (limits : List ℕ) (fs : List Label)
      → ((k : ℕ) → k < length limits
      → count_by (in_part part k begins) fs ≤ slice_index limits k + count_by (in_part part k ends) fs)
      → (n : ℕ) → n ≤ length limits
      → count_by (in_first n begins) fs ≤ sum (take n limits) + count_by (in_first n ends) fs
  first_few begins ends limits fs few zero l = omega (arith, count_none begins fs)
  first_few begins ends limits fs few (suc n) l =
      let before : count_by (in_first n begins) fs ≤ sum (take n limits) + count_by (in_first n ends) fs =
      first_few begins ends limits fs few n (omega arith) in
      let more : sum (take (n + 1) limits) ≡ sum (take n limits) + slice_index limits n =
      sum_by_more (λ x. x) limits n 0 l in
      let more' : sum (take (suc n) limits) ≡ sum (take n limits) + slice_index limits n =
      rw add-one at more in
      omega (arith, before, more', few n l, count_more begins n fs, count_more ends n fs)

pub parts_tell_of_the_whole : (State Agent Label : Type 0) → PartsTellOfTheWhole State Agent Label
parts_tell_of_the_whole State Agent Label m begins ends part limits start end s steps others c room other =
    let within : HoldsOfEach (λ f. begins f ≡ true → part f < length limits) others =
    of_others m start c.lawful (λ f. begins f ≡ true → part f < length limits) others start end s steps
    (record { steps = []; run = refl }) c.run c.over c.race_free c.takes_nothing room.within other in
    let few : count_by (in_first part (length limits) begins) others
    ≤ sum (take (length limits) limits) + count_by (in_first part (length limits) ends) others =
    first_few part begins ends limits others
    (λ k l. no_run_is_crowded State Agent Label m (in_part part k begins) (in_part part k ends) (slice_index limits k)
    start end s steps others c (room.room k l) other) (length limits) (omega arith) in
    let all : take (length limits) limits ≡ limits = take_all (length limits) limits (omega arith) in
    let total : sum (take (length limits) limits) ≡ sum limits = ap sum all in
    omega (
      arith,
      few,
      total,
      count_all part begins (length limits) others within,
      count_few part ends (length limits) others,
    )
