-- The check has counted the steps with each number, and keeps accesses of these alone.
use Rattle.std.proofs.Common.{◌≡◌, ◌≢◌, ℕ, suc, zero, ◌+◌, ◌<◌, ◌≤◌, ◌⊎◌, inl, inr, refl, sym, ap, ◌∙◌, subst}
use Rattle.std.proofs.Common.{arith, max}
use Rattle.std.proofs.Common.{List, [], ◌∷◌, ◌++◌, length, Some}
use Rattle.std.proofs.Common.{slice_get, slice_index, slice_index_or, replicate, get_or}
use Rattle.std.proofs.Common.{Contains}
use Rattle.std.proofs.lemmas.List.{length-set, get_or-set_other}
use Rattle.tclocks.specs.declared.mode.Mode.{Mode}
use Rattle.tclocks.specs.declared.step.Step.{Step}
use Rattle.tclocks.specs.Clocks.{raised, joined}
use Rattle.tclocks.specs.Checks.{Check, nothing_checked, clock_of, clock_in, accesses_at, steps_of}
use Rattle.tclocks.specs.Checks.{with_places, next_step, begun, with_joined}
use Rattle.tclocks.specs.Followed.{AreAccessed, IsStep}
use Rattle.tclocks.proofs.Lists.{contains-first, contains-rest}
use Rattle.tclocks.proofs.ClockLemmas.{slice_index-joined}
use Rattle.tclocks.proofs.Joining.{clock_of-same, clock_of-other, raised-same, same-or-not}
use Rattle.tprocesses.specs.Certified.{ProcessStep}
use Rattle.tfollow.specs.Numbering.{AgentNumbers}
use Rattle.tfollow.specs.Following.{KeptAccess, Told, IsDone, AreCounted, count_with}
use Rattle.tfollow.proofs.Agreeing.{count-same, count-other}

-- a list with defaults behind its end
pub defaults-behind : {A : Type 0} (xs ys : List A) (i : ℕ) (d : A) → ((k : ℕ) → get_or ys k d ≡ d)
    → get_or (xs ++ ys) i d ≡ get_or xs i d
defaults-behind [] ys i d all = all i
defaults-behind (x ∷ xs) ys zero d all = refl
defaults-behind (x ∷ xs) ys (suc i) d all = defaults-behind xs ys i d all

pub copies : {A : Type 0} (n k : ℕ) (d : A) → get_or (replicate n d) k d ≡ d
copies zero k d = refl
copies (suc n) zero d = refl
copies (suc n) (suc k) d = copies n k d

pub past-end : {A : Type 0} (xs : List A) (i : ℕ) (d : A) → length xs ≤ i → get_or xs i d ≡ d
past-end [] i d h = refl
past-end (x ∷ xs) zero d h = absurd (omega (arith, h))
past-end (x ∷ xs) (suc i) d h = past-end xs i d (omega (arith, h))

pub below-or-not : (i n : ℕ) → (i < n) ⊎ (n ≤ i)
below-or-not i n = grind arith

pub number-before : {A : Type 0} (xs ys : List A) (i : ℕ) (x : A) → slice_get xs i ≡ Some x
    → slice_get (xs ++ ys) i ≡ Some x
number-before [] ys i x h = absurd cc
number-before (y ∷ zs) ys zero x h = h
number-before (y ∷ zs) ys (suc i) x h = number-before zs ys i x h

module _ (group : AgentNumbers) where
  -- before the first step nothing was counted
  pub none-counted : AreCounted group [] nothing_checked
  none-counted = record {
    counts = λ number h. refl;
    kept = λ place access has. absurd (omega (arith, has.1));
  }

  pub counted-places : (steps : List ProcessStep) (check : Check) (count : ℕ) → AreCounted group steps check
      → AreCounted group steps (with_places count check)
  counted-places steps check count h = record {
    counts = h.counts;
    kept = λ place access has. h.kept place access
        (subst (λ (list : List KeptAccess). Contains list access)
        (defaults-behind check.places (replicate count []) place [] (λ k. copies count k [])) has);
  }

  -- a step that is done is done still
  abbrev pub done-still : (steps : List ProcessStep) (e : ProcessStep) (step : Step) → IsDone group steps step
      → IsDone group (e ∷ steps) step
  done-still steps e step h = record {
    later = e ∷ h.later;
    label = h.label;
    before = h.before;
    within = ap (λ (list : List ProcessStep). e ∷ list) h.within;
    agent = h.agent;
    number = h.number;
  }

-- the agent of a step that begins, joins its slot and makes accesses
module _ (number : ℕ) (before : Check) (long : number < length before.clocks)
    (own-long : number < length (clock_of before number))
    (within : slice_index (clock_in before number) number ≤ steps_of before number) where
  abbrev middle : Check
  middle = with_joined number number (begun number before)

  begun-clock : clock_of (begun number before) number ≡ raised (clock_of before number) number
  begun-clock = clock_of-same number (raised (clock_of before number) number) before long

  long-begun : number < length (begun number before).clocks
  long-begun = omega (arith, long, length-set before.clocks number (raised (clock_of before number) number))

  middle-clock : clock_of middle number ≡ joined (raised (clock_of before number) number) (clock_in before number)
  middle-clock =
      clock_of-same number (joined (clock_of (begun number before) number) (clock_in before number))
      (begun number before)
      long-begun
      ∙ ap (λ (clock : List ℕ). joined clock (clock_in before number)) begun-clock

  middle-own : steps_of middle number ≡ steps_of before number + 1
  middle-own =
      let raise : slice_index (raised (clock_of before number) number) number ≡ steps_of before number + 1 =
      raised-same (clock_of before number) number own-long in
      let both : slice_index (joined (raised (clock_of before number) number) (clock_in before number)) number
      ≡ max (slice_index (raised (clock_of before number) number) number)
      (slice_index (clock_in before number) number) =
      slice_index-joined (raised (clock_of before number) number) (clock_in before number) number in
      ap (λ (clock : List ℕ). slice_index clock number) middle-clock ∙ both ∙ omega (arith, raise, within)

  middle-other : (i : ℕ) → i ≢ number → steps_of middle i ≡ steps_of before i
  middle-other i other =
      ap (λ (clock : List ℕ). slice_index clock i)
      (clock_of-other number i (joined (clock_of (begun number before) number) (clock_in before number))
      (begun number before) other
      ∙ clock_of-other number i (raised (clock_of before number) number) before other)

-- accesses change no clock
clocks-stay : (step : Step) (done : List Told) (c d : Check) → AreAccessed step done c d → d.clocks ≡ c.clocks
clocks-stay step [] c d same = ap (λ (e : Check). e.clocks) same
clocks-stay step (access ∷ rest) c d (between, is, are) =
    clocks-stay step rest between d are ∙ ap (λ (e : Check). e.clocks) is.only

-- what is kept of a place after accesses was kept before, or is one of these
abbrev pub IsKeptSince : Step → List Told → Check → (place : ℕ) → KeptAccess → Type 0
IsKeptSince step done c place access =
    Contains (accesses_at c place) access
    ⊎ ((access.step ≡ step) × Contains done (record { place = place; mode = access.mode }))

pub kept-since : (step : Step) (done : List Told) (c d : Check) → AreAccessed step done c d → (place : ℕ)
    (access : KeptAccess) → Contains (accesses_at d place) access → IsKeptSince step done c place access
kept-since step [] c d same place access has =
    inl (subst (λ (e : Check). Contains (accesses_at e place) access) same has)
kept-since step (told ∷ rest) c d (between, is, are) place access has =
    elim (kept-since step rest between d are place access has) as
    (λ _. IsKeptSince step (told ∷ rest) c place access) [
      | inl old ↦ since old
      | inr new ↦ inr (new.0, contains-rest told rest (record { place = place; mode = access.mode }) new.1)
    ]
  where
    here : Contains (accesses_at between told.place) access → IsKeptSince step (told ∷ rest) c told.place access
    here has = elim (is.noted.only access has) as (λ _. IsKeptSince step (told ∷ rest) c told.place access) [
      | inl new ↦ inr (
        ap (λ (a : KeptAccess). a.step) new,
        subst (λ (mode : Mode). Contains (told ∷ rest) (record { place = told.place; mode = mode }))
            (sym (ap (λ (a : KeptAccess). a.mode) new)) (contains-first told rest),
      )
      | inr old ↦ inl old
    ]

    since : Contains (accesses_at between place) access → IsKeptSince step (told ∷ rest) c place access
    since has = elim (same-or-not place told.place) as (λ _. IsKeptSince step (told ∷ rest) c place access) [
      | inl same ↦ subst (λ (q : ℕ). IsKeptSince step (told ∷ rest) c q access) (sym same)
          (here (subst (λ (q : ℕ). Contains (accesses_at between q) access) same has))
      | inr other ↦ inl (subst (λ (list : List KeptAccess). Contains list access)
          (ap (λ (e : Check). accesses_at e place) is.only
          ∙ get_or-set_other c.places told.place place (accesses_at between told.place) [] other) has)
    ]

-- the next step with a number, when it is done
abbrev pub done-now : (group : AgentNumbers) (steps : List ProcessStep) (e : ProcessStep) (number : ℕ) (before : Check)
    → group e.agent ≡ number → number < length before.clocks → AreCounted group steps before
    → IsDone group (e ∷ steps) (next_step before number)
done-now group steps e number before by long h = record {
  later = [];
  label = e;
  before = steps;
  within = refl;
  agent = by;
  number = omega (arith, h.counts number long, count-same group number e steps by);
}

module _ (group : AgentNumbers) (steps : List ProcessStep) (e : ProcessStep) (number : ℕ) (told : List Told)
    (before after : Check) (by : group e.agent ≡ number) (long : number < length before.clocks)
    (own-long : number < length (clock_of before number))
    (within : slice_index (clock_in before number) number ≤ steps_of before number)
    (checked : IsStep number (number ∷ []) told before after) (h : AreCounted group steps before) where
  after-steps : (i : ℕ) → steps_of after i ≡ steps_of (middle number before long own-long within) i
  after-steps i =
      ap (λ (clocks : List (List ℕ)). slice_index (slice_index_or clocks i []) i)
      (clocks-stay (next_step before number) told (middle number before long own-long within) after checked)

  -- the step adds no clock
  pub clocks-long : length after.clocks ≡ length before.clocks
  clocks-long =
      ap (λ (clocks : List (List ℕ)). length clocks)
      (clocks-stay (next_step before number) told (middle number before long own-long within) after checked)
      ∙ length-set (begun number before).clocks number _ ∙ length-set before.clocks number _

  new-counts : (i : ℕ) → i < length after.clocks → steps_of after i ≡ count_with group i (e ∷ steps)
  new-counts i there = elim (same-or-not i number) as (λ _. steps_of after i ≡ count_with group i (e ∷ steps)) [
    | inl same ↦
        after-steps i ∙ ap (λ (k : ℕ). steps_of (middle number before long own-long within) k) same
        ∙ middle-own number before long own-long within
        ∙ (done-now group steps e number before by long h).number
        ∙ ap (λ (k : ℕ). count_with group k (e ∷ steps)) (sym same)
    | inr other ↦
        after-steps i ∙ middle-other number before long own-long within i other
        ∙ h.counts i (omega (arith, there, clocks-long))
        ∙ sym (count-other group i e steps (λ at. other (sym at ∙ by)))
  ]

  new-kept : (place : ℕ) (access : KeptAccess) → Contains (accesses_at after place) access
      → IsDone group (e ∷ steps) access.step
  new-kept place access has =
      elim (kept-since (next_step before number) told (middle number before long own-long within) after checked place
      access has) as (λ _. IsDone group (e ∷ steps) access.step) [
        | inl old ↦ done-still group steps e access.step (h.kept place access old)
        | inr new ↦ subst (λ (step : Step). IsDone group (e ∷ steps) step) (sym new.0)
            (done-now group steps e number before by long h)
      ]

  -- the check has counted the step, too
  pub counted-step : AreCounted group (e ∷ steps) after
  counted-step = record { counts = new-counts; kept = new-kept }
