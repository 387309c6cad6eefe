-- What an agent knows behind the begin of a step, and the joins of slots.
use Rattle.std.proofs.Common.{◌≡◌, ◌≢◌, ℕ, ◌+◌, ◌<◌, ◌≤◌, ◌⊎◌, inl, inr, List, [], ◌∷◌, ap, refl, sym, ◌∙◌, subst}
use Rattle.std.proofs.Common.{length, max, arith, slice_index, slice_set, slice_index_or}
use Rattle.std.proofs.lemmas.List.{get_or-set_same, get_or-set_other, set-set, length-set}
use Rattle.tclocks.specs.declared.step.Step.{Step}
use Rattle.tclocks.specs.Clocks.{joined, raised}
use Rattle.tclocks.specs.Checks.{Check, clock_of, clock_in, with_joined}
use Rattle.tclocks.specs.Followed.{OneOf, with_all_joined, CountsToo}
use Rattle.tclocks.proofs.ClockLemmas.{slice_index-joined, length-joined}

-- a clock that joined those in these slots
abbrev pub joined_all : List (List ℕ) → List ℕ → List ℕ → List ℕ
joined_all table [] clock = clock
joined_all table (slot ∷ slots) clock = joined_all table slots (joined clock (slice_index_or table slot []))

-- a check in which an agent has another clock
abbrev pub with_clock : ℕ → List ℕ → Check → Check
with_clock agent clock check = record check { clocks = slice_set check.clocks agent clock }

pub clock_of-same : (agent : ℕ) (clock : List ℕ) (check : Check) → agent < length check.clocks
    → clock_of (with_clock agent clock check) agent ≡ clock
clock_of-same agent clock check h = get_or-set_same check.clocks agent clock [] h

pub clock_of-other : (agent other : ℕ) (clock : List ℕ) (check : Check) → other ≢ agent
    → clock_of (with_clock agent clock check) other ≡ clock_of check other
clock_of-other agent other clock check h = get_or-set_other check.clocks agent other clock [] h

with_clock-twice : (agent : ℕ) (first second : List ℕ) (check : Check)
    → with_clock agent second (with_clock agent first check) ≡ with_clock agent second check
with_clock-twice agent first second check =
    ap (λ (clocks : List (List ℕ)). let c : Check = record check { clocks = clocks } in c)
    (set-set check.clocks agent first second)

-- the joins change the clock of the agent alone
pub with_all_joined-clock : (agent : ℕ) (slots : List ℕ) (clock : List ℕ) (check : Check) → agent < length check.clocks
    → with_all_joined agent slots (with_clock agent clock check)
    ≡ with_clock agent (joined_all check.slots slots clock) check
with_all_joined-clock agent [] clock check h = refl
with_all_joined-clock agent (slot ∷ slots) clock check h =
    let next : List ℕ = joined clock (clock_in check slot) in
    let here : with_joined agent slot (with_clock agent clock check) ≡ with_clock agent next check =
    ap (λ (own : List ℕ). with_clock agent (joined own (clock_in check slot)) (with_clock agent clock check))
    (clock_of-same agent clock check h)
    ∙ with_clock-twice agent clock next check in
    ap (λ (c : Check). with_all_joined agent slots c) here ∙ with_all_joined-clock agent slots next check h

-- a greater number is not above both
pub one-max : (n i j : ℕ) → n ≤ max i j → (n ≤ i) ⊎ (n ≤ j)
one-max n i j h = grind arith

pub is-max : (i j : ℕ) → (max i j ≡ i) ⊎ (max i j ≡ j)
is-max i j = grind arith

-- what a clock that joined others knows is what it knew before, or what one of them knows
pub joined_all-one : (table : List (List ℕ)) (slots : List ℕ) (clock : List ℕ) (i : ℕ)
    → (slice_index (joined_all table slots clock) i ≡ slice_index clock i)
    ⊎ OneOf (λ slot. slice_index (joined_all table slots clock) i ≡ slice_index (slice_index_or table slot []) i) slots
joined_all-one table [] clock i = inl refl
joined_all-one table (slot ∷ slots) clock i =
    let next : List ℕ = joined clock (slice_index_or table slot []) in
    elim (joined_all-one table slots next i) as
    (λ _. (slice_index (joined_all table slots next) i ≡ slice_index clock i)
    ⊎ OneOf (λ s. slice_index (joined_all table slots next) i ≡ slice_index (slice_index_or table s []) i)
    (slot ∷ slots)) [
      | inl same ↦
          let e : slice_index (joined_all table slots next) i
          ≡ max (slice_index clock i) (slice_index (slice_index_or table slot []) i) =
          same ∙ slice_index-joined clock (slice_index_or table slot []) i in
          elim (is-max (slice_index clock i) (slice_index (slice_index_or table slot []) i)) as
          (λ _. (slice_index (joined_all table slots next) i ≡ slice_index clock i)
          ⊎ OneOf (λ s. slice_index (joined_all table slots next) i ≡ slice_index (slice_index_or table s []) i)
          (slot ∷ slots)) [
            | inl first ↦ inl (e ∙ first)
            | inr second ↦ inr (inl (e ∙ second))
          ]
      | inr one ↦ inr (inr one)
    ]

-- it knows no less
pub joined_all-grows : (table : List (List ℕ)) (slots : List ℕ) (clock : List ℕ) (i : ℕ)
    → slice_index clock i ≤ slice_index (joined_all table slots clock) i
joined_all-grows table [] clock i = omega arith
joined_all-grows table (slot ∷ slots) clock i =
    let rest : slice_index (joined clock (slice_index_or table slot [])) i
    ≤ slice_index (joined_all table slots (joined clock (slice_index_or table slot []))) i =
    joined_all-grows table slots (joined clock (slice_index_or table slot [])) i in
    omega (arith, rest, slice_index-joined clock (slice_index_or table slot []) i)

-- and no more than all of them
pub joined_all-below : (table : List (List ℕ)) (slots : List ℕ) (clock : List ℕ) (i n : ℕ) → slice_index clock i ≤ n
    → ((slot : ℕ) → slice_index (slice_index_or table slot []) i ≤ n)
    → slice_index (joined_all table slots clock) i ≤ n
joined_all-below table [] clock i n h each = h
joined_all-below table (slot ∷ slots) clock i n h each =
    joined_all-below table slots (joined clock (slice_index_or table slot [])) i n
    (omega (arith, h, each slot, slice_index-joined clock (slice_index_or table slot []) i)) each

pub joined_all-long : (table : List (List ℕ)) (slots : List ℕ) (clock : List ℕ)
    → length clock ≤ length (joined_all table slots clock)
joined_all-long table [] clock = omega arith
joined_all-long table (slot ∷ slots) clock =
    let rest : length (joined clock (slice_index_or table slot []))
    ≤ length (joined_all table slots (joined clock (slice_index_or table slot []))) =
    joined_all-long table slots (joined clock (slice_index_or table slot [])) in
    omega (arith, rest, length-joined clock (slice_index_or table slot []))

-- a clock that counts one more step of an agent
pub raised-same : (clock : List ℕ) (agent : ℕ) → agent < length clock
    → slice_index (raised clock agent) agent ≡ slice_index clock agent + 1
raised-same clock agent h = get_or-set_same clock agent (slice_index clock agent + 1) 0 h

pub raised-other : (clock : List ℕ) (agent other : ℕ) → other ≢ agent
    → slice_index (raised clock agent) other ≡ slice_index clock other
raised-other clock agent other h = get_or-set_other clock agent other (slice_index clock agent + 1) 0 h

pub length-raised : (clock : List ℕ) (agent : ℕ) → length (raised clock agent) ≡ length clock
length-raised clock agent = length-set clock agent (slice_index clock agent + 1)

pub same-or-not : (i j : ℕ) → (i ≡ j) ⊎ (i ≢ j)
same-or-not i j = grind arith

-- so it counts no less
pub raised-grows : (clock : List ℕ) (agent i : ℕ) → agent < length clock
    → slice_index clock i ≤ slice_index (raised clock agent) i
raised-grows clock agent i l =
    elim (same-or-not i agent) as (λ _. slice_index clock i ≤ slice_index (raised clock agent) i) [
      | inl e ↦ subst (λ (j : ℕ). slice_index clock j ≤ slice_index (raised clock agent) j) (sym e)
          (let r : slice_index (raised clock agent) agent ≡ slice_index clock agent + 1 = raised-same clock agent l in
          omega (arith, r))
      | inr n ↦ let r : slice_index (raised clock agent) i ≡ slice_index clock i = raised-other clock agent i n in
          omega (arith, r)
    ]

-- of clocks that count steps of an agent with another step, the joined ones do
pub counts-joined : (step : Step) (agent n : ℕ) (clock other : List ℕ) → CountsToo step agent n clock
    → CountsToo step agent n other → CountsToo step agent n (joined clock other)
counts-joined step agent n clock other h g k =
    let own : slice_index (joined clock other) step.agent
    ≡ max (slice_index clock step.agent) (slice_index other step.agent) =
    slice_index-joined clock other step.agent in
    let both : slice_index (joined clock other) agent ≡ max (slice_index clock agent) (slice_index other agent) =
    slice_index-joined clock other agent in
    elim (one-max step.number (slice_index clock step.agent) (slice_index other step.agent) (omega (arith, k, own))) as
    (λ _. n ≤ slice_index (joined clock other) agent) [
      | inl first ↦ let b : n ≤ slice_index clock agent = h first in omega (arith, b, both)
      | inr second ↦ let b : n ≤ slice_index other agent = g second in omega (arith, b, both)
    ]

pub counts-joined_all : (step : Step) (agent n : ℕ) (table : List (List ℕ)) (slots : List ℕ) (clock : List ℕ)
    → CountsToo step agent n clock → ((slot : ℕ) → CountsToo step agent n (slice_index_or table slot []))
    → CountsToo step agent n (joined_all table slots clock)
counts-joined_all step agent n table [] clock h each = h
counts-joined_all step agent n table (slot ∷ slots) clock h each =
    counts-joined_all step agent n table slots (joined clock (slice_index_or table slot []))
    (counts-joined step agent n clock (slice_index_or table slot []) h (each slot)) each

-- and so does one that counts one more step, which is not that one
pub counts-raised : (step : Step) (agent n : ℕ) (clock : List ℕ) (by : ℕ) → by < length clock
    → (step.agent ≡ by → step.number ≤ slice_index clock by) → CountsToo step agent n clock
    → CountsToo step agent n (raised clock by)
counts-raised step agent n clock by l old h k =
    let known : n ≤ slice_index clock agent = h (before (same-or-not step.agent by)) in
    let more : slice_index clock agent ≤ slice_index (raised clock by) agent = raised-grows clock by agent l in
    omega (arith, known, more)
  where
    before : (step.agent ≡ by) ⊎ (step.agent ≢ by) → step.number ≤ slice_index clock step.agent
    before (inl e) = subst (λ (i : ℕ). step.number ≤ slice_index clock i) (sym e) (old e)
    before (inr d) = subst (λ (i : ℕ). step.number ≤ i) (raised-other clock by step.agent d) k
