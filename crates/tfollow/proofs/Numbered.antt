-- Agents have numbers in a list.
use Rattle.std.proofs.Common.{◌≡◌, ℕ, suc, zero, ◌<◌, ◌≤◌, ◌⊎◌, inl, inr, refl, sym, ap, ◌∙◌, arith, Bool, true}
use Rattle.std.proofs.Common.{false, List, [], ◌∷◌, ◌++◌, length, Some, slice_get}
use Rattle.std.specs.Prelude.{if◌then◌else◌}
use Rattle.std.proofs.lemmas.Option.{same_Some, slice_get_within}
use Rattle.tplan.specs.declared.plan.Plan.{Plan}
use Rattle.tagents.specs.Groups.{grouped}
use Rattle.tagents.specs.Tidy.{AreTold}
use Rattle.tprocesses.specs.Machine.{Agent, same_agent, process_machine}
use Rattle.tprocesses.proofs.Tidy.{process_machine_is_tidy}
use Rattle.tclocks.proofs.Lists.{test}
use Rattle.tclocks.specs.Checks.{Check}
use Rattle.tclocks.specs.Numbers.{AreNumbers}
use Rattle.tclocks.specs.NumberTurns.{numbers_of}
use Rattle.tclocks.proofs.Turning.{are_numbers}
use Rattle.tprocesses.specs.Certified.{machine_of}
use Rattle.tfollow.specs.Modes.{accesses_in, mode_at}
use Rattle.tfollow.specs.Numbering.{Places, AgentNumbers, HasNumber, AreApart, IsNew, NewAgentsAreOthers, number_in}
use Rattle.tfollow.specs.Following.{number_by}
use Rattle.tfollow.proofs.Moded.{modes_tell_collisions}

pub number-most : (agents : List Agent) (a : Agent) → number_in agents a ≤ length agents
number-most [] a = omega arith
number-most (b ∷ bs) a = by (same_agent b a) (number-most bs a)
  where
    by : (t : Bool) → number_in bs a ≤ length bs → (if t then 0 else suc (number_in bs a)) ≤ length (b ∷ bs)
    by true rest = omega arith
    by false rest = omega (arith, rest)

-- an element of a list and one behind it
pub get-last : {A : Type 0} (xs : List A) (y x : A) (i : ℕ) → slice_get (xs ++ y ∷ []) i ≡ Some x
    → (slice_get xs i ≡ Some x) ⊎ ((i ≡ length xs) × (y ≡ x))
get-last [] y x zero h = inr (refl, same_Some y x h)
get-last [] y x (suc i) h = inl h
get-last (z ∷ zs) y x zero h = inl h
get-last (z ∷ zs) y x (suc i) h =
    elim (get-last zs y x i h) as
    (λ _. (slice_get zs i ≡ Some x) ⊎ ((suc i ≡ length (z ∷ zs)) × (y ≡ x))) [
      | inl before ↦ inl before
      | inr (at, same) ↦ inr (omega (arith, at), same)
    ]

module _ (plan : Plan) where
  pub told : AreTold (process_machine plan)
  told = (process_machine_is_tidy plan).told

  pub agent-same : (a : Agent) → same_agent a a ≡ true
  agent-same a = elim (test (same_agent a a)) as (λ _. same_agent a a ≡ true) [
    | inl same ↦ same
    | inr differ ↦ absurd (told.not_same a a differ refl)
  ]

  -- the numbers that a check knows agents by
  pub numbered : (group : AgentNumbers) (places : Places) (check : Check)
      → AreNumbers (grouped (machine_of plan) (number_by group)) (accesses_in plan) (numbers_of places mode_at) check
  numbered group places check =
      are_numbers (machine_of plan) (number_by group) (accesses_in plan) places mode_at check
      (modes_tell_collisions plan)

  -- who has a number in the list stands there
  pub number-there : (agents : List Agent) (a : Agent) → number_in agents a < length agents
      → HasNumber agents a (number_in agents a)
  number-there [] a h = absurd (omega (arith, h))
  number-there (b ∷ bs) a h = by (same_agent b a) refl (number-there bs a) h
    where
      by : (t : Bool) → same_agent b a ≡ t
          → (number_in bs a < length bs → slice_get bs (number_in bs a) ≡ Some a)
          → (if t then 0 else suc (number_in bs a)) < length (b ∷ bs)
          → slice_get (b ∷ bs) (if t then 0 else suc (number_in bs a)) ≡ Some a
      by true same rest h = ap Some (told.is_same b a same)
      by false other rest h = rest (omega (arith, h))

  -- who stands in the list has a number there
  pub number-within : (agents : List Agent) (a : Agent) (number : ℕ) → HasNumber agents a number
      → number_in agents a < length agents
  number-within [] a number h = absurd cc
  number-within (b ∷ bs) a zero h = by (same_agent b a) refl
    where
      by : (t : Bool) → same_agent b a ≡ t → (if t then 0 else suc (number_in bs a)) < length (b ∷ bs)
      by true same = omega arith
      by false other = absurd (told.not_same b a other (same_Some b a h))
  number-within (b ∷ bs) a (suc i) h = by (same_agent b a) (number-within bs a i h)
    where
      by : (t : Bool) → number_in bs a < length bs → (if t then 0 else suc (number_in bs a)) < length (b ∷ bs)
      by true rest = omega arith
      by false rest = omega (arith, rest)

  -- who is new stands nowhere
  pub new-nowhere : (agents : List Agent) (a : Agent) (number : ℕ) → IsNew agents a → HasNumber agents a number → ⊥
  new-nowhere agents a number new h =
      let within : number_in agents a < length agents = number-within agents a number h in omega (arith, within, new)

  pub there-or-not : (agents : List Agent) (a : Agent)
      → (number_in agents a < length agents) ⊎ (number_in agents a ≡ length agents)
  there-or-not agents a = cases (number_in agents a) (length agents) (number-most agents a)
    where
      cases : (i n : ℕ) → i ≤ n → (i < n) ⊎ (i ≡ n)
      cases i n h = grind arith

  -- where agents have their numbers, none stands in the list twice
  pub apart-by : (group : AgentNumbers) (agents : List Agent)
      → ((number : ℕ) (a : Agent) → HasNumber agents a number → group a ≡ number) → AreApart agents
  apart-by group agents by number a h =
      sym (by (number_in agents a) a (number-there agents a (number-within agents a number h))) ∙ by number a h

-- a plan, for what holds of all
pub some_plan : Plan
some_plan = record { timeslice = 1; nodes = []; wires = []; sources = []; sinks = [] }

pub new_agents_are_others : NewAgentsAreOthers
new_agents_are_others agents a apart = (
  λ new number b h same.
      (let within : number < length agents = slice_get_within agents number b h in
      absurd (omega (arith, within, apart number b h, ap (number_in agents) same, new))),
  λ others. elim (there-or-not some_plan agents a) as (λ _. IsNew agents a) [
    | inl there ↦ absurd (others (number_in agents a) a (number-there some_plan agents a there) refl)
    | inr new ↦ new
  ],
)
