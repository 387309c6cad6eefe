-- Berths of a node, which its processes take by turns: so no run has more at the same time than there are.
-- Source: own choice, after Dilworth, A decomposition theorem for partially ordered sets (1950).
use Rattle.std.specs.Prelude.{ℕ, suc, ◌+◌, ◌≡◌, ◌<◌, ◌≤◌, ◌||◌, Bool, true, false, List, [], ◌∷◌, ◌++◌, All, length}
use Rattle.std.specs.Prelude.{Option, Some, None, get_or, reverse, slice_get, slice_index, slice_set}
use Rattle.std.specs.Prelude.{if◌then◌else◌}
use Rattle.std.specs.List.{count_by}
use Rattle.tword.specs.Limits.{most_processes}
use Rattle.tplan.specs.declared.plan.Plan.{Plan}
use Rattle.tagents.specs.Chains.{IsChained}
use Rattle.tagents.specs.Crowds.{in_part}
use Rattle.tagents.specs.Groups.{AgreeOn}
use Rattle.tagents.specs.PlaceTurns.{is_free, HavePlaces}
use Rattle.tclocks.specs.declared.step.Step.{Step}
use Rattle.tclocks.specs.Checks.{Check, HasCounted, last_step}
use Rattle.tprocesses.specs.Places.{Name, same_name}
use Rattle.tprocesses.specs.Machine.{Agent}
use Rattle.tprocesses.specs.Certified.{ProcessStep, machine_of, begins, ends, opened_processes, LiveFewAt}
use Rattle.tprocesses.specs.Lives.{lodger}
use Rattle.tcertify.specs.Running.{State}
use Rattle.tfollow.specs.declared.berth.Berth.{Berth}
use Rattle.tfollow.specs.Numbering.{Places, AgentNumbers}
use Rattle.tfollow.specs.Following.{IsDone, IsFollowed, number_by}
use Rattle.tfollow.specs.Laws.{AreShut}

-- a step that the clock of the last step has counted is chained to it
abbrev pub CountedStepsAreChained : Type 0
CountedStepsAreChained =
    (plan : Plan) (places : Places) (group : AgentNumbers) (agents : List Agent) (step : ProcessStep)
    (earlier : List ProcessStep) (check : Check) (state : State) (counted : Step)
    → IsFollowed plan places group agents (step ∷ earlier) check state → (d : IsDone group earlier counted)
    → HasCounted check (group step.agent) counted
    → IsChained (machine_of plan) d.label (reverse d.later) step

-- the number of a name: how many stand before it
abbrev pub number_of_name : List Name → Name → ℕ
number_of_name [] x = 0
number_of_name (y ∷ ys) x = if same_name y x then 0 else suc (number_of_name ys x)

-- a name stands nowhere in the list
abbrev pub IsNewName : List Name → Name → Type 0
IsNewName names x = number_of_name names x ≡ length names

-- the name of whom a step begins or ends stands in the list
abbrev pub IsListed : List Name → Option Name → Type 0
IsListed names None = ⊥
IsListed names (Some x) = number_of_name names x < length names

-- the berth of whom a step begins or ends, where each name has its berth
abbrev pub berth_among : List Name → (homes : List ℕ) → Option Name → ℕ
berth_among names homes None = 0
berth_among names homes (Some x) = slice_index homes (number_of_name names x)

module _ (plan : Plan) (n : ℕ) (group : AgentNumbers) (names : List Name) (homes : List ℕ) where
  -- the berth that a step takes or leaves
  abbrev pub berth_of : ProcessStep → ℕ
  berth_of e = berth_among names homes (lodger e)

  -- a step takes the berth of this number, or leaves it
  abbrev pub takes : ℕ → ProcessStep → Bool
  takes k = in_part berth_of k (begins n)

  abbrev pub leaves : ℕ → ProcessStep → Bool
  leaves k = in_part berth_of k (ends n)

  abbrev pub moves : ℕ → ProcessStep → Bool
  moves k e = takes k e || leaves k e

  -- none of these steps takes or leaves the berth
  abbrev pub NoneMoves : ℕ → List ProcessStep → Type 0
  NoneMoves k steps = All (λ e. moves k e ≡ false) steps

  -- this was the last of these steps, the last one first, that took or left the berth
  pub record IsLastMove (k : ℕ) (steps : List ProcessStep) (step : Step) : Type 0 where
    pub done : IsDone group steps step
    pub moved : moves k done.label ≡ true
    pub none : NoneMoves k done.later

  -- the last step that took or left the berth, if there is one
  abbrev pub HasLastMove : ℕ → List ProcessStep → Option Step → Type 0
  HasLastMove k steps None = NoneMoves k steps
  HasLastMove k steps (Some step) = IsLastMove k steps step

  -- a berth is as these steps left it
  pub record IsBerth (first : List Bool) (k : ℕ) (steps : List ProcessStep) (berth : Berth) : Type 0 where
    pub free : is_free (takes k) (leaves k) (get_or first k false) steps ≡ berth.is_free
    pub last : HasLastMove k steps berth.last

  -- in these steps, the last one first, all that begins at the node took a berth. Berths are taken by turns, and are as
  -- these steps left them. No more were free at first than may live beside the processes of the image
  pub record AreLodged (steps : List ProcessStep) (berths : List Berth) : Type 0 where
    pub first : List Bool
    pub as_many : length first ≡ length berths
    pub few : opened_processes plan n + count_by (λ f. f) first ≤ most_processes
    pub housed : length homes ≡ length names
    pub listed : All (λ e. (begins n e || ends n e) ≡ true → IsListed names (lodger e)) steps
    pub places : HavePlaces (machine_of plan) (begins n) (ends n) berth_of first steps
    pub each : (k : ℕ) (berth : Berth) → slice_get berths k ≡ Some berth → IsBerth first k steps berth

-- the clock of an agent has counted a step, if there is one
abbrev pub HasCountedIfAny : Check → ℕ → Option Step → Type 0
HasCountedIfAny check agent None = Unit {0}
HasCountedIfAny check agent (Some step) = HasCounted check agent step

-- before the first step each process of the image has a berth, and the others are free
abbrev pub LodgingBegins : Type 0
LodgingBegins =
    (plan : Plan) (n : ℕ) (group : AgentNumbers) (names : List Name) (homes : List ℕ) (berths : List Berth)
    → opened_processes plan n + count_by (λ b. b.is_free) berths ≤ most_processes → length homes ≡ length names
    → All (λ b. b.last ≡ None) berths → AreLodged plan n group names homes [] berths

-- agents that have done no step may have other numbers
abbrev pub LodgedAgentsMayCome : Type 0
LodgedAgentsMayCome =
    (plan : Plan) (n : ℕ) (group more : AgentNumbers) (names : List Name) (homes : List ℕ) (steps : List ProcessStep)
    (berths : List Berth) → AreLodged plan n group names homes steps berths
    → AgreeOn (number_by group) (number_by more) steps → AreLodged plan n more names homes steps berths

-- a step that begins and ends nothing at the node
abbrev pub OthersKeepBerths : Type 0
OthersKeepBerths =
    (plan : Plan) (n : ℕ) (group : AgentNumbers) (names : List Name) (homes : List ℕ) (step : ProcessStep)
    (steps : List ProcessStep) (berths : List Berth) → AreLodged plan n group names homes steps berths
    → begins n step ≡ false → ends n step ≡ false → AreLodged plan n group names homes (step ∷ steps) berths

-- a step that begins a process takes a berth for it that is free, if its clock has counted the last step that left it
abbrev pub BeginningsTakeBerths : Type 0
BeginningsTakeBerths =
    (plan : Plan) (n : ℕ) (places : Places) (group : AgentNumbers) (agents : List Agent) (names : List Name)
    (homes : List ℕ) (step : ProcessStep) (steps : List ProcessStep) (check : Check) (state : State)
    (berths : List Berth) (x : Name) (k : ℕ) (berth : Berth)
    → AreLodged plan n group names homes steps berths → IsFollowed plan places group agents (step ∷ steps) check state
    → begins n step ≡ true → ends n step ≡ false → lodger step ≡ Some x → IsNewName names x
    → slice_get berths k ≡ Some berth → berth.is_free ≡ true
    → HasCountedIfAny check (group step.agent) berth.last
    → AreLodged plan n group (names ++ x ∷ []) (homes ++ k ∷ []) (step ∷ steps)
    (slice_set berths k (record { is_free = false; last = Some (last_step check (group step.agent)) }))

-- a step that ends a process leaves its berth, if its clock has counted the last step that took it
abbrev pub EndsLeaveBerths : Type 0
EndsLeaveBerths =
    (plan : Plan) (n : ℕ) (places : Places) (group : AgentNumbers) (agents : List Agent) (names : List Name)
    (homes : List ℕ) (step : ProcessStep) (steps : List ProcessStep) (check : Check) (state : State)
    (berths : List Berth) (x : Name) (k : ℕ) (berth : Berth)
    → AreLodged plan n group names homes steps berths → IsFollowed plan places group agents (step ∷ steps) check state
    → begins n step ≡ false → ends n step ≡ true → lodger step ≡ Some x
    → number_of_name names x < length names → slice_index homes (number_of_name names x) ≡ k
    → slice_get berths k ≡ Some berth → berth.is_free ≡ false
    → HasCountedIfAny check (group step.agent) berth.last
    → AreLodged plan n group names homes (step ∷ steps)
    (slice_set berths k (record { is_free = true; last = Some (last_step check (group step.agent)) }))

-- so few live at the node in all runs
abbrev pub BerthsLetFewLive : Type 0
BerthsLetFewLive =
    (plan : Plan) (n : ℕ) (places : Places) (group : AgentNumbers) (agents : List Agent) (names : List Name)
    (homes : List ℕ) (steps : List ProcessStep) (check : Check) (state : State) (berths : List Berth)
    → IsFollowed plan places group agents steps check state → AreShut plan agents state
    → AreLodged plan n group names homes steps berths → LiveFewAt plan n
