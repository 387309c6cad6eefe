-- Which steps are known to lead to the next step of an agent, before that is done.
-- Source: own choice.
use Rattle.std.specs.Prelude.{ℕ, ◌≡◌, ◌⊎◌, ◌||◌, Bool, true, false, List, [], ◌∷◌, Contains}
use Rattle.std.specs.List.{list_any}
use Rattle.tplan.specs.declared.plan.Plan.{Plan}
use Rattle.tagents.specs.Walks.{was_shut, changes_at}
use Rattle.tagents.specs.Tidy.{IsGate}
use Rattle.tprocesses.specs.Places.{Place, WordAt}
use Rattle.tprocesses.specs.Values.{Value}
use Rattle.tprocesses.specs.Changes.{Change, Decrement}
use Rattle.tprocesses.specs.Machine.{Agent, Successor, gates, is_open, step_of, process_machine}
use Rattle.tprocesses.specs.Certified.{ProcessStep}
use Rattle.tcertify.specs.Running.{State}
use Rattle.tcertify.specs.Seeing.{sights}
use Rattle.tcertify.specs.Walked.{changes}

-- the step has seen a gate of the agent shut
abbrev pub has_seen_shut : Plan → ProcessStep → Agent → Bool
has_seen_shut plan step a = list_any (λ p. was_shut (process_machine plan) a p step.seen) (gates plan a)

-- there is one change, and it is the end of one of several processes
abbrev pub is_count_down : List Change → Bool
is_count_down (Decrement priority ∷ []) = true
is_count_down _ = false

-- the step has counted down the word at which the agent, a successor, waits, and has not changed it otherwise
abbrev pub has_counted_down : Plan → ProcessStep → Agent → Bool
has_counted_down plan step (Successor n k) = is_count_down (changes_at (process_machine plan) step.deed (WordAt n k))
has_counted_down plan step _ = false

-- the step leads to the next one of the agent
abbrev pub leads_on : Plan → ProcessStep → Agent → Bool
leads_on plan step a = has_seen_shut plan step a || has_counted_down plan step a

-- the step of an agent, as it runs, sees a gate of another agent shut
pub record SeesShut (plan : Plan) (a : Agent) (state : State) (b : Agent) : Type 0 where
  pub place : Place
  pub value : Value
  pub gate : IsGate (process_machine plan) b place
  pub seen : Contains (sights (step_of plan a) state) (record { place = place; value = value })
  pub shut : is_open plan b place value ≡ false

-- the step of an agent, as it runs, counts down the word at which a successor waits
pub record CountsDown (plan : Plan) (a : Agent) (state : State) (b : Agent) : Type 0 where
  pub node : ℕ
  pub word : ℕ
  pub priority : ℕ
  pub successor : b ≡ Successor node word
  pub counted : Contains (changes (step_of plan a) state)
      (record { place = WordAt node word; change = Decrement priority })

-- by what a run tells of leads
abbrev pub RunLeads : Plan → Agent → State → Agent → Type 0
RunLeads plan a state b = SeesShut plan a state b ⊎ CountsDown plan a state b
