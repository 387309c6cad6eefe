-- The numbers by which the check of races knows the agents and the places of the process machine.
-- Source: own choice.
use Rattle.std.specs.Prelude.{ℕ, suc, ◌≡◌, ◌≢◌, ◌↔◌, List, [], ◌∷◌, Some, length, slice_get, if◌then◌else◌}
use Rattle.tprocesses.specs.Places.{Place}
use Rattle.tprocesses.specs.Machine.{Agent, same_agent}

-- the number that each place has
abbrev pub Places : Type 0
Places = Place → ℕ

-- the number that each agent has or had. Others may have it before and after it
abbrev pub AgentNumbers : Type 0
AgentNumbers = Agent → ℕ

-- the number of an agent that has one now: how many stand before it in the list of those who have
abbrev pub number_in : List Agent → Agent → ℕ
number_in [] a = 0
number_in (b ∷ bs) a = if same_agent b a then 0 else suc (number_in bs a)

-- an agent stands in the list at this number
abbrev pub HasNumber : List Agent → Agent → ℕ → Type 0
HasNumber agents a number = slice_get agents number ≡ Some a

-- no agent stands in the list twice
abbrev pub AreApart : List Agent → Type 0
AreApart agents = (number : ℕ) (a : Agent) → HasNumber agents a number → number_in agents a ≡ number

-- an agent stands nowhere in the list
abbrev pub IsNew : List Agent → Agent → Type 0
IsNew agents a = number_in agents a ≡ length agents

-- it is new exactly if each one in the list is another one
abbrev pub NewAgentsAreOthers : Type 0
NewAgentsAreOthers =
    (agents : List Agent) (a : Agent) → AreApart agents
    → IsNew agents a ↔ ((number : ℕ) (b : Agent) → HasNumber agents b number → b ≢ a)
