-- Which agent makes the next step.
-- Source: own choice.
use Rattle.std.specs.Prelude.{ℕ, ◌≡◌, ◌⊎◌, ◌↔◌, Bool, true, false, List, ◌∷◌, [], ◌++◌, Option, Some, None, All}
use Rattle.std.specs.Prelude.{Contains, slice_get}
use Rattle.tplan.specs.declared.plan.Plan.{Plan}
use Rattle.tclocks.specs.Checks.{with_agent, with_slot}
use Rattle.tprocesses.specs.Machine.{awaits_successor}
use Rattle.tcertify.specs.declared.node.Node.{Node}
use Rattle.tcertify.specs.declared.stored.StoredWord.{StoredWord}
use Rattle.tcertify.specs.Words.{use_of}
use Rattle.tverdict.specs.declared.agent.Agent.{Agent}
use Rattle.tverdict.specs.declared.agent.Agent.TheVariants as agent
use Rattle.tverdict.specs.declared.machine.Machine.{Machine}
use Rattle.tverdict.specs.Machines.{HasStep, HasNoStep}

-- a successor waits at a word of this use, and has a step
abbrev pub awaits : StoredWord → Bool
awaits w = awaits_successor (use_of w.used)

-- a successor of a node that has a step
pub record IsReadySuccessor (nodes : List Node) (a : Agent) : Type 0 where
  pub place : ℕ
  pub node : Node
  pub there : slice_get nodes place ≡ Some node
  pub number : ℕ
  pub word : StoredWord
  pub has : slice_get node.words.items.items number ≡ Some word
  pub awaits : awaits word ≡ true
  pub named : a ≡ agent.Successor node.words.number number

-- no word of a node has a successor with a step
abbrev pub AwaitNothing : Node → Type 0
AwaitNothing node = All (λ w. awaits w ≡ false) node.words.items.items

-- the machine is as it was except for its candidates
abbrev pub IsLookedAt : Machine → Machine → Type 0
IsLookedAt old new = new ≡ record old { candidates = new.candidates }

-- it is as it was except for its candidates, and a successor may have come, with a clock, a slot and a hint
pub record IsLookedOver (old new : Machine) : Type 0 where
  pub same : new ≡ record old { agents = new.agents; hints = new.hints; check = new.check; candidates = new.candidates }
  pub comes : ((new.agents ≡ old.agents) × (new.check ≡ old.check))
      ⊎ ((node word : ℕ) × (new.agents.items ≡ old.agents.items ++ agent.Successor node word ∷ [])
      × (new.check ≡ with_slot (with_agent old.check)))

-- the candidates are those who have a step
abbrev pub AreThoseWithSteps : Plan → Machine → Type 0
AreThoseWithSteps plan m = (number : ℕ) → Contains m.candidates.items number ↔ HasStep plan m number

-- the agent of this number has the next step; if there is none, no agent at all has a step
abbrev pub IsNext : Plan → Machine → Option ℕ → Type 0
IsNext plan m (Some number) = HasStep plan m number
IsNext plan m None = HasNoStep plan m
