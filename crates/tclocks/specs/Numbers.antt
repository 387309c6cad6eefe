-- The numbers by which the check knows the agents, places and modes of a machine.
-- Source: own choice.
use Rattle.std.specs.Prelude.{ℕ, ◌≡◌, ◌<◌, ◌≤◌, true, length}
use Rattle.tagents.specs.Agents.{Agents}
use Rattle.tagents.specs.Tables.{Accesses}
use Rattle.tclocks.specs.declared.mode.Mode.{Mode}
use Rattle.tclocks.specs.Modes.{collide}
use Rattle.tclocks.specs.Checks.{Check}

-- the number of each agent and place, and the mode of each kind of access to a place; places may share a number;
-- whoever has no number yet has a greater one than all that were added
pub record Numbers (Agent Place Kind : Type 0) : Type 0 where
  pub agent : Agent → ℕ
  pub place : Place → ℕ
  pub mode : Place → Kind → Mode

module _ {State Agent Label Place Kind : Type 0} (m : Agents State Agent Label) (accesses : Accesses Place Kind Label)
    (numbers : Numbers Agent Place Kind) where
  -- an agent is itself, kinds of accesses that collide have modes that collide, and agents that were added have numbers
  -- of their own
  pub record AreNumbers (check : Check) : Type 0 where
    pub same : (a : Agent) → m.same a a ≡ true
    pub collide : (p : Place) (j k : Kind) → accesses.collide j k ≡ true
        → collide (numbers.mode p j) (numbers.mode p k) ≡ true
    pub apart : (a b : Agent) → numbers.agent a < length check.clocks → numbers.agent a ≡ numbers.agent b → a ≡ b

-- what was added keeps its number, and what was not gets none of those
pub record Extends {Agent Place Kind : Type 0} (check : Check) (numbers more : Numbers Agent Place Kind) : Type 0 where
  pub agents : (a : Agent) → numbers.agent a < length check.clocks → more.agent a ≡ numbers.agent a
  pub new_agents : (a : Agent) → length check.clocks ≤ numbers.agent a → length check.clocks ≤ more.agent a
  pub places : (p : Place) → numbers.place p < length check.places → more.place p ≡ numbers.place p
  pub modes : (p : Place) (k : Kind) → more.mode p k ≡ numbers.mode p k
