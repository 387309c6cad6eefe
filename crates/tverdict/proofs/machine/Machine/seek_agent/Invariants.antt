use Rattle.std.proofs.Common.{◌≡◌, ◌<◌, ℕ, Some}
use Rattle.std.specs.Prelude.{slice_get}
use Rattle.tverdict.specs.declared.agent.Agent.{Agent}
use Rattle.tverdict.proofs.machine.Machine.seek_agent.Given as goal

abbrev pub invariant-loop-number : goal.invariant-loop-number
invariant-loop-number l =
    (i : ℕ) (x : Agent) → i < l.number → slice_get l.self.agents.items i ≡ Some x → x ≡ l.agent → ⊥
