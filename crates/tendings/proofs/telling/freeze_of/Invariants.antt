use Rattle.std.proofs.Common.{◌≡◌, drop}
use Rattle.tendings.specs.Tellings.{freeze_from}
use Rattle.tendings.proofs.telling.freeze_of.Given as goal

-- no node before this one is frozen
abbrev pub invariant-loop-number : goal.invariant-loop-number
invariant-loop-number l = freeze_from 0 l.state.nodes ≡ freeze_from l.number (drop l.number l.state.nodes)
