use Rattle.std.proofs.Common.{take}
use Rattle.tnames.proofs.Nearest.{IsBestSoFar}
use Rattle.tnames.proofs.names.Names.nearest.Given as goal

-- the best name so far
abbrev pub invariant-loop-name : goal.invariant-loop-name
invariant-loop-name l = IsBestSoFar l.address (take l.name-index l.name-items) l.best
