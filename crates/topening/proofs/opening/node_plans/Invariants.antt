use Rattle.std.proofs.Common.{length}
use Rattle.topening.proofs.OpenedFiles.{ArePlannedSoFar}
use Rattle.topening.proofs.opening.node_plans.Given as goal

abbrev pub invariant-loop-file : goal.invariant-loop-file
invariant-loop-file l = ArePlannedSoFar l.nodes l.fn.files (length l.yielded) l.plans.items
