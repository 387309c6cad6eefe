-- The machine follows a run.
use Rattle.tverdict.specs.Machines.{Follows}
use Rattle.tfindings.proofs.parts.certify_in_parts.Given as goal

abbrev pub invariant-loop-part : goal.invariant-loop-part
invariant-loop-part g l = Follows l.plan l.machine
