use Rattle.std.proofs.Common.{vec_len}
use Rattle.tverdict.specs.Machines.{IsSound}
use Rattle.tverdict.specs.Next.{IsLookedAt}
use Rattle.tverdict.proofs.machine.Machine.take_candidate.Given as goal

abbrev pub invariant-loop-number : goal.invariant-loop-number
invariant-loop-number l = IsSound l.plan l.self × IsLookedAt l.fn.self l.self

abbrev pub decreases-loop-number : goal.decreases-loop-number
decreases-loop-number l = vec_len l.self.candidates
