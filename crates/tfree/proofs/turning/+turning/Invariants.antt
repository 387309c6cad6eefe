use Rattle.std.proofs.Common.{length, ◌*◌, ◌+◌}
use Rattle.tfree.proofs.turning.+turning.Given as goal

abbrev pub decreases-turn_both-one : goal.decreases-turn_both-one
decreases-turn_both-one g l = 3 * length l.front.now + 3

abbrev pub decreases-turn_both-other : goal.decreases-turn_both-other
decreases-turn_both-other g l = 3 * length l.back.now + 3

abbrev pub decreases-turn_some : goal.decreases-turn_some
decreases-turn_some g l = 3 * length l.workers.now + 2

abbrev pub decreases-turn_both : goal.decreases-turn_both
decreases-turn_both g l = 3 * (length l.front.now + length l.back.now) + 1
