use Rattle.std.proofs.Common.{length, ◌*◌, ◌+◌}
use Rattle.trounds.proofs.split.+split.Given as goal

abbrev pub decreases-do_both-first : goal.decreases-do_both-first
decreases-do_both-first g l = 3 * length l.front.now + 3

abbrev pub decreases-do_both-second : goal.decreases-do_both-second
decreases-do_both-second g l = 3 * length l.back.now + 3

abbrev pub decreases-do_shares : goal.decreases-do_shares
decreases-do_shares g l = 3 * length l.share.now + 2

abbrev pub decreases-do_both : goal.decreases-do_both
decreases-do_both g l = 3 * (length l.front.now + length l.back.now) + 1
