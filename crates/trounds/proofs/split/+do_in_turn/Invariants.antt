use Rattle.std.proofs.Common.{length}
use Rattle.trounds.proofs.split.+do_in_turn.Given as goal

abbrev pub decreases-do_in_turn : goal.decreases-do_in_turn
decreases-do_in_turn g l = length l.share.now
