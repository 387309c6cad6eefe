use Rattle.tseen.proofs.Unclaimed.{free_words_are_readable}
use Rattle.tseen.proofs.laws.free_words_are_readable.Goals as goal

pub returns : goal.returns
returns c = free_words_are_readable
