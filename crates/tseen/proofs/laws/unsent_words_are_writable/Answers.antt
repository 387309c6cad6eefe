use Rattle.tseen.proofs.Unclaimed.{unsent_words_are_writable}
use Rattle.tseen.proofs.laws.unsent_words_are_writable.Goals as goal

pub returns : goal.returns
returns c = unsent_words_are_writable
