use Rattle.tseen.proofs.Reading.{known_words_are_there}
use Rattle.tseen.proofs.laws.known_words_are_there.Goals as goal

pub returns : goal.returns
returns c = known_words_are_there
