use Rattle.tproc.proofs.SavedWords.{saved_words_stand}
use Rattle.tproc.proofs.laws.saved_words_stand.Goals as goal

pub returns : goal.returns
returns c = saved_words_stand
