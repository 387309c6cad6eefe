use Rattle.tfollow.proofs.Lodged.{berths_let_few_live}
use Rattle.tfollow.proofs.laws.berths_let_few_live.Goals as goal

pub returns : goal.returns
returns c = berths_let_few_live
