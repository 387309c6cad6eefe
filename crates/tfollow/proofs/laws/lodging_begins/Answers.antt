use Rattle.tfollow.proofs.Lodged.{lodging_begins}
use Rattle.tfollow.proofs.laws.lodging_begins.Goals as goal

pub returns : goal.returns
returns c = lodging_begins
