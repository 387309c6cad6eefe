use Rattle.tfollow.proofs.Lodged.{beginnings_take_berths}
use Rattle.tfollow.proofs.laws.beginnings_take_berths.Goals as goal

pub returns : goal.returns
returns c = beginnings_take_berths
