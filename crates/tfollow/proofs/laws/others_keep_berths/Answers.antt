use Rattle.tfollow.proofs.Lodged.{others_keep_berths}
use Rattle.tfollow.proofs.laws.others_keep_berths.Goals as goal

pub returns : goal.returns
returns c = others_keep_berths
