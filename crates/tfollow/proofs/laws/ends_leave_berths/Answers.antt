use Rattle.tfollow.proofs.Lodged.{ends_leave_berths}
use Rattle.tfollow.proofs.laws.ends_leave_berths.Goals as goal

pub returns : goal.returns
returns c = ends_leave_berths
