use Rattle.tseen.proofs.Notices.{notices_are_seen}
use Rattle.tseen.proofs.laws.notices_are_seen.Goals as goal

pub returns : goal.returns
returns c = notices_are_seen
