use Rattle.tfollow.proofs.Refused.{refusals_tell_races}
use Rattle.tfollow.proofs.laws.refusals_tell_races.Goals as goal

pub returns : goal.returns
returns c = refusals_tell_races
