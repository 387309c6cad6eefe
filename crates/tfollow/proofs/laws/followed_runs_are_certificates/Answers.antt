use Rattle.tfollow.proofs.Ending.{followed_runs_are_certificates}
use Rattle.tfollow.proofs.laws.followed_runs_are_certificates.Goals as goal

pub returns : goal.returns
returns c = followed_runs_are_certificates
