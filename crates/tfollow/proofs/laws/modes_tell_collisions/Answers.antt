use Rattle.tfollow.proofs.Moded.{modes_tell_collisions}
use Rattle.tfollow.proofs.laws.modes_tell_collisions.Goals as goal

pub returns : goal.returns
returns c = modes_tell_collisions
