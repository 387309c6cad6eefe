use Rattle.tfollow.proofs.Growing.{places_may_come}
use Rattle.tfollow.proofs.laws.places_may_come.Goals as goal

pub returns : goal.returns
returns c = places_may_come
