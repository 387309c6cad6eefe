use Rattle.tfollow.proofs.Growing.{agents_may_come}
use Rattle.tfollow.proofs.laws.agents_may_come.Goals as goal

pub returns : goal.returns
returns c = agents_may_come
