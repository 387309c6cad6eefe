use Rattle.tfollow.proofs.Lodged.{lodged_agents_may_come}
use Rattle.tfollow.proofs.laws.lodged_agents_may_come.Goals as goal

pub returns : goal.returns
returns c = lodged_agents_may_come
