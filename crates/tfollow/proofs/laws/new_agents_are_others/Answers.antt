use Rattle.tfollow.proofs.Numbered.{new_agents_are_others}
use Rattle.tfollow.proofs.laws.new_agents_are_others.Goals as goal

pub returns : goal.returns
returns c = new_agents_are_others
