use Rattle.tfollow.proofs.Opened.{agents_are_open_by}
use Rattle.tfollow.proofs.laws.agents_are_open_by.Goals as goal

pub returns : goal.returns
returns c = agents_are_open_by
