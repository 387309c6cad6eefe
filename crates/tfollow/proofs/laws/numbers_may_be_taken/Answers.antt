use Rattle.tfollow.proofs.Taking.{numbers_may_be_taken}
use Rattle.tfollow.proofs.laws.numbers_may_be_taken.Goals as goal

pub returns : goal.returns
returns c = numbers_may_be_taken
