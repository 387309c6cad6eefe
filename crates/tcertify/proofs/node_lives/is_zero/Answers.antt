use Rattle.tcertify.proofs.NodeLives.{zero_is}
use Rattle.tcertify.proofs.node_lives.is_zero.Goals as goal

pub returns : goal.returns
returns c = zero_is c.args.count c.ranges.count
