use Rattle.tlink.proofs.Alone.{sinks_take_alone}
use Rattle.tlink.proofs.laws.sinks_take_alone.Goals as goal

pub returns : goal.returns
returns c = sinks_take_alone
