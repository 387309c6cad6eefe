use Rattle.tlink.proofs.KeptLists.{sinks_are_lists}
use Rattle.tlink.proofs.laws.sinks_are_lists.Goals as goal

pub returns : goal.returns
returns c = sinks_are_lists
