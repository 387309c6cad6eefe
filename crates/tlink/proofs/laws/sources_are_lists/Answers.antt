use Rattle.tlink.proofs.KeptLists.{sources_are_lists}
use Rattle.tlink.proofs.laws.sources_are_lists.Goals as goal

pub returns : goal.returns
returns c = sources_are_lists
