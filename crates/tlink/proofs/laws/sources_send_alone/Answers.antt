use Rattle.tlink.proofs.Alone.{sources_send_alone}
use Rattle.tlink.proofs.laws.sources_send_alone.Goals as goal

pub returns : goal.returns
returns c = sources_send_alone
