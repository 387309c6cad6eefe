use Rattle.tnet.proofs.KeptMessages.{sinks_keep_whole}
use Rattle.tnet.proofs.laws.sinks_keep_messages_whole.Goals as goal

pub returns : goal.returns
returns c = sinks_keep_whole
