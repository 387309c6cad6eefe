use Rattle.tseen.proofs.EnabledMessages.{enabled_messages_are_seen}
use Rattle.tseen.proofs.alternatives.enabled_messages_are_seen.Goals as goal

pub returns : goal.returns
returns c = enabled_messages_are_seen
