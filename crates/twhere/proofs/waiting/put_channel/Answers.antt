use Rattle.tfiles.proofs.Told.{tells_then}
use Rattle.twhere.proofs.waiting.put_channel.Goals as goal

pub returns : goal.returns
returns g c = tells_then c.put.ensures (tells_then c.put_word.ensures c.put_message.ensures)
