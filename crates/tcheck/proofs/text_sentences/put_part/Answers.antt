use Rattle.std.proofs.Common.{sym, ap}
use Rattle.tfiles.proofs.Told.{tells_as}
use Rattle.tcheck.specs.TextSentences.{part_text}
use Rattle.tcheck.proofs.text_sentences.put_part.Goals as goal

pub returns-in-Whole : goal.returns-in-Whole
returns-in-Whole g c = tells_as c.put.ensures (ap part_text (sym c.in-Whole.is))

pub returns-in-Node : goal.returns-in-Node
returns-in-Node g c = tells_as c.put_numbered.ensures (ap part_text (sym c.in-Node.is))

pub returns-in-Wire : goal.returns-in-Wire
returns-in-Wire g c = tells_as c.put_numbered-in-Wire.ensures (ap part_text (sym c.in-Wire.is))

pub returns-in-Source : goal.returns-in-Source
returns-in-Source g c = tells_as c.put_numbered-in-Source.ensures (ap part_text (sym c.in-Source.is))

pub returns-in-Sink : goal.returns-in-Sink
returns-in-Sink g c = tells_as c.put_numbered-in-Sink.ensures (ap part_text (sym c.in-Sink.is))

pub returns-in-Hold : goal.returns-in-Hold
returns-in-Hold g c = tells_as c.put_numbered-in-Hold.ensures (ap part_text (sym c.in-Hold.is))
