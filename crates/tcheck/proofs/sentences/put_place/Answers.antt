use Rattle.std.proofs.Common.{sym, ap}
use Rattle.tfiles.proofs.Told.{tells_as}
use Rattle.tcheck.specs.Sentences.{place_text}
use Rattle.tcheck.proofs.sentences.put_place.Goals as goal

pub returns-in-Net : goal.returns-in-Net
returns-in-Net g c = tells_as c.put.ensures (ap (place_text) (sym c.in-Net.is))

pub returns-in-Node : goal.returns-in-Node
returns-in-Node g c = tells_as c.put_numbered.ensures (ap (place_text) (sym c.in-Node.is))

pub returns-in-Wire : goal.returns-in-Wire
returns-in-Wire g c = tells_as c.put_numbered-in-Wire.ensures (ap (place_text) (sym c.in-Wire.is))

pub returns-in-Source : goal.returns-in-Source
returns-in-Source g c = tells_as c.put_numbered-in-Source.ensures (ap (place_text) (sym c.in-Source.is))

pub returns-in-Sink : goal.returns-in-Sink
returns-in-Sink g c = tells_as c.put_numbered-in-Sink.ensures (ap (place_text) (sym c.in-Sink.is))

pub returns-in-Hold : goal.returns-in-Hold
returns-in-Hold g c = tells_as c.put_numbered-in-Hold.ensures (ap (place_text) (sym c.in-Hold.is))
