use Rattle.std.proofs.Common.{ap}
use Rattle.tfiles.proofs.Told.{tells_as, tells_then}
use Rattle.thistory.specs.Lines.{how_text}
use Rattle.thistory.proofs.lines.put_tail.Goals as goal

pub returns : goal.returns
returns g c =
    tells_then (tells_as c.put_how.ensures (ap (how_text c.args.done.now.deed) c.processor_in.ensures))
    (tells_then c.put_outcome.ensures c.put.ensures)
