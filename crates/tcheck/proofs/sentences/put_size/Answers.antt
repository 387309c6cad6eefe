use Rattle.std.proofs.Common.{ap, decimal}
use Rattle.tfiles.proofs.Told.{tells_as, tells_then}
use Rattle.std.proofs.Common.{◌∙◌}
use Rattle.tcheck.proofs.sentences.put_size.Goals as goal

pub returns : goal.returns
returns g c =
    tells_then c.put.ensures
    (tells_then (tells_as c.put_decimal.ensures (ap decimal c.from.ensures))
    (tells_then c.put-2.ensures
    (tells_as c.put_decimal-2.ensures (ap decimal (c.from-2.ensures ∙ c.largest_memory.ensures)))))
