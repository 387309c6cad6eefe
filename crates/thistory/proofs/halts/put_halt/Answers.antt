use Rattle.std.proofs.Common.{ap, decimal}
use Rattle.tfiles.proofs.Told.{tells_as, tells_then}
use Rattle.thistory.proofs.halts.put_halt.Goals as goal

pub returns : goal.returns
returns g c =
    tells_then c.put.ensures
    (tells_then (tells_as c.put_decimal.ensures (ap decimal c.from.ensures))
    (tells_then c.put-2.ensures
    (tells_then c.put_decimal-2.ensures
    (tells_then c.put-3.ensures (tells_then c.put_deed.ensures c.put-4.ensures)))))
