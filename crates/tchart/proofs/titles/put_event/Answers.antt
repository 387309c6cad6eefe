use Rattle.tfiles.proofs.Told.{tells_then}
use Rattle.tchart.proofs.titles.put_event.Goals as goal

pub returns : goal.returns
returns g c =
    tells_then c.put.ensures c.put_decimal.ensures
