use Rattle.tfiles.proofs.Told.{tells_then}
use Rattle.tchart.proofs.drawing.put_lack.Goals as goal

pub returns : goal.returns
returns g c =
    tells_then c.put_rest.ensures c.put_crowd.ensures
