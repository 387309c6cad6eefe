use Rattle.tfiles.proofs.Told.{tells_then}
use Rattle.tcheck.proofs.summaries.put_link_line.Goals as goal

pub returns : goal.returns
returns g c =
    tells_then c.put_numbered.ensures
    (tells_then c.put_numbered-2.ensures c.put.ensures)
