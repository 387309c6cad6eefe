use Rattle.tfiles.proofs.Told.{tells_then}
use Rattle.tcheck.proofs.summaries.put_sink.Goals as goal

pub returns : goal.returns
returns g c =
    tells_then c.put_numbered.ensures
    (tells_then c.put_numbered-2.ensures
    (tells_then c.put_behind.ensures c.put.ensures))
