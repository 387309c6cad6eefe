use Rattle.std.proofs.Common.{ap, flat_map}
use Rattle.tfiles.proofs.Told.{tells_as, tells_then}
use Rattle.tfindings.specs.Cells.{known_text}
use Rattle.tfindings.proofs.ends.put_kept.Goals as goal

pub returns : goal.returns
returns g c =
    tells_then
    (tells_then c.put.ensures (tells_as c.put_bytes.ensures (ap (flat_map known_text) c.as_slice.ensures.value)))
    c.put-2.ensures
