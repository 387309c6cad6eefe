use Rattle.std.proofs.Common.{ap}
use Rattle.std.specs.Prelude.{codes}
use Rattle.tfiles.proofs.Told.{tells_as, tells_then}
use Rattle.tchart.specs.Parts.{number_text}
use Rattle.tchart.proofs.drawing.put_head.Goals as goal

pub returns : goal.returns
returns g c =
    tells_then c.put.ensures
    (tells_then (tells_as c.put_number.ensures (ap (number_text (codes "width")) c.pixels.ensures))
    (tells_then (tells_as c.put_number-2.ensures (ap (number_text (codes "height")) c.pixels-2.ensures))
    (tells_then c.put-2.ensures
    (tells_then c.put_decimal.ensures
    (tells_then c.put-3.ensures
    (tells_then c.put_decimal-2.ensures c.put-4.ensures))))))
