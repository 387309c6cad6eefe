use Rattle.std.proofs.Common.{ap, decimal}
use Rattle.tfiles.proofs.Told.{tells_then, tells_as}
use Rattle.tnames.proofs.NamedTexts.{name-above, name-there}
use Rattle.tnames.proofs.text.put_distance.Goals as goal

pub returns-then-distance-ne0 : goal.returns-then-distance-ne0
returns-then-distance-ne0 g c =
    tells_as
    (tells_then c.put.ensures
    (tells_then c.put-then-distance-ne0.ensures (tells_as c.put_decimal.ensures (ap decimal c.from.ensures))))
    (name-above c.args.name.now c.args.distance c.if-distance-ne0.true)

pub returns-else-distance-ne0 : goal.returns-else-distance-ne0
returns-else-distance-ne0 g c =
    tells_as c.put.ensures (name-there c.args.name.now c.args.distance c.if-distance-ne0.false)
