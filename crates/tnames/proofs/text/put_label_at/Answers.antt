use Rattle.tfiles.proofs.Told.{tells_none, tells_then, tells_as}
use Rattle.tnames.proofs.NamedTexts.{label-above, label-there}
use Rattle.tnames.proofs.text.put_label_at.Goals as goal

pub returns-then-distance-eq0 : goal.returns-then-distance-eq0
returns-then-distance-eq0 g c =
    tells_as
    (tells_then (tells_then c.put.ensures c.put-then-distance-eq0.ensures) c.put-then-distance-eq0-2.ensures)
    (label-there c.args.name.now c.args.distance c.if-distance-eq0.true)

pub returns-else-distance-eq0 : goal.returns-else-distance-eq0
returns-else-distance-eq0 g c =
    tells_as (tells_none c.args.out.now) (label-above c.args.name.now c.args.distance c.if-distance-eq0.false)
