use Rattle.std.proofs.Common.{sym, ap}
use Rattle.tfiles.proofs.Told.{tells_as}
use Rattle.twhere.specs.Standing.{room_text}
use Rattle.twhere.proofs.stuck.put_no_room.Goals as goal

pub returns-in-Output : goal.returns-in-Output
returns-in-Output g c = tells_as c.put.ensures (ap room_text (sym c.in-Output.is))

pub returns-in-Input : goal.returns-in-Input
returns-in-Input g c = tells_as c.put-in-Input.ensures (ap room_text (sym c.in-Input.is))

pub returns-in-Alternative : goal.returns-in-Alternative
returns-in-Alternative g c = tells_as c.put-in-Alternative.ensures (ap room_text (sym c.in-Alternative.is))
