use Rattle.std.proofs.Common.{sym, ap}
use Rattle.tfiles.proofs.Told.{tells_as, tells_then}
use Rattle.twhere.specs.Standing.{wire_text}
use Rattle.twhere.proofs.wait_text.put_wire.Goals as goal

pub returns-in-Some : goal.returns-in-Some
returns-in-Some g c =
    tells_as (tells_then c.put_way.ensures c.put_end.ensures) (ap (wire_text c.args.want) (sym c.in-Some.is))
