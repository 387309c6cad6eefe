use Rattle.std.proofs.Common.{sym, ap}
use Rattle.tfiles.proofs.Told.{tells_as, tells_none, tells_then}
use Rattle.twhere.specs.Standing.{byte_fact}
use Rattle.twhere.proofs.links.put_arrival.Goals as goal

pub returns-in-Some : goal.returns-in-Some
returns-in-Some g c =
    tells_as
    (tells_then c.put_name.ensures
    (tells_then (tells_then c.put.ensures (tells_then c.put_byte.ensures c.put_if.ensures)) c.put-in-Some.ensures))
    (ap (byte_fact c.args.link c.args.name.now) (sym c.in-Some.is))

pub returns-in_default : goal.returns-in_default
returns-in_default g c =
    tells_as (tells_none c.args.out.now) (ap (byte_fact c.args.link c.args.name.now) (sym c.in_default.is))
