use Rattle.std.proofs.Common.{sym, ap}
use Rattle.tfiles.proofs.Told.{tells_as, tells_none, tells_then}
use Rattle.twhere.specs.Standing.{ack_fact}
use Rattle.twhere.proofs.links.put_ack.Goals as goal

pub returns-then-acknowledged : goal.returns-then-acknowledged
returns-then-acknowledged g c =
    tells_as (tells_then c.put_name.ensures c.put.ensures) (ap (ack_fact c.args.link) (sym c.if-acknowledged.true))

pub returns-else-acknowledged : goal.returns-else-acknowledged
returns-else-acknowledged g c =
    tells_as (tells_none c.args.out.now) (ap (ack_fact c.args.link) (sym c.if-acknowledged.false))
