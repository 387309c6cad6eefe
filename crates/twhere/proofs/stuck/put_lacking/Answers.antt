use Rattle.std.proofs.Common.{sym, ap}
use Rattle.tfiles.proofs.Told.{tells_as, tells_none, tells_then}
use Rattle.twhere.specs.Standing.{lack_text, lacking_text}
use Rattle.twhere.proofs.stuck.put_lacking.Goals as goal

pub returns-in-Some : goal.returns-in-Some
returns-in-Some g c =
    tells_as
    (tells_then c.put.ensures (tells_as c.put_lack.ensures (ap (lack_text c.args.want) c.lacking.ensures)))
    (ap (lacking_text c.args.at.now.net.now c.args.at.now.number c.args.at.now.node.now c.args.want) (sym c.in-Some.is))

pub returns-in_default : goal.returns-in_default
returns-in_default g c =
    tells_as (tells_none c.args.out.now)
    (ap (lacking_text c.args.at.now.net.now c.args.at.now.number c.args.at.now.node.now c.args.want)
    (sym c.in_default.is))
