use Rattle.std.proofs.Common.{ap}
use Rattle.tfiles.proofs.Told.{tells_as}
use Rattle.twhere.specs.declared.listing.Listed.{Listed}
use Rattle.twhere.specs.Standing.{listed_where}
use Rattle.twhere.proofs.standing.put_node_where.Goals as goal

pub returns : goal.returns
returns g c =
    tells_as c.put_node.ensures
    (ap (λ (l : Listed). listed_where c.args.net.now c.args.number c.args.node.now l) c.requires.listed)
