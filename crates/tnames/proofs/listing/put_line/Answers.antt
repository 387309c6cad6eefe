use Rattle.std.proofs.Common.{ap}
use Rattle.tfiles.proofs.Told.{tells_as, tells_then}
use Rattle.tnames.specs.Listings.{label_of}
use Rattle.tnames.proofs.listing.put_line.Goals as goal

pub returns : goal.returns
returns g c =
    tells_then (tells_as c.put_label_of.ensures (ap (label_of c.args.names.now) c.listed_address.ensures))
    (tells_then c.put.ensures c.put-2.ensures)
