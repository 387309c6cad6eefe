use Rattle.std.proofs.Common.{sym, ap}
use Rattle.tfiles.proofs.Told.{tells_none, tells_as}
use Rattle.tnames.specs.Listings.{label_of}
use Rattle.tnames.proofs.listing.put_label_of.Goals as goal

pub returns-in_default : goal.returns-in_default
returns-in_default g c = tells_as (tells_none c.args.out.now) (ap (label_of c.args.names.now) (sym c.in_default.is))
