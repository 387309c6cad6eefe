use Rattle.std.proofs.Common.{ap, sym}
use Rattle.tfiles.proofs.Told.{tells_as, tells_then}
use Rattle.tchart.specs.Titles.{since_text}
use Rattle.tchart.proofs.titles.put_since.Goals as goal

pub returns-in-None : goal.returns-in-None
returns-in-None g c =
    tells_as (tells_then c.put.ensures (tells_then c.put_decimal.ensures c.put-in-None.ensures))
    (ap (since_text c.args.first) (sym c.in-None.is))
