use Rattle.std.proofs.Common.{append_assoc, codes, decimal}
use Rattle.tfiles.proofs.Told.{tells_as, tells_then}
use Rattle.topening.proofs.fault_line.put_image.Goals as goal

pub returns : goal.returns
returns g c = tells_as (tells_then c.put_numbered.ensures c.put.ensures)
    (append_assoc (codes "image ") (decimal c.args.node) c.args.wrong.now)
