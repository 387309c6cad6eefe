use Rattle.std.proofs.Common.{ap}
use Rattle.tproc.specs.Machine.{Machine}
use Rattle.tfiles.proofs.Told.{tells_then, tells_as}
use Rattle.twhere.specs.Standing.{place_text}
use Rattle.twhere.proofs.waiting.put_waiter.Goals as goal

pub returns : goal.returns
returns g c =
    tells_then
    (tells_then c.put.ensures
    (tells_then
    (tells_as c.put_place.ensures (ap (λ (n : Machine). place_text n c.args.waiter.now.process) c.args.at.now.same))
    (tells_then c.put-2.ensures c.put_reason.ensures))) c.put-3.ensures
