use Rattle.std.proofs.Common.{ℕ, ap}
use Rattle.tfiles.specs.Texts.{sink_line}
use Rattle.tfiles.proofs.Told.{tells_then, tells_as}
use Rattle.tfiles.proofs.writing.scripts.put_sink_dump.Goals as goal

pub returns : goal.returns
returns g c =
    tells_then
    (tells_as c.put_sink_line.ensures (ap (λ (n : ℕ). sink_line c.args.number n) c.count.ensures))
    c.put_messages.ensures
