use Rattle.std.proofs.Common.{ℕ, List, ap}
use Rattle.tfiles.specs.Texts.{sink_dump}
use Rattle.tfiles.proofs.Told.{tells_as}
use Rattle.tfiles.proofs.writing.scripts.put_sink.Goals as goal

pub returns : goal.returns
returns g c =
    tells_as c.put_sink_dump.ensures (ap (λ (kept : List (List ℕ)). sink_dump c.args.number kept) c.kept.ensures)
