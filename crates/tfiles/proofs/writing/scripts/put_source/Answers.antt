use Rattle.std.proofs.Common.{ℕ, ap₂}
use Rattle.tfiles.specs.Texts.{source_line}
use Rattle.tfiles.proofs.Told.{tells_as}
use Rattle.tfiles.proofs.writing.scripts.put_source.Goals as goal

pub returns : goal.returns
returns g c =
    tells_as c.put_source_line.ensures
    (ap₂ (λ (done messages : ℕ). source_line c.args.number done messages) c.done.ensures c.count.ensures)
