use Rattle.std.proofs.Common.{ℕ, ap₂, ◌∙◌}
use Rattle.tfiles.specs.Texts.{source_line}
use Rattle.tfiles.proofs.Told.{tells_as}
use Rattle.tendings.proofs.RoleDumps.{source_dump}
use Rattle.tendings.proofs.telling.put_source.Goals as goal

pub returns : goal.returns
returns g c =
    tells_as c.put_source_line.ensures
    (ap₂ (λ (done messages : ℕ). source_line c.args.number done messages) c.done.ensures c.count.ensures
    ∙ source_dump c.args.number c.args.source.now c.know_role.ensures)
