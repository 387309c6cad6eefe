use Rattle.tfiles.proofs.Told.{tells_as}
use Rattle.tendings.proofs.RoleDumps.{processor_dump}
use Rattle.tendings.proofs.telling.put_processor.Goals as goal

pub returns : goal.returns
returns g c =
    tells_as c.put_processor_dump.ensures
    (processor_dump c.args.number c.args.site.now c.processor.result.now c.broken.result c.know_role.ensures
    c.processor.ensures.machine c.broken.ensures)
