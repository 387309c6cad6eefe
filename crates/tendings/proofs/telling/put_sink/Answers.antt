use Rattle.tfiles.proofs.Told.{tells_as}
use Rattle.tendings.proofs.RoleDumps.{sink_dumped}
use Rattle.tendings.proofs.telling.put_sink.Goals as goal

pub returns : goal.returns
returns g c =
    tells_as c.put_sink_dump.ensures
    (sink_dumped c.args.number c.args.sink.now c.kept.result c.know_role.ensures c.kept.ensures)
