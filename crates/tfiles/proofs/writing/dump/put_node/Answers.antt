use Rattle.std.proofs.Common.{refl}
use Rattle.tfiles.proofs.NetDumps.{kept_dump, source_dump}
use Rattle.tfiles.proofs.Told.{tells_as}
use Rattle.tfiles.proofs.writing.dump.put_node.Goals as goal

pub returns-in-Some-source : goal.returns-in-Some-source
returns-in-Some-source g c =
    tells_as c.put_source.ensures
    (source_dump c.args.node.now.role c.args.number c.args.node.now.broken c.args.node.now
    c.in-Some-source.source.now refl c.in-Some-source.ensures)

pub returns-in-Some-sink : goal.returns-in-Some-sink
returns-in-Some-sink g c =
    tells_as c.put_sink.ensures
    (kept_dump c.args.node.now.role c.args.number c.args.node.now.broken c.args.node.now c.in-Some-sink.sink.now refl
    c.requires.held c.in-Some-sink.ensures)
