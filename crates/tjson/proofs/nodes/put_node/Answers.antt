use Rattle.std.proofs.Common.{refl, ap, ◌∙◌, Option}
use Rattle.tword.specs.declared.breaks.Break.{Break}
use Rattle.tproc.specs.Hidden.{hidden}
use Rattle.tfiles.proofs.Told.{tells_as}
use Rattle.tjson.specs.Runs.{node_object}
use Rattle.tjson.proofs.NodeLines.{processor_line, sink_line, source_line}
use Rattle.tjson.proofs.nodes.put_node.Goals as goal

pub returns-in-Some : goal.returns-in-Some
returns-in-Some g c =
    tells_as c.put_processor.ensures
    (ap (λ (broken : Option Break). node_object c.args.number broken c.in-Some.processor.now.control.halted
    (hidden c.in-Some.processor.now).store) c.broken.ensures
    ∙ processor_line c.args.node.now.role c.args.number c.args.node.now.broken c.args.node.now.machine
    c.in-Some.processor.now c.in-Some.ensures)

pub returns-in-Some-source : goal.returns-in-Some-source
returns-in-Some-source g c =
    tells_as c.put_source.ensures
    (source_line c.args.node.now.role c.args.number c.args.node.now.broken c.args.node.now
    c.in-Some-source.source.now refl c.in-Some-source.ensures)

pub returns-in-Some-sink : goal.returns-in-Some-sink
returns-in-Some-sink g c =
    tells_as c.put_sink.ensures
    (sink_line c.args.node.now.role c.args.number c.args.node.now.broken c.args.node.now c.in-Some-sink.sink.now refl
    c.requires.held c.in-Some-sink.ensures)
