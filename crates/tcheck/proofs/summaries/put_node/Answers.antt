use Rattle.std.proofs.Common.{ap}
use Rattle.tfiles.proofs.Told.{tells_as, tells_then}
use Rattle.std.proofs.Common.{ap₂, List, ℕ}
use Rattle.tplan.specs.declared.plan.Process.{Process}
use Rattle.tplan.specs.declared.plan.Segment.{Segment}
use Rattle.tcheck.specs.Summaries.{node_line, process_note, texts_from}
use Rattle.tcheck.proofs.summaries.put_node.Goals as goal

pub returns : goal.returns
returns g c =
    tells_then (tells_as c.put_node_line.ensures
    (ap (λ (n : List ℕ). node_line n c.args.number c.args.node.now) c.image_name.ensures))
    (tells_then (tells_as c.put_process_notes.ensures
    (ap₂ (λ (ss : List Segment) (ps : List Process). texts_from (process_note c.args.number ss) 0 ps)
    c.as_slice-segments.ensures c.as_slice.ensures)) c.put_link_notes.ensures)
