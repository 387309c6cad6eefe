use Rattle.tfiles.proofs.Told.{tells_as, tells_then}
use Rattle.tfindings.proofs.EndShown.{end_of_parts}
use Rattle.tfindings.proofs.ends.put_end.Goals as goal

pub returns : goal.returns
returns g c =
    tells_as (tells_then c.put_nodes.ensures (tells_then c.put_sources.ensures c.put_sinks.ensures))
    (end_of_parts c.args.plan.now c.args.machine.now _ _ _ _ c.as_slice-nodes.ensures.value c.as_slice-sources.ensures
    c.as_slice.ensures.value c.as_slice-2.ensures.value c.requires.sound)
