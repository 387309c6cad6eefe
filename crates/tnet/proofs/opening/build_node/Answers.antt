use Rattle.tnet.proofs.Starting.{good_segments, built_of, unnoticed}
use Rattle.tnet.proofs.opening.build_node.Goals as goal

pub load_segments-requires-clause-fit : goal.load_segments-requires-clause-fit
load_segments-requires-clause-fit c = rw c.as_slice.ensures (good_segments c.args.plan.now c.requires.segments)

pub new-requires : goal.new-requires
new-requires c =
    unnoticed c.args.timeslice c.args.plan.now _
    (built_of c.args.timeslice c.args.plan.now _ _ _ _ _ c.in_ok-processor.ensures.machine c.as_slice.ensures
    c.load_segments.ensures.loaded c.as_slice-2.ensures c.in-Ok.ensures.added)
