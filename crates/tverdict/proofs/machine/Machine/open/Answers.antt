use Rattle.std.proofs.Common.{subst, sym}
use Rattle.tverdict.specs.Opening.{CanOpen}
use Rattle.tverdict.proofs.ImageWorkspaces.{can_open}
use Rattle.tverdict.proofs.machine.Machine.open.Goals as goal

pub opened_nodes-requires : goal.opened_nodes-requires
opened_nodes-requires c =
    subst CanOpen (sym c.as_slice.ensures) (can_open c.args.plan.now c.in_ok-wires.ensures.faultless)
