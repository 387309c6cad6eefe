use Rattle.std.proofs.Common.{◌≤◌, length, arith}
use Rattle.std.proofs.lemmas.List.{take_all}
use Rattle.tplan.specs.Wires.{all_wires}
use Rattle.tnet.proofs.PlannedWires.{one_more}
use Rattle.tnet.proofs.StartingNets.{good_ends}
use Rattle.tnet.proofs.plan_wires.planned_wires.Goals as goal

pub loop-place-preserved : goal.loop-place-preserved
loop-place-preserved c = rw c.in_ok-push.ensures.items
    (one_more (all_wires c.args.plan.now) c.loop-place.place c.wire_at.result c.loop-place.wires.items
    c.loop-place.invariant c.wire_at.ensures)

pub new-requires : goal.new-requires
new-requires c =
    let all : length (all_wires c.args.plan.now) ≤ c.loop-place.place = omega arith in
    rw (c.node_count.ensures, c.loop-place.invariant, take_all c.loop-place.place (all_wires c.args.plan.now) all)
    (good_ends c.args.plan.now c.requires)
