use Rattle.std.proofs.Common.{◌≤◌, length, arith, ◌∙◌}
use Rattle.std.proofs.lemmas.List.{take_all}
use Rattle.tplan.specs.Wires.{all_wires}
use Rattle.tnet.proofs.PlannedWires.{one_more}
use Rattle.tcheck.proofs.ends.all_wires.Goals as goal

pub loop-place-preserved : goal.loop-place-preserved
loop-place-preserved c = rw c.in_ok-push.ensures.items
    (one_more (all_wires c.args.plan.now) c.loop-place.place c.wire_at.result c.loop-place.wires.items
    c.loop-place.invariant c.wire_at.ensures)

pub returns : goal.returns
returns c =
    let all : length (all_wires c.args.plan.now) ≤ c.loop-place.place = omega arith in
    c.loop-place.invariant ∙ take_all c.loop-place.place (all_wires c.args.plan.now) all
