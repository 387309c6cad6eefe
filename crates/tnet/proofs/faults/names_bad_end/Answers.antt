use Rattle.std.proofs.Common.{◌≤◌, ◌<◌, length, ap, ◌∙◌, arith}
use Rattle.tnet.proofs.PlannedWires.{bad_end_of_wire, bad_end_of_script}
use Rattle.tnet.proofs.faults.names_bad_end.Goals as goal

pub returns-then-place-as_slice : goal.returns-then-place-as_slice
returns-then-place-as_slice c =
    let within : c.args.place < length c.args.plan.now.wires =
    omega (arith, c.if-place-as_slice.true, ap length c.as_slice.ensures) in
    rw c.as_slice-nodes.ensures at c.has_bad_end.ensures
    ∙ bad_end_of_wire c.args.plan.now c.args.place c.wire_at-wire.result within c.wire_at-wire.ensures

pub returns : goal.returns
returns c =
    let past : length c.args.plan.now.wires ≤ c.args.place =
    omega (arith, c.if-place-as_slice.false, ap length c.as_slice.ensures) in
    rw c.as_slice-nodes.ensures at c.is_bad_end.ensures
    ∙ bad_end_of_script c.args.plan.now c.args.place c.wire_at-wire.result past c.wire_at-wire.ensures
