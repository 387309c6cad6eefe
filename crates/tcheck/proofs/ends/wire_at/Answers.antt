use Rattle.std.proofs.Common.{◌≤◌, refl, ap, length, arith}
use Rattle.tcheck.proofs.Crowds.{few_of}
use Rattle.tnet.proofs.PlannedWires.{length-all_wires, length-script_ends, planned_script}
use Rattle.tcheck.proofs.ends.wire_at.Goals as goal

pub overflow_add-node : goal.overflow_add-node
overflow_add-node c =
    rw (c.as_slice.ensures, c.as_slice-wires.ensures)
    (omega (arith, c.requires.within, length-all_wires c.args.plan.now, (few_of c.args.plan.now c.requires.few).0))

pub overflow_cast-node : goal.overflow_cast-node
overflow_cast-node c =
    rw (c.as_slice.ensures, c.as_slice-wires.ensures)
    (omega (arith, c.requires.within, length-all_wires c.args.plan.now, (few_of c.args.plan.now c.requires.few).0))

pub script_end-requires : goal.script_end-requires
script_end-requires c =
    let past : length c.args.plan.now.wires ≤ c.args.place =
    omega (arith, c.if-place-wires.false, ap length c.as_slice-wires.ensures) in
    rw c.as_slice-wires.ensures
    (omega (arith, past, c.requires.within, length-all_wires c.args.plan.now, length-script_ends c.args.plan.now))

pub returns : goal.returns
returns c =
    let past : length c.args.plan.now.wires ≤ c.args.place =
    omega (arith, c.if-place-wires.false, ap length c.as_slice-wires.ensures) in
    rw (c.as_slice.ensures, c.as_slice-wires.ensures)
    (planned_script c.args.plan.now c.args.place _ c.script_end.result past refl
    (rw c.as_slice-wires.ensures at c.script_end.ensures))
