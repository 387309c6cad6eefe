use Rattle.std.proofs.Common.{arith}
use Rattle.tnet.proofs.PlannedWires.{length-all_wires}
use Rattle.tcheck.proofs.ends.wire_count.Goals as goal

pub returns : goal.returns
returns c =
    rw (c.as_slice.ensures, c.as_slice-2.ensures, c.as_slice-3.ensures)
    (omega (arith, length-all_wires c.args.plan.now))
