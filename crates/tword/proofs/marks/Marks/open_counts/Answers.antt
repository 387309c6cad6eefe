use Rattle.std.proofs.Common.{arith}
use Rattle.tword.proofs.Open.{open_counts}
use Rattle.tword.proofs.marks.Marks.open_counts.Goals as goal

pub returns : goal.returns
returns c =
    open_counts c.self.inside.inputs c.self.inside.outputs c.self.inside.saved c.self.inside.table
    c.from_slot.result.now c.args.size c.args.self.now c.self.view_is c.self.invariant
    (omega (arith, c.from_slot.ensures.few)) c.from_slot.ensures.are
