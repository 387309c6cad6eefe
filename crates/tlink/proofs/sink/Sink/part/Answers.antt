use Rattle.std.proofs.Common.{take}
use Rattle.tlink.proofs.Sinks as sink
use Rattle.tlink.proofs.sink.Sink.part.Goals as goal

pub returns-then-got-bytes : goal.returns-then-got-bytes
returns-then-got-bytes c =
    rw (← c.self.view_is, c.deref.ensures.value) (sink.part_is _ (take _ c.self.inside.lengths.items) _
    c.self.inside.counts c.self.invariant.all)

pub returns-else-got-bytes : goal.returns-else-got-bytes
returns-else-got-bytes c =
    rw (← c.self.view_is, c.deref.ensures.value) (sink.part_all _ (take _ c.self.inside.lengths.items) _
    c.self.inside.counts c.self.invariant.all (rw c.deref.ensures.value at c.if-got-bytes.false))
