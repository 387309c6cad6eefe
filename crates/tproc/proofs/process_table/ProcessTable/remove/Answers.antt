use Rattle.std.proofs.Common.{None, arith}
use Rattle.std.proofs.lemmas.List.{length-set}
use Rattle.tproc.specs.Entries.{present, IsEntryAt}
use Rattle.tproc.proofs.Entries.{emptied, emptied_length, entry_read, once_each}
use Rattle.tproc.proofs.process_table.ProcessTable.remove.Goals as goal

pub overflow_sub-self : goal.overflow_sub-self
overflow_sub-self c =
    let es = c.self.inside.entries.items in
    let at = entry_read es c.noted-noted.result c.args.process _ (omega (arith, c.if-noted-len.true, c.len.ensures))
    c.index.ensures c.if-is_of.ensures in
    omega (arith, c.self.invariant.2, emptied_length es c.noted-noted.result c.args.process at)

-- the entry is where it was noted
there : (c : goal.After-self-then-is_of-1)
    → IsEntryAt c.self.inside.entries.items c.noted-noted.result c.args.process
there c =
    entry_read c.self.inside.entries.items c.noted-noted.result c.args.process _
    (omega (arith, c.if-noted-len.true, c.len.ensures)) c.index.ensures c.if-is_of.ensures

pub invariant_of-self : goal.invariant_of-self
invariant_of-self c =
    let es = c.self.inside.entries.items in
    let less = emptied_length es c.noted-noted.result c.args.process (there c) in
    let long = c.self.invariant.1 in
    let count = c.self.invariant.2 in (
      c.self.invariant.0,
      rw (length-set es c.noted-noted.result None) long,
      omega (arith, count, less),
      omega (arith, c.self.invariant.3),
    )

pub returns-then-is_of : goal.returns-then-is_of
returns-then-is_of c =
    let es = c.self.inside.entries.items in
    let apart = rw (← c.self.view_is) at c.requires in
    rw (← c.self.view_is)
    (emptied es c.noted-noted.result c.args.process (once_each (present es) apart) (there c))
