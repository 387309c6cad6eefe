use Rattle.std.proofs.Common.{◌≡◌, ◌++◌, drop}
use Rattle.tproc.specs.Entries.{present}
use Rattle.tproc.proofs.process_table.ProcessTable.to_vec.Given as goal

-- what was put down, and what is left
abbrev pub invariant-loop-entry : goal.invariant-loop-entry
invariant-loop-entry l = l.all.items ++ present (drop l.entry-index l.entry-items) ≡ present l.entry-items
