use Rattle.std.proofs.Common.{◌≡◌, drop}
use Rattle.tproc.specs.Entries.{present}
use Rattle.tproc.proofs.process_table.ProcessTable.is_just.Given as goal

-- where what is left is the rest of the table, all are the table
abbrev pub invariant-loop-entry : goal.invariant-loop-entry
invariant-loop-entry l = l.rest ≡ present (drop l.entry-index l.entry-items) → l.entries ≡ present l.entry-items
