use Rattle.std.proofs.Common.{◌≡◌, take, false}
use Rattle.std.specs.List.{list_any}
use Rattle.tproc.specs.Entries.{is_entry_of}
use Rattle.tproc.proofs.process_table.search.Given as goal

abbrev pub invariant-loop-i : goal.invariant-loop-i
invariant-loop-i l = list_any (is_entry_of l.process) (take l.i l.entries) ≡ false
