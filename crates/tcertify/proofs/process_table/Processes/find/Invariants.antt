use Rattle.std.proofs.Common.{suc}
use Rattle.std.specs.Option.{option_map_or}
use Rattle.tcertify.specs.Processes.{name_of}
use Rattle.tcertify.proofs.Indexing.{IsNext}
use Rattle.tcertify.proofs.process_table.Processes.find.Given as goal

abbrev pub invariant-loop-next : goal.invariant-loop-next
invariant-loop-next l = IsNext l.self.items.items (name_of 0 l.process) l.next

abbrev pub decreases-loop-next : goal.decreases-loop-next
decreases-loop-next l = option_map_or suc l.next 0
