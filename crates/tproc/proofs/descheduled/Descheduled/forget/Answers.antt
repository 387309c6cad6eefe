use Rattle.std.proofs.Common.{◌≡◌, ◌∙◌, ap}
use Rattle.tproc.specs.Entries.{lists_of}
use Rattle.tproc.proofs.Waiters.{without}
use Rattle.tproc.proofs.TableChanges.{forgotten}
use Rattle.tproc.proofs.TableLists.{queues_as, table_apart, waiting_in}
use Rattle.tproc.proofs.descheduled.Descheduled.forget.Goals as goal

pub remove-requires : goal.remove-requires
remove-requires c = table_apart c.self.inside.table (rw (← c.self.view_is) at c.requires.apart)

left : (c : goal.After-remove)
    → lists_of c.remove.new.self
    ≡ record (lists_of c.self.inside.table) { waiting = without c.args.process (waiting_in c.self.inside.table) }
left c =
    let apart = rw (← c.self.view_is) at c.requires.apart in
    let waits = rw (← c.self.view_is) at c.requires.waits in
    ap lists_of c.remove.ensures ∙ forgotten c.self.inside.table c.args.process apart waits

pub invariant_of-self : goal.invariant_of-self
invariant_of-self c = queues_as c.remove.new.self _ _ _ (left c) c.self.invariant.0 c.self.invariant.1

pub returns : goal.returns
returns c = rw (← c.self.view_is) (left c)
