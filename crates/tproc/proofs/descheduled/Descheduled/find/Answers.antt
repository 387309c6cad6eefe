use Rattle.std.proofs.Common.{◌∙◌}
use Rattle.tproc.proofs.TableLists.{found_in, table_apart, table_once, table_saved}
use Rattle.tproc.proofs.descheduled.Descheduled.find.Goals as goal

pub find-requires-clause-apart : goal.find-requires-clause-apart
find-requires-clause-apart c = table_apart c.self.inside.table (rw (← c.self.view_is) at c.requires.apart)

pub find-requires-clause-saved : goal.find-requires-clause-saved
find-requires-clause-saved c =
    table_saved c.args.claimed.now.marks c.self.inside.table (rw (← c.self.view_is) at c.requires.saved)

pub returns : goal.returns
returns c =
    let apart = rw (← c.self.view_is) at c.requires.apart in
    rw (← c.self.view_is) (c.find.ensures
    ∙ found_in c.self.inside.table c.args.process (table_once c.self.inside.table apart))
