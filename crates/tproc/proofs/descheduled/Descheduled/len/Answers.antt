use Rattle.std.proofs.Common.{◌∙◌}
use Rattle.tproc.proofs.TableLists.{total_of}
use Rattle.tproc.proofs.descheduled.Descheduled.len.Goals as goal

pub returns-clause-is : goal.returns-clause-is
returns-clause-is c = rw (← c.self.view_is) (c.len.ensures.is ∙ total_of c.self.inside.table)
