use Rattle.tclocks.proofs.Renumbering.{renumbered}
use Rattle.tclocks.proofs.laws.numbers_may_be_given.Goals as goal

pub returns : goal.returns
returns g c m accesses numbers more entries writers check extends seen = record {
  table = seen.table;
  follows = renumbered m accesses numbers more entries seen.table writers check extends seen.follows;
}
