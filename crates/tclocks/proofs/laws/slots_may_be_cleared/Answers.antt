use Rattle.tclocks.proofs.Standing.{cleared}
use Rattle.tclocks.proofs.laws.slots_may_be_cleared.Goals as goal

pub returns : goal.returns
returns g c m accesses numbers entries writers check slot seen = record {
  table = seen.table;
  follows = cleared m accesses numbers entries seen.table writers check seen.follows slot;
}
