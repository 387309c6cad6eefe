use Rattle.tclocks.proofs.Standing.{handed, added}
use Rattle.tclocks.proofs.laws.clocks_are_handed_on.Goals as goal

pub returns : goal.returns
returns g c m accesses numbers earlier writers check label slot seen = record {
  handed = record {
    table = seen.table;
    follows = handed m accesses numbers earlier seen.table writers check label seen.follows slot;
  };
  added = record {
    table = seen.table;
    follows = added m accesses numbers earlier seen.table writers check label seen.follows slot;
  };
}
