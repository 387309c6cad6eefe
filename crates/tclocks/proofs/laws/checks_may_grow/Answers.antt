use Rattle.tclocks.proofs.Standing.{agent_added, slot_added, places_added}
use Rattle.tclocks.proofs.laws.checks_may_grow.Goals as goal

pub returns : goal.returns
returns g c m accesses numbers entries writers check seen = record {
  agent = λ numbered. record {
    table = seen.table;
    follows = agent_added m accesses numbers entries seen.table writers check seen.follows numbered;
  };
  slot = record {
    table = seen.table;
    follows = slot_added m accesses numbers entries seen.table writers check seen.follows;
  };
  places = λ count. record {
    table = seen.table;
    follows = places_added m accesses numbers entries seen.table writers check seen.follows count;
  };
}
