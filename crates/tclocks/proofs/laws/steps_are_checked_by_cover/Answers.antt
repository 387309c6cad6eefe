use Rattle.tclocks.proofs.Stepping.{follows_on}
use Rattle.tclocks.proofs.laws.steps_are_checked_by_cover.Goals as goal

pub returns : goal.returns
returns g c m accesses numbers entries writers before after agent slots done label seen told is = record {
  table = _;
  follows = follows_on m accesses numbers entries seen.table writers before after agent slots done label
      seen.follows told is;
}
