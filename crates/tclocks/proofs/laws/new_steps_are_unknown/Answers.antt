use Rattle.tclocks.proofs.Stepping.{none-new}
use Rattle.tclocks.proofs.laws.new_steps_are_unknown.Goals as goal

pub returns : goal.returns
returns g c m accesses numbers entries writers check seen =
    none-new m accesses numbers entries seen.table writers check seen.follows
