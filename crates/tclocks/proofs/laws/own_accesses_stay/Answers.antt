use Rattle.tclocks.proofs.Owning.{own_accesses_stay}
use Rattle.tclocks.proofs.laws.own_accesses_stay.Goals as goal

pub returns : goal.returns
returns c = own_accesses_stay
