use Rattle.tclocks.proofs.Owning.{own_accesses_were_told}
use Rattle.tclocks.proofs.laws.own_accesses_were_told.Goals as goal

pub returns : goal.returns
returns c = own_accesses_were_told
