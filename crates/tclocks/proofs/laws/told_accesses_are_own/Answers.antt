use Rattle.tclocks.proofs.Owning.{told_accesses_are_own}
use Rattle.tclocks.proofs.laws.told_accesses_are_own.Goals as goal

pub returns : goal.returns
returns c = told_accesses_are_own
