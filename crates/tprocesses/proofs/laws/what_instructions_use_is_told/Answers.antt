use Rattle.tprocesses.proofs.Depended.{uses_are_told}
use Rattle.tprocesses.proofs.laws.what_instructions_use_is_told.Goals as goal

pub returns : goal.returns
returns c = uses_are_told
