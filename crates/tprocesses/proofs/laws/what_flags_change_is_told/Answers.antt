use Rattle.tprocesses.proofs.Flagged.{flags_are_told}
use Rattle.tprocesses.proofs.laws.what_flags_change_is_told.Goals as goal

pub returns : goal.returns
returns c = flags_are_told
