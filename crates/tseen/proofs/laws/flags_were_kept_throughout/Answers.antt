use Rattle.tseen.proofs.Grown.{kept_flags_throughout}
use Rattle.tseen.proofs.laws.flags_were_kept_throughout.Goals as goal

pub returns : goal.returns
returns c = kept_flags_throughout
