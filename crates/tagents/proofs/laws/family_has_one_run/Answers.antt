use Rattle.tagents.proofs.FamilyChecked.{family_has_one_run}
use Rattle.tagents.proofs.laws.family_has_one_run.Goals as goal

pub returns : goal.returns
returns c = family_has_one_run
