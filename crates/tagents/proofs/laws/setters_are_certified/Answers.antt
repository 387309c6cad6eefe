use Rattle.tagents.proofs.Setters.{setters_are_certified}
use Rattle.tagents.proofs.laws.setters_are_certified.Goals as goal

pub returns : goal.returns
returns c = setters_are_certified
