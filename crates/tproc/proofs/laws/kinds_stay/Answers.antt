use Rattle.tproc.proofs.KindsStay.{kinds_stay}
use Rattle.tproc.proofs.laws.kinds_stay.Goals as goal

pub returns : goal.returns
returns c = kinds_stay
