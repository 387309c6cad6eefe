use Rattle.tevents.proofs.CanRest.{over_nets_can_rest}
use Rattle.tevents.proofs.laws.over_nets_can_rest.Goals as goal

pub returns : goal.returns
returns c = over_nets_can_rest
