use Rattle.tclocks.proofs.Turning.{checked_in_turn}
use Rattle.tclocks.proofs.laws.steps_in_turn_are_checked.Goals as goal

pub returns : goal.returns
returns g c m group accesses places modes entries writers before after agent slots done label seen told is itself has =
    checked_in_turn m group accesses places modes entries writers before after agent slots done label seen told is
    itself has
