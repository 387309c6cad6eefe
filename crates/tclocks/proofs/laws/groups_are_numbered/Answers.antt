use Rattle.tclocks.proofs.Turning.{are_numbers}
use Rattle.tclocks.proofs.laws.groups_are_numbered.Goals as goal

pub returns : goal.returns
returns g c m group accesses places modes check h =
    are_numbers m group accesses places modes check h
