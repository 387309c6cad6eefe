use Rattle.tclocks.proofs.Turning.{turns_by_clocks}
use Rattle.tclocks.proofs.laws.clocks_tell_number_turns.Goals as goal

pub returns : goal.returns
returns g c m group accesses places modes entries writers check seen itself numbered =
    turns_by_clocks m group accesses places modes entries writers check seen itself numbered
