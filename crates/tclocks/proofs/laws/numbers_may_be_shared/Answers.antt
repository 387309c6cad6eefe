use Rattle.tclocks.proofs.Turning.{may_have_numbers}
use Rattle.tclocks.proofs.laws.numbers_may_be_shared.Goals as goal

pub returns : goal.returns
returns g c m group more accesses places modes entries writers check same seen =
    may_have_numbers m group accesses places modes more check same entries writers seen
