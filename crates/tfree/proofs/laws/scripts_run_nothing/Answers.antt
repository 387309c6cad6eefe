use Rattle.tfree.proofs.Scripted.{scripts_run_nothing}
use Rattle.tfree.proofs.laws.scripts_run_nothing.Goals as goal

pub returns : goal.returns
returns c = scripts_run_nothing
