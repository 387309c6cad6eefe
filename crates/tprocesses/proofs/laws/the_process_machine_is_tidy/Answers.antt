use Rattle.tprocesses.proofs.Tidy.{process_machine_is_tidy}
use Rattle.tprocesses.proofs.laws.the_process_machine_is_tidy.Goals as goal

pub returns : goal.returns
returns c = process_machine_is_tidy
