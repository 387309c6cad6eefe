use Rattle.tprocesses.proofs.Tidy.{process_machine_is_lawful}
use Rattle.tprocesses.proofs.laws.the_process_machine_is_lawful.Goals as goal

pub returns : goal.returns
returns c = process_machine_is_lawful
