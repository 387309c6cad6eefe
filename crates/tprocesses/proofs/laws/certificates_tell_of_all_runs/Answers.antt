use Rattle.tprocesses.proofs.Tidy.{certificates_tell_of_all_runs}
use Rattle.tprocesses.proofs.laws.certificates_tell_of_all_runs.Goals as goal

pub returns : goal.returns
returns c = certificates_tell_of_all_runs
