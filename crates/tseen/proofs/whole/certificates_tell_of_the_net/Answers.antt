use Rattle.tseen.proofs.AllRuns.{certificates_tell_of_the_net}
use Rattle.tseen.proofs.whole.certificates_tell_of_the_net.Goals as goal

pub returns : goal.returns
returns c = certificates_tell_of_the_net
