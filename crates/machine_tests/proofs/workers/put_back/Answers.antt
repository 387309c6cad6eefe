use Rattle.std.proofs.Common.{subst, sym}
use Rattle.tfree.specs.Opened.{ComeFromOneOpen}
use Rattle.machine_tests.proofs.workers.put_back.Goals as goal

pub returns : goal.returns
returns c = subst ComeFromOneOpen (sym c.in_ok-insert.ensures.items) c.requires.whole
