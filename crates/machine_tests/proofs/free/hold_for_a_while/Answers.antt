use Rattle.std.proofs.Common.{subst, sym}
use Rattle.tfree.specs.Opened.{ComeFromOneOpen}
use Rattle.machine_tests.proofs.free.hold_for_a_while.Goals as goal

-- with the one that is held back they are those that turned
pub miss-requires-clause-whole : goal.miss-requires-clause-whole
miss-requires-clause-whole c = subst ComeFromOneOpen (sym c.hold_back-held.ensures.whole) c.rotate.ensures
