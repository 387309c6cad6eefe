use Rattle.tfree.specs.Opened.{ComeFromOneOpen}
use Rattle.machine_tests.proofs.free.turn_side_by_side.Given as goal

abbrev pub invariant-loop-rotation : goal.invariant-loop-rotation
invariant-loop-rotation l = ComeFromOneOpen l.some.items × ComeFromOneOpen l.others.items
