use Rattle.std.proofs.Common.{◌≡◌, ◌<◌, ◌^◌, drop}
use Rattle.std.specs.Prelude.{fold}
use Rattle.tchart.specs.Drawing.{farther}
use Rattle.tchart.proofs.drawing.farthest.Given as goal

-- how far the marks so far reach, with those that are left
abbrev pub invariant-loop-mark : goal.invariant-loop-mark
invariant-loop-mark l = record {
  is : fold farther l.far (drop l.mark-index l.marks) ≡ fold farther l.initial.far l.marks;
  small : l.far < 2 ^ 50;
}
