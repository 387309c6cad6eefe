use Rattle.std.proofs.Common.{◌≡◌, length}
use Rattle.tendings.specs.Differences.{agree_elsewhere, text_lines}
use Rattle.tendings.proofs.differing.agree_elsewhere.Given as goal

-- the texts agree if what is left of them does
abbrev pub invariant-loop-left : goal.invariant-loop-left
invariant-loop-left l =
    agree_elsewhere (text_lines l.left) (text_lines l.other_left)
    ≡ agree_elsewhere (text_lines l.one) (text_lines l.other)

abbrev pub decreases-loop-left : goal.decreases-loop-left
decreases-loop-left l = length l.left
