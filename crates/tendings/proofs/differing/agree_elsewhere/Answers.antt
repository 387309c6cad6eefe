use Rattle.std.proofs.Common.{◌∙◌}
use Rattle.tendings.proofs.Lines.{agree_end, agree_over, is_nonempty, is_nothing}
use Rattle.tendings.proofs.differing.agree_elsewhere.Goals as goal

pub returns-then-is_empty : goal.returns-then-is_empty
returns-then-is_empty c =
    agree_over c.loop-left.left.now c.loop-left.other_left.now _
    (is_nonempty c.is_empty.result c.loop-left.left.now c.is_empty.ensures c.loop-left-test.true)
    (is_nothing c.is_empty-in-loop-left.result c.loop-left.other_left.now c.is_empty-in-loop-left.ensures
    c.if-is_empty.true) c.loop-left.invariant

pub returns : goal.returns
returns c =
    c.is_empty-2.ensures
    ∙ agree_end c.loop-left.left.now c.loop-left.other_left.now _
    (is_nothing c.is_empty.result c.loop-left.left.now c.is_empty.ensures c.loop-left-test.false) c.loop-left.invariant
