use Rattle.std.proofs.Common.{◌∙◌, ◌++◌, [], ap, sym, List, ℕ}
use Rattle.tfiles.proofs.Told.{goes_on-start, goes_on-next, goes_on-end}
use Rattle.tendings.specs.Differences.{change_text, differing, text_lines}
use Rattle.tendings.proofs.Lines.{differing_next, differing_over, is_nonempty, is_nothing}
use Rattle.tendings.proofs.differing.put_differing.Goals as goal

pub loop-left-init : goal.loop-left-init
loop-left-init g c =
    goes_on-start c.args.out.now (differing [] (text_lines c.args.one.now) (text_lines c.args.other.now))

pub loop-left-preserved : goal.loop-left-preserved
loop-left-preserved g c =
    goes_on-next _ _ c.loop-left.invariant
    (differing_next c.loop-left.heading.now c.loop-left.left.now c.loop-left.other_left.now c.cut_line.result.0.now
    c.cut_line-in-loop-left.result.0.now (text_lines c.cut_line.result.1.now)
    (text_lines c.cut_line-in-loop-left.result.1.now) c.cut_line.ensures.lines c.cut_line-in-loop-left.ensures.lines
    ∙ ap (λ (h : List ℕ).
    change_text c.loop-left.heading.now c.cut_line.result.0.now c.cut_line-in-loop-left.result.0.now
    ++ differing h (text_lines c.cut_line.result.1.now) (text_lines c.cut_line-in-loop-left.result.1.now))
    (sym c.heading_behind-heading.ensures)) c.put_change.ensures

pub returns-then-is_empty : goal.returns-then-is_empty
returns-then-is_empty g c =
    goes_on-end c.loop-left.invariant
    (differing_over c.loop-left.heading.now c.loop-left.left.now c.loop-left.other_left.now
    (is_nonempty c.is_empty.result c.loop-left.left.now c.is_empty.ensures c.loop-left-test.true)
    (is_nothing c.is_empty-in-loop-left.result c.loop-left.other_left.now c.is_empty-in-loop-left.ensures
    c.if-is_empty.true))
