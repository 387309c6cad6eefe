use Rattle.std.proofs.Common.{◌∙◌, ap, sym, Some, List}
use Rattle.std.proofs.lemmas.Result.{err_from_is_err_and}
use Rattle.tplan.specs.declared.plan.Segment.{Segment}
use Rattle.tfiles.specs.Images.{segment_in}
use Rattle.tfiles.proofs.PartLoops.{parts-more}
use Rattle.tfiles.proofs.PartAnswers.{IsPartFault-parts}
use Rattle.tfiles.proofs.image.segments.Goals as goal

pub returns-in_err-segment : goal.returns-in_err-segment
returns-in_err-segment c =
    let p = err_from_is_err_and c.from_residual.result c.from_residual.ensures.1 in
    rw (p.1, p.2) (IsPartFault-parts segment_in c.loop-place._place c.args.count c.args.bytes.now
    c.loop-place.rest.now c.loop-place.segments.items c.in_err-segment.field-0.0 c.loop-place.invariant
    c.in_err-segment.ensures c.loop-place-test.true)

pub loop-place-preserved : goal.loop-place-preserved
loop-place-preserved c =
    parts-more segment_in c.loop-place._place c.args.bytes.now c.loop-place.rest.now c.in_ok-segment.behind.now
    c.loop-place.segments.items c.in_ok-segment.segment c.loop-place.invariant c.in_ok-segment.ensures
    ∙ ap (λ (xs : List Segment). Some (xs, c.in_ok-segment.behind.now)) (sym c.in_ok-push.ensures.items)
