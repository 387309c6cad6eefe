use Rattle.std.proofs.Common.{ℕ, List, ◌+◌, ◌<◌, sym, ap, ◌∙◌, refl, arith}
use Rattle.std.proofs.lemmas.Bool.{le-ltb}
use Rattle.std.specs.List.{list_any}
use Rattle.tword.specs.Bounds.{meets}
use Rattle.tword.proofs.BoundsSteps.{meets_any, no_byte_overlaps}
use Rattle.tword.proofs.link_buffers.LinkBuffers.overlap_closely.Goals as goal

pub returns-then-start-end : goal.returns-then-start-end
returns-then-start-end c =
    let start = c.args.span.now.start in
    let size = c.args.span.now.size in
    let some : 0 < size = omega arith in
    c.any_meets.ensures
    ∙ rw (c.bounds-start.ensures.first, c.bounds-start.ensures.behind)
    (ap (λ (bs : List (ℕ × ℕ)). list_any (meets start (start + size)) bs) c.self.invariant.1)
    ∙ meets_any start size c.self.inside.claimed some
    ∙ rw (← c.self.view_is) refl

pub returns-else-start-end : goal.returns-else-start-end
returns-else-start-end c =
    le-ltb _ _ (omega arith) ∙ rw (← c.self.view_is) (sym (no_byte_overlaps _ _ c.self.inside.claimed (omega arith)))
