use Rattle.std.proofs.Common.{inl, inr, arith}
use Rattle.std.proofs.lemmas.Bool.{leb-true}
use Rattle.tword.proofs.BoundsSteps.{outside}
use Rattle.tword.proofs.link_buffers.LinkBuffers.is_clear_of.Goals as goal

pub returns-then-self-start : goal.returns-then-self-start
returns-then-self-start c e =
    let above = leb-true _ _ e in
    rw (← c.self.view_is) (outside _ _ _ _ c.self.inside.claimed c.self.invariant.0 (inl (omega (arith, above))))

pub returns-else-self-start : goal.returns-else-self-start
returns-else-self-start c e =
    let below = leb-true _ _ e in
    rw (← c.self.view_is) (outside _ _ _ _ c.self.inside.claimed c.self.invariant.0 (inr (omega (arith, below))))
