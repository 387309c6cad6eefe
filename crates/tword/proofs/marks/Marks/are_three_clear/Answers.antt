use Rattle.std.proofs.Common.{refl}
use Rattle.tword.proofs.ClaimTally.{all_apart}
use Rattle.tword.proofs.marks.Marks.are_three_clear.Goals as goal

pub returns : goal.returns
returns c = λ clear.
    let apart = all_apart _ _ _ _ c.args.lowest 12 c.self.invariant (c.are_three_clear.ensures clear) in
    rw (← c.self.view_is, apart.inputs, apart.outputs, apart.saved) refl
