use Rattle.std.proofs.Common.{◌∙◌}
use Rattle.tverdict.proofs.Starting.{number_more}
use Rattle.tverdict.proofs.opening.all_numbers.Goals as goal

pub loop-number-preserved : goal.loop-number-preserved
loop-number-preserved c =
    c.in_ok-push.ensures.items ∙ number_more c.loop-number.numbers.items c.loop-number.number c.loop-number.invariant
