use Rattle.std.proofs.Common.{List, Option, ◌∙◌, ap, arith}
use Rattle.std.proofs.lemmas.List.{take_all}
use Rattle.tword.specs.declared.span.Span.{Span}
use Rattle.tword.specs.Slots.{claims_in}
use Rattle.tword.proofs.link_buffers.claims_in.Goals as goal

pub returns-clause-is : goal.returns-clause-is
returns-clause-is c =
    c.loop-claim.invariant.sum
    ∙ ap (λ (xs : List (Option Span)). claims_in c.args.word xs)
    (take_all c.loop-claim.claim-index c.args.claimed.now (omega arith))
