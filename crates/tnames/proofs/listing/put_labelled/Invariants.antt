use Rattle.std.proofs.Common.{length}
use Rattle.tfiles.proofs.Told.{GoesOn}
use Rattle.tnames.specs.Listings.{labelled_text}
use Rattle.tnames.proofs.listing.put_labelled.Given as goal

-- what was told and what is left
abbrev pub invariant-loop-end : goal.invariant-loop-end
invariant-loop-end g l =
    GoesOn g.W.Write.contents g.W.CountedWrite.failures l.initial.out l.out (labelled_text l.names l.rest)
    (labelled_text l.names l.text)

abbrev pub decreases-loop-end : goal.decreases-loop-end
decreases-loop-end g l = length l.rest
