use Rattle.thistory.proofs.lines.+put_at_right.Given as goal

abbrev pub decreases-put_at_right : goal.decreases-put_at_right
decreases-put_at_right g l = l.number
