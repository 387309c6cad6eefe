use Rattle.tclocks.proofs.Keeping.{owned-noted, noted-only}
use Rattle.tclocks.proofs.places.Places.access.Goals as goal

pub invariant_of-self : goal.invariant_of-self
invariant_of-self c =
    owned-noted c.note_own.result _ _ _ _ _ _ c.self.invariant c.note_own.ensures.noted c.note_own.ensures.kept

pub returns-then-note_own-clause-ok : goal.returns-then-note_own-clause-ok
returns-then-note_own-clause-ok c =
    noted-only _ _ _ _ _ _ _ c.requires.place c.self.view_is (c.note_own.ensures.noted c.if-note_own.true)
