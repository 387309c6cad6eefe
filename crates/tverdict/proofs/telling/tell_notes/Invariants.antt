-- The notes before this one are told.
use Rattle.std.proofs.Common.{map}
use Rattle.tverdict.proofs.Told.{AreMade}
use Rattle.tfollow.specs.Telling.{told_of}
use Rattle.tverdict.proofs.telling.tell_notes.Given as goal

abbrev pub invariant-loop-note : goal.invariant-loop-note
invariant-loop-note l = AreMade l.step (map told_of l.notes) l.note-index l.initial.check l.check
