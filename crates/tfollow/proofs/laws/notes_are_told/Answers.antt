use Rattle.tfollow.proofs.Telling.{notes_are_told}
use Rattle.tfollow.proofs.laws.notes_are_told.Goals as goal

pub returns : goal.returns
returns c = notes_are_told
