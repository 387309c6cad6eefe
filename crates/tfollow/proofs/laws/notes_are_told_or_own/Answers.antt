use Rattle.tfollow.proofs.Telling.{notes_are_told_or_own}
use Rattle.tfollow.proofs.laws.notes_are_told_or_own.Goals as goal

pub returns : goal.returns
returns c = notes_are_told_or_own
