use Rattle.tword.proofs.SavedTable.{found_any}
use Rattle.tword.proofs.marks.Marks.has_saved.Goals as goal

pub returns : goal.returns
returns c = found_any _ _ _ _ c.is_some.ensures c.place_of.ensures.found c.place_of.ensures.none
