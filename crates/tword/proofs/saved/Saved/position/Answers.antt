use Rattle.std.proofs.Common.{◌∙◌}
use Rattle.tword.proofs.SavedTable.{any-reverse}
use Rattle.tword.proofs.saved.Saved.position.Goals as goal

pub returns-clause-none : goal.returns-clause-none
returns-clause-none c = λ e.
    rw (← c.self.view_is) (any-reverse _ c.self.inside.workspaces.items
    ∙ rw (← c.as_slice.ensures.value) (c.position.ensures.none e))
