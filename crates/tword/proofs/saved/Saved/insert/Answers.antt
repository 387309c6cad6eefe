use Rattle.std.proofs.Common.{◌<◌, ◌∙◌, sym, ap, length, arith}
use Rattle.std.proofs.lemmas.List.{length-reverse}
use Rattle.tword.specs.Limits.{most_processes}
use Rattle.tword.proofs.SavedTable.{once_push}
use Rattle.tword.proofs.saved.Saved.insert.Goals as goal

pub invariant_of-self : goal.invariant_of-self
invariant_of-self c =
    let ws = c.self.inside.workspaces.items in
    let few : length ws < most_processes =
    omega (arith, sym (length-reverse ws) ∙ ap length c.self.view_is, c.requires.room) in
    let apart = rw (← c.self.view_is) at c.requires.apart in (
      rw c.push_reserved.ensures.items
          (once_push ws c.args.workspace c.self.invariant.0 apart few),
      omega (arith, c.push_reserved.ensures.capacity),
    )
