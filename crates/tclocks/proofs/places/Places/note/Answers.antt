use Rattle.std.proofs.Common.{◌≡◌, ◌<◌, ◌∙◌, subst, sym, length, List, []}
use Rattle.std.proofs.lemmas.List.{get_or_default}
use Rattle.tclocks.specs.declared.step.Access.{Access}
use Rattle.tclocks.specs.declared.kept.Kept.TheVariants.{InList}
use Rattle.tclocks.specs.Places.{NotesAccess}
use Rattle.tclocks.specs.Kept.{IsKeptAt}
use Rattle.tclocks.specs.Tables.{kept_at}
use Rattle.tclocks.proofs.Keeping.{within-all, owned-list, changed-list, kept-now}
use Rattle.tclocks.proofs.places.Places.note.Goals as goal

pub returns-in-InList-clause-ok : goal.returns-in-InList-clause-ok
returns-in-InList-clause-ok c =
    let within : c.args.place < length c.self.inside.kept =
    within-all c.self.inside.lists.items _ _ _ c.self.view_is c.requires in
    let is : kept_at c.self.inside.kept c.args.place ≡ InList c.in-InList.list =
    sym c.get.ensures ∙ c.in-InList.is in
    let there : c.in-InList.list < length c.self.inside.lists.items =
    (owned-list _ _ _ c.self.invariant _ _ within is).0 in
    subst (λ (after : List (List Access)).
    IsKeptAt c.args.clock.now c.args.access c.args.place c.args.self.now after) (sym c.shorten.ensures)
    (kept-now _ _ _ _ _ _ c.self.view_is
    (changed-list _ _ _ _ _ _ _ _ c.self.invariant within is
    (subst (λ (list : List Access). NotesAccess c.args.clock.now c.args.access list c.note.new.self)
    (c.index_mut.ensures.value
    ∙ get_or_default c.self.inside.lists.items c.in-InList.list c.index_mut.result.now [] there)
    c.in_ok-note.ensures.noted)))
