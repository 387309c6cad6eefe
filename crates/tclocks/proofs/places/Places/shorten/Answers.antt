use Rattle.std.proofs.Common.{◌≡◌, ◌<◌, ◌∙◌, sym, ap, length, []}
use Rattle.std.proofs.lemmas.List.{get_or_default}
use Rattle.tclocks.specs.declared.kept.Kept.{Kept}
use Rattle.tclocks.specs.declared.kept.Kept.TheVariants.{InList}
use Rattle.tclocks.specs.Kept.{accesses_of}
use Rattle.tclocks.specs.Tables.{kept_at}
use Rattle.tclocks.proofs.Keeping.{kept-or-not, within-all, owned-list}
use Rattle.tclocks.proofs.places.Places.shorten.Goals as goal

pub returns-then-is_ok : goal.returns-then-is_ok
returns-then-is_ok c =
    let within : c.args.place < length c.self.inside.kept =
    within-all c.self.inside.lists.items _ _ _ c.self.view_is c.requires in
    let is : kept_at c.self.inside.kept c.args.place ≡ InList c.in-InList.list =
    sym c.get.ensures ∙ c.in-InList.is in
    let there : c.in-InList.list < length c.self.inside.lists.items =
    (owned-list _ _ _ c.self.invariant _ _ within is).0 in
    kept-or-not c.set.result c.self.inside.lists.items c.self.inside.kept c.set.new.self c.args.place c.in-Some.kept
    (c.in-Some.ensures.same c.self.inside.lists.items ∙ c.as_slice.ensures ∙ c.index.ensures
    ∙ get_or_default c.self.inside.lists.items c.in-InList.list c.index.result.now [] there
    ∙ ap (λ (kept : Kept). accesses_of c.self.inside.lists.items kept) (sym is))
    c.set.ensures.ok c.set.ensures.err
    ∙ c.self.view_is
