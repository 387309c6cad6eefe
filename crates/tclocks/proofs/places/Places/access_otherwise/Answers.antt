use Rattle.std.proofs.Common.{◌<◌, subst, sym, length, List}
use Rattle.tclocks.specs.declared.kept.Kept.{Kept}
use Rattle.tclocks.specs.Kept.{IsNotedBriefly, IsNotedAt}
use Rattle.tclocks.proofs.Keeping.{all_of, within-all, noted-now}
use Rattle.tclocks.proofs.places.Places.access_otherwise.Goals as goal

pub returns-in-Some-clause-ok : goal.returns-in-Some-clause-ok
returns-in-Some-clause-ok c =
    let within : c.args.place < length c.self.inside.kept =
    within-all c.self.inside.lists.items _ _ _ c.self.view_is c.requires.place in
    subst (λ (kept : List Kept). IsNotedAt c.args.clock.now c.args.access c.args.place c.args.self.now
    (all_of c.self.inside.lists.items kept)) (sym c.in_ok-set.ensures.ok)
    (noted-now _ _ _ _ _ _ _ within c.self.view_is
    (subst (λ (kept : Kept). IsNotedBriefly c.args.clock.now c.args.access kept c.in-Some.kept) c.get.ensures
    c.in-Some.ensures))
