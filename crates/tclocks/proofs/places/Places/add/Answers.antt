use Rattle.std.proofs.Common.{◌∙◌, ap, List, [], ◌++◌, replicate, map}
use Rattle.tclocks.specs.declared.step.Access.{Access}
use Rattle.tclocks.specs.declared.kept.Kept.{Kept}
use Rattle.tclocks.specs.Kept.{accesses_of}
use Rattle.tclocks.proofs.Keeping.{more-places, on-ok}
use Rattle.tclocks.proofs.places.Places.add.Goals as goal

pub returns-clause-ok : goal.returns-clause-ok
returns-clause-ok c =
    on-ok c.add.result
    (λ e. ap (λ (kept : List Kept). map (accesses_of c.self.inside.lists.items) kept) e
    ∙ more-places c.self.inside.lists.items c.self.inside.kept c.args.count
    ∙ ap (λ (all : List (List Access)). all ++ replicate c.args.count []) c.self.view_is) c.add.ensures.ok
