use Rattle.std.proofs.Common.{◌∙◌, ap, List, [], ◌∷◌, ◌++◌, map}
use Rattle.tclocks.specs.declared.step.Access.{Access}
use Rattle.tclocks.specs.Kept.{accesses_of}
use Rattle.tclocks.proofs.Keeping.{one-more-list}
use Rattle.tclocks.proofs.places.spare_list.Goals as goal

pub returns-clause-same : goal.returns-clause-same
returns-clause-same c =
    ap (λ (lists : List (List Access)). map (accesses_of lists) c.args.kept.now)
    (c.push_reserved.ensures.items ∙ ap (λ (new : List Access). c.reserve.new.self.items ++ new ∷ []) c.new.ensures
    ∙ ap (λ (lists : List (List Access)). lists ++ [] ∷ []) c.in_ok-reserve.ensures.items)
    ∙ one-more-list c.args.lists.now.items c.args.kept.now
