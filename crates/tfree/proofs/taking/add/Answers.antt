use Rattle.std.proofs.Common.{List, [], ◌∷◌, ◌++◌, ap, ◌∙◌, refl}
use Rattle.std.proofs.lemmas.List.{map_push}
use Rattle.tfree.specs.declared.history.Unmerged.{Unmerged}
use Rattle.tfree.specs.declared.taking.Taken.{Taken}
use Rattle.tfree.specs.declared.stamp.StampedNote.{StampedNote}
use Rattle.tfree.specs.Unmerged.{as_unmerged, all_unmerged, event_lists, told_lists}
use Rattle.tfree.proofs.taking.add.Goals as goal

pub returns-clause-added : goal.returns-clause-added
returns-clause-added c =
    let old = c.args.all.now.taken.items in
    record {
      parts = c.into_parts-wires.result;
      apart = c.into_parts-wires.ensures;
      nodes = c.move_all.ensures.items;
      ins = c.move_all-2.ensures.items;
      outs = c.move_all-3.ensures.items;
      events = ap (λ (l : List Taken). event_lists (all_unmerged l)) c.push_reserved.ensures.items
          ∙ ap event_lists (map_push as_unmerged old _) ∙ map_push (λ (u : Unmerged). u.events) (all_unmerged old) _;
      told = ap (λ (l : List Taken). told_lists (all_unmerged l)) c.push_reserved.ensures.items
          ∙ ap told_lists (map_push as_unmerged old _) ∙ map_push (λ (u : Unmerged). u.told.items) (all_unmerged old) _
          ∙ ap (λ (l : List StampedNote). told_lists (all_unmerged old) ++ l ∷ []) c.from.ensures.0;
      left = refl;
    }
