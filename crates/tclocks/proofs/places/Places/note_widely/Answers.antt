use Rattle.std.proofs.Common.{◌≡◌, ◌<◌, ◌∙◌, subst, sym, length, List, arith, slice_set}
use Rattle.tclocks.specs.declared.step.Access.{Access}
use Rattle.tclocks.specs.declared.kept.Kept.{Kept}
use Rattle.tclocks.specs.Places.{NotesAccess}
use Rattle.tclocks.specs.Kept.{accesses_of, IsKeptAt, IsSpare}
use Rattle.tclocks.specs.Tables.{kept_at}
use Rattle.tclocks.proofs.Keeping.{all_of, within-all, notes-copy, changed-briefly, changed-into-list}
use Rattle.tclocks.proofs.Keeping.{kept-now, same-at, on-ok}
use Rattle.tclocks.proofs.places.Places.note_widely.Goals as goal

pub returns-in-Some-clause-ok : goal.returns-in-Some-clause-ok
returns-in-Some-clause-ok c =
    let within : c.args.place < length c.self.inside.kept =
    within-all c.self.inside.lists.items _ _ _ c.self.view_is c.requires in
    on-ok c.set.result
    (λ set. subst (λ (kept : List Kept). IsKeptAt c.args.clock.now c.args.access c.args.place c.args.self.now
    (all_of c.self.inside.lists.items kept)) (sym set)
    (kept-now _ _ _ _ _ _ c.self.view_is
    (changed-briefly _ _ _ _ _ _ within
    (subst (λ (list : List Access). NotesAccess c.args.clock.now c.args.access
    (accesses_of c.self.inside.lists.items (kept_at c.self.inside.kept c.args.place)) list)
    (sym (c.in-Some.ensures.same c.self.inside.lists.items ∙ c.as_slice-2.ensures))
    (notes-copy _ _ _ _ c.self.inside.kept c.args.place _ _ _ c.get.ensures c.as_slice.ensures.value c.in_ok-copy_from.ensures
    c.in_ok-note.ensures.noted))))) c.set.ensures.ok

pub returns-clause-ok : goal.returns-clause-ok
returns-clause-ok c =
    let within : c.args.place < length c.self.inside.kept =
    within-all c.self.inside.lists.items _ _ _ c.self.view_is c.requires in
    let spare : IsSpare c.self.inside.kept c.spare_list.new.owners.items c.in_ok-list.list =
    c.in_ok-list.ensures.spare in
    let same : all_of c.spare_list.new.lists.items c.self.inside.kept
    ≡ all_of c.self.inside.lists.items c.self.inside.kept = c.in_ok-list.ensures.same in
    let there : c.in_ok-list.list < length c.spare_list.new.lists.items =
    omega (arith, spare.within, c.in_ok-list.ensures.owned.same) in
    subst (λ (kept : List Kept). IsKeptAt c.args.clock.now c.args.access c.args.place c.args.self.now
    (all_of (slice_set c.spare_list.new.lists.items c.in_ok-list.list c.swap.new.x) kept)) (sym c.in_ok-set.ensures.ok)
    (kept-now _ _ _ _ _ _ (same ∙ c.self.view_is)
    (changed-into-list _ _ _ _ _ _ _ within there spare.unused
    (subst (λ (list : List Access). NotesAccess c.args.clock.now c.args.access
    (accesses_of c.spare_list.new.lists.items (kept_at c.self.inside.kept c.args.place)) list)
    (sym c.swap.ensures.x_after)
    (subst (λ (list : List Access). NotesAccess c.args.clock.now c.args.access list c.note.new.self)
    (sym (same-at c.self.inside.lists.items c.spare_list.new.lists.items _ _ within same))
    (notes-copy _ _ _ _ c.self.inside.kept c.args.place _ _ _ c.get.ensures c.as_slice.ensures.value c.in_ok-copy_from.ensures
    c.in_ok-note.ensures.noted)))))
