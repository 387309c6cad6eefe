use Rattle.std.proofs.Common.{rules, ap, ◌∙◌, List, [], ◌∷◌, ◌++◌, filter, subst, sym}
use Rattle.std.proofs.lemmas.Fn.{filter_same}
use Rattle.tclocks.specs.declared.step.Access.{Access}
use Rattle.tclocks.specs.Places.{NotesAccess}
use Rattle.tclocks.proofs.Noting.{stays_beside, stays-notes}
use Rattle.tclocks.proofs.access_list.note_among.Goals as goal

pub returns-clause-noted : goal.returns-clause-noted
returns-clause-noted c =
    subst (λ (list : List Access). NotesAccess c.args.clock.now c.args.access c.args.accesses.now.items list)
    (sym (c.push_reserved.ensures.items
    ∙ ap (λ (kept : List Access). kept ++ c.args.access ∷ [])
    (filter_same _ (stays_beside c.args.clock.now c.args.access) _ (λ x b f k. search rules) _ _
    c.retain.ensures.filtered
    ∙ ap (λ (list : List Access). filter (stays_beside c.args.clock.now c.args.access) list)
    c.in_ok-reserve.ensures.items)))
    (stays-notes c.args.clock.now c.args.access c.args.accesses.now.items)
