use Rattle.std.proofs.Common.{◌≡◌, ◌∙◌, ap, drop, length, refl, subst, sym, List, ◌∷◌, [], map}
use Rattle.std.proofs.lemmas.Option.{same_Some, slice_get_read, slice_get_within}
use Rattle.std.proofs.lemmas.Result.{MatchResult-weaker, on_ok_weaker}
use Rattle.tclocks.specs.Followed.{IsStep}
use Rattle.tcertify.specs.declared.node.Node.{Node}
use Rattle.tcertify.specs.declared.notes.Note.{Note}
use Rattle.tfollow.specs.Telling.{told_of}
use Rattle.tverdict.proofs.Over.{halted_step, told_at}
use Rattle.tverdict.proofs.machine.Machine.tell.Goals as goal

pub returns-clause-ok : goal.returns-clause-ok
returns-clause-ok c =
    on_ok_weaker c.tell_step.result (λ is plan u.
    let m = c.args.self.now in let ns = m.nodes.items in let n = c.args.node in let number = c.args.number in
    let at = c.index.result.now in let check = c.tell_step.new.check in
    let there = slice_get_read ns (length ns) n at refl (slice_get_within ns n u.node u.there) c.index.ensures in
    let same : at ≡ u.node = same_Some at u.node (sym there ∙ u.there) in
    told_at plan number n m u check
    (subst (λ (notes : List Note). IsStep number (number ∷ []) (map told_of notes) m.check check)
    (c.new_notes.ensures ∙ ap (λ (a : Node). drop a.words.notes.earlier a.words.notes.items.items) same) is)
    (ap (λ (a : Node). a.words.notes.is_lost) (sym same) ∙ c.if-notes.false))
    c.tell_step.ensures.ok

pub returns-clause-err : goal.returns-clause-err
returns-clause-err c =
    MatchResult-weaker c.tell_step.result c.tell_step.ensures.err (λ x h. h) (λ halt halted plan u.
    halted_step plan c.args.number c.args.self.now u.answered u.fits c.tell_step.new.check halt halted)
