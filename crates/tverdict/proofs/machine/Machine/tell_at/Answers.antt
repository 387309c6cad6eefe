use Rattle.std.proofs.Common.{◌≡◌, ◌∙◌, ◌++◌, ap, arith, inl, length, subst, sym, List, ◌∷◌, [], map}
use Rattle.std.specs.Prelude.{slice_get}
use Rattle.std.proofs.lemmas.Result.{MatchResult-weaker, on_ok_weaker}
use Rattle.tclocks.specs.Followed.{IsStep}
use Rattle.tcertify.specs.declared.node.Node.{Node}
use Rattle.tcertify.specs.declared.notes.Note.{Note}
use Rattle.tcertify.specs.declared.notes.Notes.{Notes}
use Rattle.tcertify.specs.Walked.{accesses}
use Rattle.tprocesses.specs.Machine.{step_of}
use Rattle.tfollow.specs.Telling.{told_of}
use Rattle.tverdict.specs.Machines.{places}
use Rattle.tverdict.specs.Passing.{notes_at, notes_or}
use Rattle.tverdict.proofs.Over.{halted_step, told_step}
use Rattle.tverdict.proofs.Told.{told_of_both}
use Rattle.tverdict.proofs.machine.Machine.tell_at.Goals as goal

pub returns-clause-ok : goal.returns-clause-ok
returns-clause-ok c =
    on_ok_weaker c.tell_both.result (λ is plan u.
    let m = c.args.self.now in let n = c.args.one in let o = c.args.other in let others = c.args.others.now in
    let check = c.tell_both.new.check in
    let first : c.notes_of-first.result.now ≡ notes_at m others n =
    c.notes_of-first.ensures ∙ ap (λ (ns : List Node). notes_or others (slice_get ns n)) c.as_slice.ensures.value in
    let second : c.notes_of-second.result.now ≡ notes_at m others o =
    c.notes_of-second.ensures
    ∙ ap (λ (ns : List Node). notes_or others (slice_get ns o)) c.as_slice-2.ensures.value in
    let one = (notes_at m others n).items.items in let other = (notes_at m others o).items.items in
    told_step plan c.args.number m u.answered u.fits check (n ∷ o ∷ []) (map told_of one ++ map told_of other)
    u.housed
    (subst (λ (x : List Note). IsStep c.args.number (c.args.number ∷ []) (map told_of x ++ map told_of other) m.check
    check) (c.as_slice-3.ensures.value ∙ ap (λ (x : Notes). x.items.items) first)
    (subst (λ (x : List Note). IsStep c.args.number (c.args.number ∷ [])
    (map told_of c.as_slice-3.result.now ++ map told_of x) m.check check)
    (c.as_slice-4.ensures.value ∙ ap (λ (x : Notes). x.items.items) second) is))
    (λ k access within. inl (told_of_both (places m) one other
    (accesses (step_of plan u.answered.agent) u.answered.state) (u.noted (record {
      one = ap (λ (x : Notes). x.is_lost) (sym first) ∙ c.if-first.false;
      other = ap (λ (x : Notes). x.is_lost) (sym second) ∙ c.if-second.false;
    })) k access within))
    (λ k e. let long : length (n ∷ o ∷ []) ≡ length (k ∷ []) = ap length e in absurd (omega (arith, long)))
    (λ k l node among there has. u.led k l node among there has))
    c.tell_both.ensures.ok

pub returns-clause-err : goal.returns-clause-err
returns-clause-err c =
    MatchResult-weaker c.tell_both.result c.tell_both.ensures.err (λ x h. h) (λ halt halted plan u.
    halted_step plan c.args.number c.args.self.now u.answered u.fits c.tell_both.new.check halt halted)
