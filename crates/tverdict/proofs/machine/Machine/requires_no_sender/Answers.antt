use Rattle.std.proofs.Common.{Bool, Ok, Option, refl, subst, sym}
use Rattle.tplan.specs.declared.plan.End.{End}
use Rattle.tprocesses.specs.Machine.{offers, requires_no_sender}
use Rattle.tprocesses.specs.Parts.{SeveralReady, done}
use Rattle.std.proofs.Common.{Err}
use Rattle.tverdict.specs.Listening.{far_node}
use Rattle.tverdict.specs.Passing.{RunsHalf}
use Rattle.tverdict.specs.Wired.{RunsAtTwo}
use Rattle.tverdict.proofs.AtTwo.{same_still}
use Rattle.tverdict.proofs.Crossed.{not_silent, silent}
use Rattle.tverdict.proofs.machine.Machine.requires_no_sender.Goals as goal

pub returns-in_default : goal.returns-in_default
returns-in_default c = λ node other.
    let plan = c.args.plan.now in let m = c.args.self.now in let notes = c.args.notes.now in
    subst (λ (o : Option End). RunsAtTwo plan (requires_no_sender plan o) (far_node node o) other m notes (Ok tt) m
    notes) (sym c.in_default.is) (same_still plan node other done m notes (Ok tt) refl refl)

pub returns-then-branch : goal.returns-then-branch
returns-then-branch c = λ node other.
    let plan = c.args.plan.now in let m = c.args.self.now in let notes = c.args.notes.now in
    let from = c.in-Some.end in let new = c.offers.new.self in let after = c.offers.new.notes in
    subst (λ (o : Option End). RunsAtTwo plan (requires_no_sender plan o) (far_node node o) other m notes
    (Err SeveralReady) new after) (sym c.in-Some.is)
    (not_silent plan from other m new notes after
    (subst (λ (b : Bool). RunsHalf plan (offers plan from) from.node m notes (Ok b) new after) c.if-branch.true
    c.in_ok-offers.ensures))

pub returns : goal.returns
returns c = λ node other.
    let plan = c.args.plan.now in let m = c.args.self.now in let notes = c.args.notes.now in
    let from = c.in-Some.end in let new = c.offers.new.self in let after = c.offers.new.notes in
    subst (λ (o : Option End). RunsAtTwo plan (requires_no_sender plan o) (far_node node o) other m notes (Ok tt) new
    after) (sym c.in-Some.is)
    (silent plan from other m new notes after
    (subst (λ (b : Bool). RunsHalf plan (offers plan from) from.node m notes (Ok b) new after) c.if-branch.false
    c.in_ok-offers.ensures))
