use Rattle.std.proofs.Common.{◌≡◌, ℕ, ◌+◌, ◌-◌, ◌<◌, ◌∙◌, sym, ap, subst, refl, arith, inl, inr, false, rules}
use Rattle.std.specs.Prelude.{Ok, is_ok}
use Rattle.tlink.specs.declared.event.NodeEvent.TheVariants.{Run}
use Rattle.tfree.specs.Turns.{Times, Does, IsEnabled}
use Rattle.tfree.specs.Views.{Share}
use Rattle.tfree.proofs.Nexts.{at_some_fault, fault_of, next_step}
use Rattle.tfree.proofs.Phases.{not_ok, times_add}
use Rattle.tfree.proofs.worker.Worker.runs.Goals as goal

pub loop-left-init : goal.loop-left-init
loop-left-init c =
    let none : c.args.slice - c.args.slice ≡ 0 = omega arith in
    record {
      same = refl;
      done = subst (λ (k : ℕ). Times k (Does c.args.self.now.share (c.args.self.now.share.first + c.args.i) Run)
          c.args.self.now.events c.args.self.now.events) (sym none) refl;
      within = omega arith;
    }

pub run-requires-clause-i : goal.run-requires-clause-i
run-requires-clause-i c = subst (λ (s : Share). c.args.i < s.owned) (sym c.loop-left.invariant.same) c.requires

pub returns-in_err-done-clause-phase : goal.returns-in_err-done-clause-phase
returns-in_err-done-clause-phase c =
    let l = c.loop-left in
    let s = c.args.self.now.share in
    let e = c.in_err-done.ensures in (
      e.same ∙ l.invariant.same,
      (
        c.args.slice - l.left,
        omega arith,
        subst (Times (c.args.slice - l.left) (Does s (s.first + c.args.i) Run) c.args.self.now.events) (sym e.did)
            l.invariant.done,
        inr (λ t d. let no : is_ok c.from_residual.result ≡ false =
            not_ok c.from_residual.result c.from_residual.ensures.0 in cc),
      ),
    )

pub returns-then-done-eq0-clause-phase : goal.returns-then-done-eq0-clause-phase
returns-then-done-eq0-clause-phase c =
    let l = c.loop-left in
    let s = c.args.self.now.share in
    let e = c.in_ok-done.ensures in
    let none : c.run.result ≡ Ok 0 = c.in_ok-done.was ∙ ap (λ (k : ℕ). Ok k) c.if-done-eq0.true in
    let same : c.run.new.self.events ≡ l.self.events =
    subst (λ (k : ℕ). Times k (Does l.self.share (l.self.share.first + c.args.i) Run) l.self.events
    c.run.new.self.events) c.if-done-eq0.true e.did.1 in
    let rests : IsEnabled l.self.share (l.self.share.first + c.args.i) Run l.self.events → ⊥ =
    c.run.ensures.rests none in (
      e.same ∙ l.invariant.same,
      (
        c.args.slice - l.left,
        omega arith,
        subst (Times (c.args.slice - l.left) (Does s (s.first + c.args.i) Run) c.args.self.now.events) (sym same)
            l.invariant.done,
        inr (λ t d. rests
            (subst (λ (x : Share). IsEnabled x (x.first + c.args.i) Run l.self.events) (sym l.invariant.same)
            (subst (IsEnabled s (s.first + c.args.i) Run) same d))),
      ),
    )

pub loop-left-preserved : goal.loop-left-preserved
loop-left-preserved c =
    let l = c.loop-left in
    let s = c.args.self.now.share in
    let e = c.in_ok-done.ensures in
    let more : Times c.in_ok-done.done (Does s (s.first + c.args.i) Run) l.self.events c.run.new.self.events =
    subst (λ (x : Share). Times c.in_ok-done.done (Does x (x.first + c.args.i) Run) l.self.events c.run.new.self.events)
    l.invariant.same e.did.1 in
    let sum : c.args.slice - l.left + c.in_ok-done.done ≡ c.args.slice - (l.left - c.in_ok-done.done) =
    omega (arith, e.did.0, l.invariant.within) in
    record {
      same = e.same ∙ l.invariant.same;
      done = subst (λ (k : ℕ). Times k (Does s (s.first + c.args.i) Run) c.args.self.now.events c.run.new.self.events)
          sum
          (times_add (Does s (s.first + c.args.i) Run) (c.args.slice - l.left) c.in_ok-done.done c.args.self.now.events
          l.self.events c.run.new.self.events l.invariant.done more);
      within = omega (arith, l.invariant.within);
    }

pub returns-clause-phase : goal.returns-clause-phase
returns-clause-phase c =
    let l = c.loop-left in (
      l.invariant.same,
      (
        c.args.slice - l.left,
        omega arith,
        l.invariant.done,
        inl (omega (arith, c.loop-left-test.false, l.invariant.within)),
      ),
    )

pub returns-in_err-done-clause-next : goal.returns-in_err-done-clause-next
returns-in_err-done-clause-next c =
    let l = c.loop-left in
    at_some_fault c.from_residual.result _
    (λ f e. next_step (λ (s : Share). Does s (s.first + c.args.i) Run)
    (λ (s : Share). IsEnabled s (s.first + c.args.i) Run) c.args.slice (c.args.slice - l.left) c.args.self.now l.self
    c.run.new.self f (omega (arith, c.loop-left-test.true, l.invariant.within)) l.invariant.same l.invariant.done
    (fault_of c.run.result f _ (search rules) c.run.ensures.next))
