use Rattle.std.proofs.Common.{◌<◌, ℕ, add-one, length, refl, subst, sym}
use Rattle.tcertify.specs.declared.node.Node.{Node}
use Rattle.tverdict.specs.Still.{GoesOnAt, IsStill}
use Rattle.tverdict.proofs.Quiet.{quiet_goes, quiet_is_still, quiet_settled}
use Rattle.tverdict.proofs.calls.do_quiet_steps.Goals as goal

pub loop-done-init : goal.loop-done-init
loop-done-init c =
    record { still = refl; settled = c.requires.settled; there = c.requires.there; goes = λ g. g }

pub loop-done-preserved : goal.loop-done-preserved
loop-done-preserved c =
    let so_far = c.loop-done.invariant in let old = c.loop-done.node in let new = c.quiet_step.new.self in
    let k = c.args.process in
    let q = c.quiet_step.ensures.done c.if-not-quiet_step.false in
    let one : IsStill k old new = quiet_is_still k old new so_far.settled q in
    record {
      still = rw add-one (old, so_far.still, one);
      settled = quiet_settled k old new so_far.settled q;
      there = subst (λ (n : ℕ). k < n) (sym q.processes) so_far.there;
      goes = λ g. quiet_goes k old new so_far.settled q;
    }

pub returns-then-not-quiet_step-clause-goes : goal.returns-then-not-quiet_step-clause-goes
returns-then-not-quiet_step-clause-goes c = λ g.
    subst (λ (n : Node). GoesOnAt n c.args.process) (sym (c.quiet_step.ensures.kept c.if-not-quiet_step.true))
    (c.loop-done.invariant.goes g)
