use Rattle.std.proofs.Common.{◌≡◌, ◌<◌, ◌+◌, ℕ, true, false, Ok, Err, Result, is_err, add-one, arith, length, refl}
use Rattle.std.proofs.Common.{subst, sym}
use Rattle.std.proofs.lemmas.Bool.{false≢true}
use Rattle.std.proofs.lemmas.Option.{slice_get_within}
use Rattle.tcertify.specs.declared.fault.Fault.{Fault}
use Rattle.tcertify.specs.declared.node.Node.{Node}
use Rattle.tcertify.specs.Nodes.{name_at, node_site}
use Rattle.tcertify.specs.Steps.{step_of_process}
use Rattle.tverdict.specs.Calls.{DoesAfresh}
use Rattle.tverdict.specs.Still.{AreStill, GoesOnAt, IsStill, StaysStill}
use Rattle.tverdict.proofs.Quiet.{settled_so, still_on}
use Rattle.tverdict.proofs.calls.do_steps.Goals as goal

-- a process that goes on is there
is_there : (node : Node) (k : ℕ) → GoesOnAt node k → k < length node.processes.items.items
is_there node k h = slice_get_within node.processes.items.items k h.known h.has

-- what is no error is nothing
is_ok : (r : Result (Unit {0}) Fault) → is_err r ≡ false → r ≡ Ok tt
is_ok (Ok x) e = refl
is_ok (Err x) e = absurd (false≢true (sym e))

-- a step behind which the process stays so is still
step_is_still : (k processes channels : ℕ) (old : Node) (r : Result (Unit {0}) Fault) (new : Node) → is_err r ≡ false
    → processes ≡ length old.processes.items.items → channels ≡ length old.channels.items.items → GoesOnAt old k
    → DoesAfresh true (step_of_process (node_site old) (name_at old k)) old r new
    → StaysStill k processes channels old.population new → IsStill k old new
step_is_still k processes channels old r new e as_many as_many_channels before does stays =
    record {
      before = before;
      does = subst (λ (x : Result (Unit {0}) Fault). DoesAfresh true (step_of_process (node_site old) (name_at old k))
          old x new) (is_ok r e) does;
      stays = subst (λ (p : ℕ). StaysStill k p (length old.channels.items.items) old.population new) as_many
          (subst (λ (c : ℕ). StaysStill k processes c old.population new) as_many_channels stays);
    }

-- steps that are still, and one more
one_more : (count k : ℕ) (old mid new : Node) → AreStill count k old mid → IsStill k mid new
    → AreStill (count + 1) k old new
one_more count k old mid new some last = rw add-one (mid, some, last)

pub returns-then-not-goes_on-clause-steps : goal.returns-then-not-goes_on-clause-steps
returns-then-not-goes_on-clause-steps c = (c.args.node.now, refl, refl)

pub loop-still-init : goal.loop-still-init
loop-still-init c = record { still = refl; goes = c.if-not-goes_on.ensures.0 refl; few = omega arith }

pub do_process-outcome-requires : goal.do_process-outcome-requires
do_process-outcome-requires c = is_there c.loop-still.node c.args.process c.loop-still.invariant.goes

pub is_still-requires : goal.is_still-requires
is_still-requires c =
    let there = is_there c.loop-still.node c.args.process c.loop-still.invariant.goes in
    omega (arith, there, c.of-before.ensures.processes)

pub returns-then-is_err-clause-steps : goal.returns-then-is_err-clause-steps
returns-then-is_err-clause-steps c =
    let so_far = c.loop-still.invariant in
    (c.loop-still.node, so_far.still, (so_far.goes, c.do_process-outcome.ensures))

pub do_quiet_steps-still-requires : goal.do_quiet_steps-still-requires
do_quiet_steps-still-requires c =
    let so_far = c.loop-still.invariant in let new = c.do_process-outcome.new.node in
    let stays = c.if-not-is_still.ensures.0 refl in
    record { there = is_there new c.args.process stays.goes; settled = settled_so _ _ _ _ new stays }

pub loop-still-preserved : goal.loop-still-preserved
loop-still-preserved c =
    let so_far = c.loop-still.invariant in let old = c.loop-still.node in let mid = c.do_process-outcome.new.node in
    let new = c.do_quiet_steps-still.new.node in let some = c.loop-still.still in
    let k = c.args.process in let counts = c.of-before.result in let stays = c.if-not-is_still.ensures.0 refl in
    let one : IsStill k old mid =
    step_is_still k counts.processes counts.channels old c.do_process-outcome.result mid (sym c.if-is_err.ensures.value)
    c.of-before.ensures.processes c.of-before.ensures.channels so_far.goes c.do_process-outcome.ensures stays in
    let quiet = c.do_quiet_steps-still.ensures in
    record {
      still = still_on c.do_quiet_steps-still.result (some + 1) k c.args.node.now mid new _ refl
          (one_more some k c.args.node.now old mid so_far.still one) quiet.still;
      goes = quiet.goes one.stays.goes;
      few = omega (arith, quiet.few);
    }

pub returns-clause-steps : goal.returns-clause-steps
returns-clause-steps c = (c.loop-still.node, c.loop-still.invariant.still, refl)
