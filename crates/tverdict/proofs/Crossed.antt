-- The step of a wire from its parts: a message goes over, or makes a process go on.
use Rattle.std.proofs.Common.{ℕ, refl, Bool, true, false, Option, Some, None, Ok, Err, Result}
use Rattle.std.specs.Prelude.{not}
use Rattle.tword.specs.Stores.{Store}
use Rattle.tplan.specs.declared.plan.End.{End}
use Rattle.tplan.specs.declared.plan.Plan.{Plan}
use Rattle.tprocesses.specs.Choosing.{fires}
use Rattle.tprocesses.specs.Machine.{asks, crosses, offers, passes, receives, requires_no_sender, role_at, sends}
use Rattle.tprocesses.specs.Parts.{Doing, HasNoStep, Part, SeveralReady, done, require, telling, ◌>>=◌}
use Rattle.tprocesses.specs.Places.{Name}
use Rattle.tcertify.specs.declared.fault.Fault.{Fault}
use Rattle.tcertify.specs.declared.fault.Fault.TheVariants as fault
use Rattle.tcertify.specs.declared.notes.Notes.{Notes}
use Rattle.tcertify.specs.declared.stop.Stop.TheVariants as stop
use Rattle.tcertify.specs.Nodes.{nothing}
use Rattle.tverdict.specs.declared.machine.Machine.{Machine}
use Rattle.tverdict.specs.Passing.{DoesHalf, RunsHalf}
use Rattle.tverdict.specs.Wired.{DoesAtTwo}
use Rattle.tverdict.proofs.AtTwo.{at_first, at_second, does_both, does_second, fails_first, fails_second, same_still}

module _ (plan : Plan) (from to : End) where
  abbrev sending : Part Store
  sending = sends plan (role_at plan from.node) from

  abbrev receiving : Store → Doing
  receiving x = receives plan (role_at plan to.node) to x

  abbrev rest : Store → Doing
  rest x = receiving x >>= (λ y. telling x done)

  abbrev asking : Part (Option Name)
  asking = asks (role_at plan to.node) to

  -- what is received ends the step
  received : (m m' : Machine) (c c' : Notes) (x : Store) (result : Result (Unit {0}) Fault)
      → DoesHalf plan (receiving x) nothing to.node m c result m' c'
      → DoesAtTwo plan (rest x) from.node to.node m c result m' c'
  received m m' c c' x (Ok y) half =
      does_both plan from.node to.node (receiving x) (λ z. telling x done) m m' m' c c' c' tt (Ok tt)
      (at_second plan from.node to.node (receiving x) m m' c c' (Ok tt) half)
      (same_still plan from.node to.node (telling x done) m' c' (Ok tt) refl refl)
  received m m' c c' x (Err e) half =
      fails_second plan from.node to.node (receiving x) (λ z. telling x done) nothing m m' c c' e half

  -- a message goes over
  pub pass_err : {X : Type 0} (f : X → Store) (m m' : Machine) (c c' : Notes) (e : Fault)
      → DoesHalf plan sending f from.node m c (Err e) m' c'
      → DoesAtTwo plan (crosses plan from to None) from.node to.node m c (Err e) m' c'
  pass_err f m m' c c' e half = fails_first plan from.node to.node sending rest f m m' c c' e half

  pub pass_all : (m m' m'' : Machine) (c c' c'' : Notes) (x : Store) (result : Result (Unit {0}) Fault)
      → RunsHalf plan sending from.node m c (Ok x) m' c'
      → DoesHalf plan (receiving x) nothing to.node m' c' result m'' c''
      → DoesAtTwo plan (crosses plan from to None) from.node to.node m c result m'' c''
  pass_all m m' m'' c c' c'' x result first second =
      does_both plan from.node to.node sending rest m m' m'' c c' c'' x result
      (at_first plan from.node to.node sending m m' c c' (Ok x) first) (received m' m'' c' c'' x result second)

  -- a process goes on that waits for the message and for others
  module _ (x : Name) where
    abbrev firing : Bool → Doing
    firing offered = require offered HasNoStep >>= (λ y. fires to x)

    pub fire_err : {X : Type 0} (f : X → Bool) (m m' : Machine) (c c' : Notes) (e : Fault)
        → DoesHalf plan (offers plan from) f from.node m c (Err e) m' c'
        → DoesAtTwo plan (crosses plan from to (Some x)) from.node to.node m c (Err e) m' c'
    fire_err f m m' c c' e half =
        fails_first plan from.node to.node (offers plan from) firing f m m' c c' e half

    pub fire_none : (m m' : Machine) (c c' : Notes)
        → RunsHalf plan (offers plan from) from.node m c (Ok false) m' c'
        → DoesAtTwo plan (crosses plan from to (Some x)) from.node to.node m c (Err (fault.Stops stop.HasNoStep)) m' c'
    fire_none m m' c c' half =
        does_both plan from.node to.node (offers plan from) firing m m' m' c c' c' false
        (Err (fault.Stops stop.HasNoStep))
        (at_first plan from.node to.node (offers plan from) m m' c c' (Ok false) half)
        (same_still plan from.node to.node (firing false) m' c' (Err HasNoStep) refl refl)

    pub fire_all : (m m' m'' : Machine) (c c' c'' : Notes) (result : Result (Unit {0}) Fault)
        → RunsHalf plan (offers plan from) from.node m c (Ok true) m' c'
        → DoesHalf plan (fires to x) nothing to.node m' c' result m'' c''
        → DoesAtTwo plan (crosses plan from to (Some x)) from.node to.node m c result m'' c''
    fire_all m m' m'' c c' c'' result first second =
        does_both plan from.node to.node (offers plan from) firing m m' m'' c c' c'' true result
        (at_first plan from.node to.node (offers plan from) m m' c c' (Ok true) first)
        (does_second plan from.node to.node (fires to x) m' m'' c' c'' result second)

  -- either of the two, by whether a process waits
  pub cross_err : {X : Type 0} (f : X → Option Name) (m m' : Machine) (c c' : Notes) (e : Fault)
      → DoesHalf plan asking f to.node m c (Err e) m' c'
      → DoesAtTwo plan (passes plan (Some from) to) from.node to.node m c (Err e) m' c'
  cross_err f m m' c c' e half =
      fails_second plan from.node to.node asking (crosses plan from to) f m m' c c' e half

  pub cross_all : (m m' m'' : Machine) (c c' c'' : Notes) (asked : Option Name) (result : Result (Unit {0}) Fault)
      → RunsHalf plan asking to.node m c (Ok asked) m' c'
      → DoesAtTwo plan (crosses plan from to asked) from.node to.node m' c' result m'' c''
      → DoesAtTwo plan (passes plan (Some from) to) from.node to.node m c result m'' c''
  cross_all m m' m'' c c' c'' asked result first second =
      does_both plan from.node to.node asking (crosses plan from to) m m' m'' c c' c'' asked result
      (at_second plan from.node to.node asking m m' c c' (Ok asked) first) second

-- nobody may send at an end
module _ (plan : Plan) (from : End) (o : ℕ) where
  abbrev silence : Bool → Doing
  silence offered = require (not offered) SeveralReady

  pub silent_err : {X : Type 0} (f : X → Bool) (m m' : Machine) (c c' : Notes) (e : Fault)
      → DoesHalf plan (offers plan from) f from.node m c (Err e) m' c'
      → DoesAtTwo plan (requires_no_sender plan (Some from)) from.node o m c (Err e) m' c'
  silent_err f m m' c c' e half = fails_first plan from.node o (offers plan from) silence f m m' c c' e half

  pub not_silent : (m m' : Machine) (c c' : Notes)
      → RunsHalf plan (offers plan from) from.node m c (Ok true) m' c'
      → DoesAtTwo plan (requires_no_sender plan (Some from)) from.node o m c (Err (fault.Stops stop.SeveralReady)) m' c'
  not_silent m m' c c' half =
      does_both plan from.node o (offers plan from) silence m m' m' c c' c' true
      (Err (fault.Stops stop.SeveralReady))
      (at_first plan from.node o (offers plan from) m m' c c' (Ok true) half)
      (same_still plan from.node o (silence true) m' c' (Err SeveralReady) refl refl)

  pub silent : (m m' : Machine) (c c' : Notes)
      → RunsHalf plan (offers plan from) from.node m c (Ok false) m' c'
      → DoesAtTwo plan (requires_no_sender plan (Some from)) from.node o m c (Ok tt) m' c'
  silent m m' c c' half =
      does_both plan from.node o (offers plan from) silence m m' m' c c' c' false (Ok tt)
      (at_first plan from.node o (offers plan from) m m' c c' (Ok false) half)
      (same_still plan from.node o (silence false) m' c' (Ok tt) refl refl)
