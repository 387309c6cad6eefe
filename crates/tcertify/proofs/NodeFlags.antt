-- Calls on the flags of a node, one after another.
use Rattle.std.proofs.Common.{◌≡◌, ℕ, sym, ◌∙◌, subst, Bool, true, false, Result, Ok, Err}
use Rattle.std.specs.Prelude.{not, if◌then◌else◌}
use Rattle.tprocesses.specs.Places.{Place, Name, Error, HaltOnError, FlagChanged}
use Rattle.tprocesses.specs.Values.{Context, Value, IsFlag, flag_in}
use Rattle.tprocesses.specs.Changes.{Put, Raise}
use Rattle.tprocesses.specs.Parts.{Reason, Part, Doing, Halts, gives, done, see, change, require, ◌>>=◌, ◌>>◌}
use Rattle.tprocesses.specs.Touching.{Site}
use Rattle.tprocesses.specs.Standing.{goes_on}
use Rattle.tprocesses.specs.Instructions as spec
use Rattle.tcertify.specs.declared.node.Node.{Node}
use Rattle.tcertify.specs.Nodes.{RunsAt, node_site}
use Rattle.tcertify.proofs.NodeRunning.{number_stays, runs_at_given, runs_at_on, runs_at_stopped}

-- a part that names a node's number, before and after a call
pub at_number : {A : Type 0} (a b c : Node) (part : ℕ → Part A) (r : Result A Reason) → a.words.number ≡ b.words.number
    → RunsAt (part b.words.number) b r c → RunsAt (part a.words.number) b r c
at_number a b c part r e h = subst (λ (n : ℕ). RunsAt (part n) b r c) (sym e) h

abbrev two_flags : Bool → Bool → spec.Flags
two_flags e h = record { error = e; halt_on_error = h }

-- the flags are looked at
pub flags_seen : (a b c : Node) (e h : Bool) → RunsAt (see (Error a.words.number)) a (Ok (IsFlag e)) b
    → RunsAt (see (HaltOnError b.words.number)) b (Ok (IsFlag h)) c
    → RunsAt (spec.flags_before (node_site a) true) a (Ok (record { error = e; halt_on_error = h })) c
flags_seen a b c e h first second =
    let next = λ (error : Value). see (HaltOnError a.words.number)
    >>= (λ halting. gives (two_flags (flag_in error) (flag_in halting))) in
    runs_at_on (see (Error a.words.number)) next a b c (IsFlag e) (Ok (record { error = e; halt_on_error = h })) first
    (runs_at_on (see (HaltOnError a.words.number)) (λ halting. gives (two_flags e (flag_in halting))) b c c
    (IsFlag h) (Ok (record { error = e; halt_on_error = h }))
    (at_number a b c (λ n. see (HaltOnError n)) (Ok (IsFlag h)) (number_stays a b first.grows) second)
    (runs_at_given (record { error = e; halt_on_error = h }) c))

-- a flag is set, or stays
module _ (a b c : Node) (p : Place) (x y : Bool) where
  setting : Bool → Doing
  setting same =
      if same then done else (change p (Put (IsFlag y)) >> change (FlagChanged a.words.number) Raise)

  pub flag_stays : spec.is_same_flag x y ≡ true → RunsAt (spec.sets_flag (node_site a) p x y) a (Ok tt) a
  unfolding setting
  flag_stays e =
      subst (λ (t : Bool). RunsAt (setting t) a (Ok tt) a) (sym e) (runs_at_given tt a)

  pub flag_set : spec.is_same_flag x y ≡ false → RunsAt (change p (Put (IsFlag y))) a (Ok tt) b
      → RunsAt (change (FlagChanged b.words.number) Raise) b (Ok tt) c
      → RunsAt (spec.sets_flag (node_site a) p x y) a (Ok tt) c
  unfolding setting
  flag_set ne first second =
      subst (λ (t : Bool). RunsAt (setting t) a (Ok tt) c) (sym ne)
      (runs_at_on (change p (Put (IsFlag y))) (λ (u : Unit {0}). change (FlagChanged a.words.number) Raise) a b c tt
      (Ok tt) first
      (at_number a b c (λ n. change (FlagChanged n) Raise) (Ok tt) (number_stays a b first.grows) second))

-- both flags are set, or stay
pub flags_put : (a b c : Node) (f : spec.Flags) (error halting : Bool)
    → RunsAt (spec.sets_flag (node_site a) (Error a.words.number) f.error error) a (Ok tt) b
    → RunsAt (spec.sets_flag (node_site b) (HaltOnError b.words.number) f.halt_on_error halting) b (Ok tt) c
    → RunsAt (spec.sets_flag (node_site a) (Error a.words.number) f.error error
    >> spec.sets_flag (node_site a) (HaltOnError a.words.number) f.halt_on_error halting) a (Ok tt) c
flags_put a b c f error halting first second =
    runs_at_on (spec.sets_flag (node_site a) (Error a.words.number) f.error error)
    (λ (u : Unit {0}). spec.sets_flag (node_site a) (HaltOnError a.words.number) f.halt_on_error halting) a b c tt
    (Ok tt)
    first
    (subst (λ (s : Site). RunsAt (spec.sets_flag s (HaltOnError s.number) f.halt_on_error halting) b (Ok tt) c)
    first.grows.site second)

-- Error is set by a process, or the node halts
module _ (a b : Node) (x : Name) (k : Context) where
  -- what follows the look
  abbrev pub set_on : Value → Doing
  set_on halting = do
    require (not (flag_in halting)) Halts
    change (Error a.words.number) Raise
    change (FlagChanged a.words.number) Raise
    goes_on x k

  pub error_halts : RunsAt (see (HaltOnError a.words.number)) a (Ok (IsFlag true)) b
      → RunsAt (spec.sets_error (node_site a) x k) a (Err Halts) b
  error_halts first =
      runs_at_on (see (HaltOnError a.words.number)) set_on a b b (IsFlag true) (Err Halts) first
      (runs_at_stopped Halts b)

  pub error_set : (c d e : Node) → RunsAt (see (HaltOnError a.words.number)) a (Ok (IsFlag false)) b
      → RunsAt (change (Error b.words.number) Raise) b (Ok tt) c
      → RunsAt (change (FlagChanged c.words.number) Raise) c (Ok tt) d → RunsAt (goes_on x k) d (Ok tt) e
      → RunsAt (spec.sets_error (node_site a) x k) a (Ok tt) e
  error_set c d e first second third fourth =
      let up = number_stays a b first.grows in let upper = up ∙ number_stays b c second.grows in
      runs_at_on (see (HaltOnError a.words.number)) set_on a b e (IsFlag false) (Ok tt) first
      (runs_at_on (change (Error a.words.number) Raise)
      (λ (u : Unit {0}). change (FlagChanged a.words.number) Raise >> goes_on x k) b c e tt (Ok tt)
      (at_number a b c (λ n. change (Error n) Raise) (Ok tt) up second)
      (runs_at_on (change (FlagChanged a.words.number) Raise) (λ (u : Unit {0}). goes_on x k) c d e tt (Ok tt)
      (at_number a c d (λ n. change (FlagChanged n) Raise) (Ok tt) upper third) fourth))
