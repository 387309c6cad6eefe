-- Processes that wake, come and end.
use Rattle.std.proofs.Common.{◌≡◌, ◌<◌, ℕ, refl, sym, subst, Bool, false, Ok, Err, length}
use Rattle.std.specs.Prelude.{Option}
use Rattle.tprocesses.specs.Parts.{Doing, HasNoStep, require, see, ◌>>◌}
use Rattle.tprocesses.specs.Places.{Name, Standing}
use Rattle.tprocesses.specs.Standing.{is_absent, ready, stands, wakes}
use Rattle.tprocesses.specs.Values.{IsStand, Value, stand_in}
use Rattle.tprocesses.specs.Values as value
use Rattle.tcertify.specs.declared.context.Context.{Context}
use Rattle.tcertify.specs.declared.node.Node.{Node}
use Rattle.tcertify.specs.declared.standing.Stand.{Stand}
use Rattle.tcertify.specs.declared.standing.Stand.TheVariants as stand
use Rattle.tcertify.specs.Contexts.{context_of}
use Rattle.tcertify.specs.Nodes.{RunsAt, name_at}
use Rattle.tcertify.specs.Standing.{stand_of}
use Rattle.tcertify.specs.Starts.{joins}
use Rattle.tcertify.proofs.NodeRunning.{name_stays, runs_at_on, runs_at_stopped}

-- a process that does not wait is not woken
ready_not : (s : Stand) (x : Name) (lent : Option value.Lent) (b : Node) → ((k : Context) → s ≡ stand.Waits k → ⊥)
    → RunsAt (ready (stand_of s) x lent) b (Err HasNoStep) b
ready_not stand.Absent x lent b never = runs_at_stopped HasNoStep b
ready_not (stand.Rests k) x lent b never = runs_at_stopped HasNoStep b
ready_not (stand.Runs k) x lent b never = runs_at_stopped HasNoStep b
ready_not (stand.Waits k) x lent b never = absurd (never k refl)
ready_not (stand.Chooses k) x lent b never = runs_at_stopped HasNoStep b
ready_not (stand.Chosen k) x lent b never = runs_at_stopped HasNoStep b
ready_not (stand.Listens channel k) x lent b never = runs_at_stopped HasNoStep b
ready_not stand.Ended x lent b never = runs_at_stopped HasNoStep b

-- one that is not absent does not come
absent_not : (s : Stand) → (s ≡ stand.Absent → ⊥) → is_absent (stand_of s) ≡ false
absent_not stand.Absent never = absurd (never refl)
absent_not (stand.Rests k) never = refl
absent_not (stand.Runs k) never = refl
absent_not (stand.Waits k) never = refl
absent_not (stand.Chooses k) never = refl
absent_not (stand.Chosen k) never = refl
absent_not (stand.Listens channel k) never = refl
absent_not stand.Ended never = refl

module _ (a b : Node) (k : ℕ) (s : Stand)
    (seen : RunsAt (see (Standing (name_at a k))) a (Ok (IsStand (stand_of s))) b) where
  pub wakes_not : (lent : Option value.Lent) → ((c : Context) → s ≡ stand.Waits c → ⊥)
      → RunsAt (wakes (name_at a k) lent) a (Err HasNoStep) b
  wakes_not lent never =
      runs_at_on (see (Standing (name_at a k))) (λ (v : Value). ready (stand_in v) (name_at a k) lent) a b b
      (IsStand (stand_of s)) (Err HasNoStep) seen (ready_not s (name_at a k) lent b never)

  -- what follows the look of one that comes
  abbrev joins_on : value.Stand → Bool → Doing
  joins_on stood absent = require absent HasNoStep >> stands (name_at a k) stood

  pub joins_not : (stood : value.Stand) → (s ≡ stand.Absent → ⊥)
      → RunsAt (joins (name_at a k) stood) a (Err HasNoStep) b
  joins_not stood never =
      runs_at_on (see (Standing (name_at a k))) (λ (v : Value). joins_on stood (is_absent (stand_in v))) a b b
      (IsStand (stand_of s)) (Err HasNoStep) seen
      (subst (λ (t : Bool). RunsAt (joins_on stood t) b (Err HasNoStep) b) (sym (absent_not s never))
      (runs_at_stopped HasNoStep b))

  module _ (c : Node) (there : k < length a.processes.items.items) where
    -- it stands elsewhere then
    named : (stood : value.Stand) → RunsAt (stands (name_at b k) stood) b (Ok tt) c
        → RunsAt (stands (name_at a k) stood) b (Ok tt) c
    named stood h =
        subst (λ (x : Name). RunsAt (stands x stood) b (Ok tt) c) (name_stays a b k seen.grows there) h

    pub woken : (lent : Option value.Lent) (ctx : Context) (left : value.Context) → s ≡ stand.Waits ctx
        → left ≡ record (context_of ctx) { lent = lent } → RunsAt (stands (name_at b k) (value.Rests left)) b (Ok tt) c
        → RunsAt (wakes (name_at a k) lent) a (Ok tt) c
    woken lent ctx left waits is h =
        runs_at_on (see (Standing (name_at a k))) (λ (v : Value). ready (stand_in v) (name_at a k) lent) a b c
        (IsStand (stand_of s)) (Ok tt) seen
        (subst (λ (t : Stand). RunsAt (ready (stand_of t) (name_at a k) lent) b (Ok tt) c) (sym waits)
        (subst (λ (l : value.Context). RunsAt (stands (name_at a k) (value.Rests l)) b (Ok tt) c) is
        (named (value.Rests left) h)))

    pub joined : (stood : value.Stand) → s ≡ stand.Absent → RunsAt (stands (name_at b k) stood) b (Ok tt) c
        → RunsAt (joins (name_at a k) stood) a (Ok tt) c
    joined stood absent h =
        runs_at_on (see (Standing (name_at a k))) (λ (v : Value). joins_on stood (is_absent (stand_in v))) a b c
        (IsStand (stand_of s)) (Ok tt) seen
        (subst (λ (t : Stand). RunsAt (joins_on stood (is_absent (stand_of t))) b (Ok tt) c) (sym absent)
        (named stood h))
