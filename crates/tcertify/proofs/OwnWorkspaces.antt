-- Whether a process comes before the first step, by the workspaces of those before it.
use Rattle.std.proofs.Common.{◌≡◌, ◌<◌, ◌+◌, ℕ, zero, suc, refl, sym, ap, ◌∙◌, Bool, true, false, List, [], ◌∷◌, ◌++◌}
use Rattle.std.proofs.Common.{Some, Result, Ok, Err, length, take, pos, arith, cond, eq-eqb, ◌⊎◌, inl, inr}
use Rattle.std.specs.Prelude.{◌==◌, slice_get, if◌then◌else◌}
use Rattle.std.specs.List.{count_by}
use Rattle.std.proofs.lemmas.Bool.{cases_eq, eqb-true, false≢true}
use Rattle.std.proofs.lemmas.List.Sums.{sum_by-append}
use Rattle.std.proofs.lemmas.Option.{same_Some, slice_get_past}
use Rattle.tword.specs.declared.breaks.Break.TheVariants.{AlreadyLive}
use Rattle.tproc.specs.Machine.{priority_of, workspace_of}
use Rattle.tplan.specs.declared.plan.NodePlan.{NodePlan}
use Rattle.tplan.specs.declared.plan.Plan.{Plan}
use Rattle.tplan.specs.declared.plan.Process.{Process}
use Rattle.tprocesses.specs.Changes.{Add, Raise}
use Rattle.tprocesses.specs.Opening.{lives, opened_stand, opening_state}
use Rattle.tprocesses.specs.Parts.{Breaks, Doing, HasNoStep, Reason, change, require, see, ◌>>=◌, ◌>>◌}
use Rattle.tprocesses.specs.Places.{Name, Image, Standing, Life, Population, HasRun}
use Rattle.tprocesses.specs.Standing.{comes, fresh, is_absent, stands}
use Rattle.tprocesses.specs.Touching.{Site, is_zero}
use Rattle.tprocesses.specs.Values.{Context, IsAmount, IsStand, Rests, Stand, Value, amount_in, stand_in}
use Rattle.tcertify.specs.declared.stop.Stop.{Stop}
use Rattle.tcertify.specs.declared.stop.Stop.TheVariants as stop
use Rattle.tcertify.specs.NodeOpened.{HaveOwnWorkspaces}
use Rattle.tcertify.specs.Running.{State, changed, run_part}
use Rattle.tcertify.specs.Words.{reason_of}
use Rattle.tcertify.proofs.Keeping.{get_pushed}
use Rattle.tcertify.proofs.NodeOpening.{get_else, opening_with, with_processes}

-- the count of a list by its first one
count_first : {X : Type 0} (test : X → Bool) (y : X) (ys : List X) (t b : Bool) → test y ≡ t
    → (count_by test (y ∷ ys) == 0) ≡ b → (cond t 1 0 + count_by test ys == 0) ≡ b
count_first test y ys t b is e =
    ap (λ (u : Bool). cond u 1 0 + count_by test ys == 0) (sym is)
    ∙ ap (λ (n : ℕ). n == 0) (sym (sum_by-append (λ z. cond (test z) 1 0) (y ∷ []) ys
    ∙ from_zero (cond (test y) 1 0) (count_by test ys))) ∙ e
  where
    from_zero : (m n : ℕ) → (0 + m) + n ≡ m + n
    from_zero m n = omega arith

-- one that is counted is there, or none is
pub counted : {X : Type 0} (test : X → Bool) (xs : List X) → (count_by test xs == 0) ≡ false
    → (k : ℕ) × (x : X) × (slice_get xs k ≡ Some x) × (test x ≡ true)
counted test [] e = cc
counted {X} test (y ∷ ys) e = by (test y) refl (counted test ys)
  where
    zero_first : (n : ℕ) → (0 + n == 0) ≡ false → (n == 0) ≡ false
    zero_first n f = let z : 0 + n ≡ n = omega arith in sym (ap (λ (m : ℕ). m == 0) z) ∙ f

    by : (t : Bool) → test y ≡ t
        → ((count_by test ys == 0) ≡ false → (k : ℕ) × (x : X) × (slice_get ys k ≡ Some x) × (test x ≡ true))
        → (k : ℕ) × (x : X) × (slice_get (y ∷ ys) k ≡ Some x) × (test x ≡ true)
    by true is rest = (0, y, refl, is)
    by false is rest =
        let (k, x, there, holds) = rest (zero_first (count_by test ys) (count_first test y ys false false is e)) in
        (suc k, x, there, holds)

pub uncounted : {X : Type 0} (test : X → Bool) (xs : List X) → (count_by test xs == 0) ≡ true
    → (k : ℕ) (x : X) → slice_get xs k ≡ Some x → test x ≡ false
uncounted test [] e k x there = cc
uncounted {X} test (y ∷ ys) e k x there = by (test y) refl (λ h j. uncounted test ys h j x) k there
  where
    zero_first : (n : ℕ) → (0 + n == 0) ≡ true → (n == 0) ≡ true
    zero_first n f = let z : 0 + n ≡ n = omega arith in sym (ap (λ (m : ℕ). m == 0) z) ∙ f

    by : (t : Bool) → test y ≡ t
        → ((count_by test ys == 0) ≡ true → (k : ℕ) → slice_get ys k ≡ Some x → test x ≡ false)
        → (k : ℕ) → slice_get (y ∷ ys) k ≡ Some x → test x ≡ false
    by true is rest k there =
        let none : 1 + count_by test ys ≡ 0 = eqb-true _ _ (count_first test y ys true true is e) in
        absurd (omega (arith, none))
    by false is rest zero there = ap test (sym (same_Some y x there)) ∙ is
    by false is rest (suc k) there =
        rest (zero_first (count_by test ys) (count_first test y ys false true is e)) k there

-- what is among the first of a list is there in the list
pub among_first : {X : Type 0} (xs : List X) (i k : ℕ) (x : X) → slice_get (take i xs) k ≡ Some x
    → (k < i) × (slice_get xs k ≡ Some x)
among_first [] zero k x there = cc
among_first [] (suc i) k x there = cc
among_first (y ∷ ys) zero k x there = cc
among_first (y ∷ ys) (suc i) zero x there = (omega arith, there)
among_first (y ∷ ys) (suc i) (suc k) x there = let (low, at) = among_first ys i k x there in (omega (arith, low), at)

-- one more with a workspace that none before it has
pub own_more : (ps : List Process) (q : Process)
    → (count_by (λ r. workspace_of r.wdesc == workspace_of q.wdesc) ps == 0)
    ≡ true → HaveOwnWorkspaces ps → HaveOwnWorkspaces (ps ++ q ∷ [])
own_more ps q free own i j x y at there same = by (cases_eq (length ps) i) (cases_eq (length ps) j)
  where
    other : (k : ℕ) (r : Process) → slice_get ps k ≡ Some r → workspace_of r.wdesc ≡ workspace_of q.wdesc → ⊥
    other k r e f =
        false≢true (sym (uncounted (λ r. workspace_of r.wdesc == workspace_of q.wdesc) ps free k r e)
        ∙ eq-eqb (workspace_of r.wdesc) (workspace_of q.wdesc) f)

    last : (k : ℕ) (r : Process) → slice_get (ps ++ q ∷ []) k ≡ Some r → length ps ≡ k → q ≡ r
    last k r e f = same_Some q r (sym (get_pushed ps q) ∙ ap (λ (n : ℕ). slice_get (ps ++ q ∷ []) n) f ∙ e)

    by : (length ps ≡ i) ⊎ (length ps ≡ i → ⊥) → (length ps ≡ j) ⊎ (length ps ≡ j → ⊥) → i ≡ j
    by (inl e) (inl f) = sym e ∙ f
    by (inl e) (inr f) =
        absurd (other j y (sym (get_else ps q j f) ∙ there)
        (sym (ap (λ (r : Process). workspace_of r.wdesc) (last i x at e) ∙ same)))
    by (inr e) (inl f) =
        absurd (other i x (sym (get_else ps q i e) ∙ at)
        (same ∙ sym (ap (λ (r : Process). workspace_of r.wdesc) (last j y there f))))
    by (inr e) (inr f) = own i j x y (sym (get_else ps q i e) ∙ at) (sym (get_else ps q j f) ∙ there) same

-- a plan with a node at a number
abbrev pub copies : ℕ → NodePlan → List NodePlan
copies zero plan = plan ∷ []
copies (suc n) plan = plan ∷ copies n plan

abbrev pub plan_at : ℕ → NodePlan → Plan
plan_at n plan = record { timeslice = 1; nodes = copies n plan; wires = []; sources = []; sinks = [] }

pub is_at : (n : ℕ) (plan : NodePlan) → slice_get (copies n plan) n ≡ Some plan
is_at zero plan = refl
is_at (suc n) plan = is_at n plan

-- a process that comes, and one that does not
module _ (s : Site) (x : Name) (c : Context) (stood : Context → Stand) (before after : State) where
  abbrev with_life : State
  with_life = changed (Life s.number c.wptr) (Add (pos 1)) before

  abbrev last_parts : Doing
  last_parts =
      stands x (stood c) >> (change (Population s.number) (Add (pos 1)) >> change (HasRun s.number c.priority) Raise)

  abbrev by_count : Bool → Doing
  by_count b =
      require b (Breaks AlreadyLive)
      >> (change (Life s.number c.wptr) (Add (pos 1)) >> (see (Standing x)
      >>= (λ v. require (is_absent (stand_in v)) HasNoStep >> last_parts)))

  free_by : (b : Bool) → run_part (by_count b) before ≡ (Ok tt, after) → b ≡ true
  free_by true e = refl
  free_by false e =
      let wrong : ◌≡◌ {A = Result (Unit {0}) Reason} (Err (Breaks AlreadyLive)) (Ok tt) =
      ap (λ (o : Result (Unit {0}) Reason × State). o.0) e in cc

  -- one that came had a workspace that nobody had
  pub was_free : run_part (comes s x c stood) before ≡ (Ok tt, after)
      → is_zero (amount_in (before (Life s.number c.wptr))) ≡ true
  was_free e = free_by (is_zero (amount_in (before (Life s.number c.wptr)))) e

  not_last : (b : Bool) (why : Reason) → b ≡ true
      → run_part (require b HasNoStep >> last_parts) with_life ≡ (Err why, after) → ⊥
  not_last true why is e =
      let wrong : ◌≡◌ {A = Result (Unit {0}) Reason} (Ok tt) (Err why) =
      ap (λ (o : Result (Unit {0}) Reason × State). o.0) e in cc
  not_last false why is e = absurd (false≢true is)

  taken_by : (b : Bool) (why : Reason) → is_absent (stand_in (before (Standing x))) ≡ true
      → run_part (by_count b) before ≡ (Err why, after) → (Breaks AlreadyLive ≡ why) × (b ≡ false)
  taken_by true why absent e = absurd (not_last (is_absent (stand_in (before (Standing x)))) why absent e)
  taken_by false why absent e =
      let same : ◌≡◌ {A = Result (Unit {0}) Reason} (Err (Breaks AlreadyLive)) (Err why) =
      ap (λ (o : Result (Unit {0}) Reason × State). o.0) e in (cc, refl)

  -- one that was not there and did not come has a workspace that another has
  pub was_taken : (why : Reason) → is_absent (stand_in (before (Standing x))) ≡ true
      → run_part (comes s x c stood) before ≡ (Err why, after)
      → (Breaks AlreadyLive ≡ why) × (is_zero (amount_in (before (Life s.number c.wptr))) ≡ false)
  was_taken why absent e = taken_by (is_zero (amount_in (before (Life s.number c.wptr)))) why absent e

-- so the next process of an image
module _ (p : Plan) (n : ℕ) (plan : NodePlan) (ps : List Process) (q : Process) (i : ℕ) (at : length ps ≡ i)
    (s : Site) (is : s.number ≡ n) (after : State) where
  abbrev context : Context
  context = fresh (priority_of q.wdesc) (workspace_of q.wdesc) q.iptr

  abbrev name : Name
  name = record { node = n; root = Image i; path = [] }

  abbrev opening : State
  opening = opening_with p n plan ps

  count_is : opening (Life s.number (workspace_of q.wdesc))
      ≡ IsAmount (pos (lives (workspace_of q.wdesc) (with_processes ps plan)))
  count_is =
      ap (λ (m : ℕ). opening (Life m (workspace_of q.wdesc))) is
      ∙ ap (λ (t : Bool). if t then IsAmount (pos (lives (workspace_of q.wdesc) (with_processes ps plan)))
      else opening_state p (Life n (workspace_of q.wdesc))) (eq-eqb n n refl)

  absent : is_absent (stand_in (opening (Standing name))) ≡ true
  absent =
      ap (λ (t : Bool). is_absent (stand_in (if t then IsStand (opened_stand (slice_get ps i))
      else opening_state p (Standing name)))) (eq-eqb n n refl)
      ∙ ap (λ o. is_absent (opened_stand o)) (slice_get_past ps i (omega (arith, at)))

  pub comes_alone : run_part (comes s name context Rests) opening ≡ (Ok tt, after)
      → (lives (workspace_of q.wdesc) (with_processes ps plan) == 0) ≡ true
  comes_alone e =
      sym (ap (λ (v : Value). is_zero (amount_in v)) count_is) ∙ was_free s name context Rests opening after e

  pub comes_late : (why : Reason) → run_part (comes s name context Rests) opening ≡ (Err why, after)
      → (Breaks AlreadyLive ≡ why) × (lives (workspace_of q.wdesc) (with_processes ps plan) == 0) ≡ false
  comes_late why e =
      let w = was_taken s name context Rests opening after why absent e in
      (w.0, sym (ap (λ (v : Value). is_zero (amount_in v)) count_is) ∙ w.1)

-- the reason of a stop tells the stop
pub stop_is : (why : Stop) → Breaks AlreadyLive ≡ reason_of why → why ≡ stop.Breaks AlreadyLive
stop_is (stop.Breaks b) e = let same : AlreadyLive ≡ b = cc in cc
stop_is stop.Halts e = cc
stop_is stop.SawTheScheduler e = cc
stop_is stop.SeveralReady e = cc
stop_is stop.WordInUse e = cc
stop_is stop.FullSink e = cc
stop_is stop.HasNoStep e = cc

-- the next process of an image has the workspace of one before it
pub not_own : (ps : List Process) (i : ℕ) (q : Process) → slice_get ps i ≡ Some q
    → (count_by (λ r. workspace_of r.wdesc == workspace_of q.wdesc) (take i ps) == 0) ≡ false → HaveOwnWorkspaces ps
    → ⊥
not_own ps i q there e own =
    let (k, r, at, same) = counted (λ r. workspace_of r.wdesc == workspace_of q.wdesc) (take i ps) e in
    let (low, is) = among_first ps i k r at in
    let is_i : k ≡ i = own k i r q is there (eqb-true (workspace_of r.wdesc) (workspace_of q.wdesc) same) in
    absurd (omega (arith, low, is_i))
