-- Runs in a row: those of a node are the steps of its processor, and keep the node whole.
use Rattle.std.proofs.Common.{◌≡◌, ◌∙◌, ℕ, zero, suc, refl, sym, ap, subst, cond, Bool, true, false, List}
use Rattle.std.proofs.Common.{Option, Some, None, Result, Ok, Err, arith}
use Rattle.std.proofs.lemmas.Bool.{eqb-true}
use Rattle.std.specs.Prelude.{◌==◌, is_some, option_map, if◌then◌else◌}
use Rattle.tword.specs.declared.breaks.Break.{Break}
use Rattle.tproc.specs.declared.ran.Ran.{Ran}
use Rattle.tproc.specs.declared.ran.Ran.TheVariants as ran
use Rattle.tproc.specs.declared.ran.RanMany.{RanMany}
use Rattle.tproc.specs.Machine.{Machine}
use Rattle.tproc.specs.Steps.{step, step_answered, step_left_by}
use Rattle.tproc.specs.Runs as steps
use Rattle.tproc.proofs.Resting.{rest_changes_nothing}
use Rattle.tlink.specs.declared.counts.Counts.{Counts}
use Rattle.tlink.specs.declared.event.Emitted.{Emitted}
use Rattle.tlink.specs.declared.event.NodeEvent.TheVariants.{Run}
use Rattle.tlink.specs.declared.event.Runs.{Runs}
use Rattle.tlink.specs.declared.event.StepFault.{StepFault}
use Rattle.tlink.specs.declared.event.StepFault.TheVariants.{NotEnabled}
use Rattle.tlink.specs.Roles.{Role, Processor}
use Rattle.tlink.specs.Node.{NodeState, with_machine}
use Rattle.tlink.specs.Events.{happens, unless_frozen, at_work, node_answered, node_left_by, after_run}
use Rattle.tlink.specs.Answers.{run_told, run_left}
use Rattle.tlink.specs.Runs.{runs, followed, behind, ends_with, is_nothing}
use Rattle.tlink.specs.Whole.{IsWhole}
use Rattle.tlink.proofs.Whole.{stays_whole}

-- a node that no break has frozen
abbrev working : Machine → List Counts → List Bool → NodeState
working m counts wired =
    record { role = Processor; machine = m; counts = counts; wired = wired; broken = None }

-- the node after the last answer of its processor, if there is one
abbrev pub last_left : Option (Result Ran Break) → NodeState → NodeState
last_left None n = n
last_left (Some answer) n = run_left answer n

-- a row of a processor, as one of its node
abbrev pub lifted : NodeState → Machine × RanMany → NodeState × Runs
lifted n (m, row) =
    (last_left row.last (with_machine m n), record { count = row.count; last = option_map run_told row.last })

lifted-behind : (k : ℕ) (n : NodeState) (x : Machine × RanMany) → behind k (lifted n x) ≡ lifted n (steps.behind k x)
lifted-behind k n (m, row) = refl

joined : (k : ℕ) (m : Machine) (counts : List Counts) (wired : List Bool)
    → runs k (working m counts wired) ≡ lifted (working m counts wired) (steps.row k m)
    → behind 1 (runs k (working m counts wired)) ≡ lifted (working m counts wired) (steps.behind 1 (steps.row k m))
joined k m counts wired e =
    ap (λ (x : NodeState × Runs). behind 1 x) e ∙ lifted-behind 1 (working m counts wired) (steps.row k m)

-- runs of a node that is not frozen are steps of its processor
runs-working : (k : ℕ) (m : Machine) (counts : List Counts) (wired : List Bool)
    → runs k (working m counts wired) ≡ lifted (working m counts wired) (steps.row k m)
unfolding runs steps.row happens
runs-working zero m counts wired = refl
runs-working (suc k) m counts wired = by (λ m'. runs-working k m' counts wired) (step m) refl
  where
    by : ((m' : Machine) → runs k (working m' counts wired) ≡ lifted (working m' counts wired) (steps.row k m'))
        → (y : Result (Machine × Ran) Break) → step m ≡ y
        → followed (λ n. runs k n) (node_answered (after_run (working m counts wired) y))
        (node_left_by (working m counts wired) (after_run (working m counts wired) y))
        ≡ lifted (working m counts wired)
        (steps.followed (λ m. steps.row k m) (step_answered y) (step_left_by m y))
    by on (Ok (m', ran.Instruction)) e = joined k m' counts wired (on m')
    by on (Ok (m', ran.Dispatch)) e = joined k m' counts wired (on m')
    by on (Ok (m', ran.LinkOut l)) e = joined k m' counts wired (on m')
    by on (Ok (m', ran.LinkIn l)) e = joined k m' counts wired (on m')
    by on (Ok (m', ran.Halting)) e = refl
    by on (Ok (m', ran.Idle)) e =
        ap (λ (m : Machine). let x : Runs = ends_with (Some (Err NotEnabled)) in (working m counts wired, x))
        (sym (rest_changes_nothing m m' ran.Idle e))
    by on (Ok (m', ran.Halted)) e =
        ap (λ (m : Machine). let x : Runs = ends_with (Some (Err NotEnabled)) in (working m counts wired, x))
        (sym (rest_changes_nothing m m' ran.Halted e))
    by on (Err b) e = refl

pub runs-row : (k : ℕ) (n : NodeState) → n.role ≡ Processor → n.broken ≡ None
    → runs k n ≡ lifted n (steps.row k n.machine)
runs-row k n p e =
    let same : n ≡ working n.machine n.counts n.wired =
    ap (λ (role : Role). record n { role = role }) p
    ∙ ap (λ (b : Option Break). record n { role = Processor; broken = b }) e in
    let P : NodeState → Type 0 = λ n. runs k n ≡ lifted n (steps.row k n.machine) in
    subst P (sym same) (runs-working k n.machine n.counts n.wired)

-- of a frozen node there are none
pub runs-frozen : (k : ℕ) (n : NodeState) → is_some n.broken ≡ true
    → runs k n ≡ (n, ends_with (if k == 0 then None else Some (Err NotEnabled)))
unfolding runs happens
runs-frozen zero n e = refl
runs-frozen (suc k) n e = by n.broken e (suc k == 0) refl
  where
    by : (b : Option Break) → is_some b ≡ true → (none : Bool) → (suc k == 0) ≡ none
        → followed (λ m. runs k m) (node_answered (unless_frozen b (at_work Run n)))
        (node_left_by n (unless_frozen b (at_work Run n)))
        ≡ (n, ends_with (cond none None (Some (Err NotEnabled))))
    by None e none h = cc
    by (Some b) e false h = refl
    by (Some b) e true h = let z : suc k ≡ 0 = eqb-true _ _ h in absurd (omega arith)

-- of a node that does no run there are none
pub runs-idle : (k : ℕ) (n : NodeState) → happens Run n ≡ Err NotEnabled
    → runs k n ≡ (n, ends_with (if k == 0 then None else Some (Err NotEnabled)))
unfolding runs
runs-idle zero n e = refl
runs-idle (suc k) n e = rw e (by (suc k == 0) refl)
  where
    by : (none : Bool) → (suc k == 0) ≡ none
        → ◌≡◌ {A = NodeState × Runs} (n, ends_with (Some (Err NotEnabled)))
        (n, ends_with (cond none None (Some (Err NotEnabled))))
    by false h = refl
    by true h = let z : suc k ≡ 0 = eqb-true _ _ h in absurd (omega arith)

-- runs keep a node whole
pub runs-whole : (k : ℕ) (n : NodeState) → IsWhole n → IsWhole (runs k n).0
unfolding runs
runs-whole zero n whole = whole
runs-whole (suc k) n whole =
    by (node_answered (happens Run n)) (node_left_by n (happens Run n)) (stays_whole Run n whole)
    (runs-whole k (node_left_by n (happens Run n)) (stays_whole Run n whole))
  where
    by : (a : Result Emitted StepFault) (n' : NodeState) → IsWhole n' → IsWhole (runs k n').0
        → IsWhole (followed (λ m. runs k m) a n').0
    by (Ok e) n' here there = on (is_nothing e.mark)
      where
        on : (b : Bool) → IsWhole (cond b (behind 1 (runs k n')) (n', ends_with (Some (Ok e)))).0
        on true = there
        on false = here
    by (Err f) n' here there = here

not_broken : (b : Option Break) → is_some b ≡ false → b ≡ None
not_broken None e = refl
not_broken (Some b) e = cc

-- a row of the processor of a node that is not frozen is one of the node
pub row-lifted : (most : ℕ) (n n0 n' : NodeState) (m : Machine) (row : RanMany)
    (last : Option (Result Emitted StepFault))
    → n0 ≡ n → n0.role ≡ Processor → is_some n0.broken ≡ false → (m, row) ≡ steps.row most n0.machine
    → n' ≡ last_left row.last (with_machine m n0) → last ≡ option_map run_told row.last
    → (n', record { count = row.count; last = last }) ≡ runs most n
row-lifted most n n0 n' m row last same role whole e l t =
    let ends : (n', record { count = row.count; last = last }) ≡ lifted n0 (m, row) = rw (l, t) refl in
    ends ∙ ap (λ (x : Machine × RanMany). lifted n0 x) e ∙ sym (runs-row most n0 role (not_broken n0.broken whole))
    ∙ ap (λ (n : NodeState). runs most n) same
