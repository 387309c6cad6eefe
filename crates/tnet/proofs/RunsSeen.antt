-- Runs of a node in a row, as others see them.
use Rattle.std.proofs.Common.{◌≡◌, ◌∙◌, ℕ, zero, suc, ◌+◌, ◌<◌, ◌≤◌, inl, inr, refl, sym, ap, subst, Result, Ok, Err}
use Rattle.std.proofs.Common.{Option, Some, None, arith}
use Rattle.std.specs.Prelude.{IfSome}
use Rattle.tlink.specs.declared.event.NodeEvent.TheVariants.{Run}
use Rattle.tlink.specs.declared.event.Emitted.{Emitted}
use Rattle.tlink.specs.declared.event.Runs.{Runs}
use Rattle.tlink.specs.declared.event.StepFault.{StepFault}
use Rattle.tlink.specs.declared.event.StepFault.TheVariants.{NotEnabled, Frozen}
use Rattle.tlink.specs.Node.{NodeState}
use Rattle.tlink.specs.Events.{Answer, happens, node_answered, node_left_by}
use Rattle.tlink.specs.Runs as row
use Rattle.tplan.specs.declared.event.Note.TheVariants.{Halt, Freeze}
use Rattle.tplan.specs.declared.plan.End.{End}
use Rattle.tnet.specs.declared.station.RunsDone.{RunsDone}
use Rattle.tnet.specs.Stations.{answer_done, answer_note, last_told, runs_done, after_asked, one_more}
use Rattle.tnet.proofs.AnswerKinds as answers
use Rattle.tnet.proofs.AnswerKinds.{run_runs}

-- what the answer of the last run was: nothing more was enabled, or it told something
abbrev pub seen_last : ℕ → ℕ → Option (Result Emitted StepFault) → RunsDone
seen_last n k None = record { count = k; note = None }
seen_last n k (Some answer) = last_told n k answer

-- a row of runs, as others see it
abbrev pub seen : ℕ → NodeState × Runs → NodeState × RunsDone
seen n (node, r) = (node, seen_last n r.count r.last)

seen-behind : (n k : ℕ) (last : Option (Result Emitted StepFault)) (node : NodeState)
    → one_more (node, seen_last n k last) ≡ (node, seen_last n (1 + k) last)
seen-behind n k None node = refl
seen-behind n k (Some (Ok e)) node =
    ap (λ (c : ℕ). let r : RunsDone = record { count = c; note = Some (Halt n) } in (node, r)) (omega arith)
seen-behind n k (Some (Err NotEnabled)) node = refl
seen-behind n k (Some (Err (Frozen b))) node =
    ap (λ (c : ℕ). let r : RunsDone = record { count = c; note = Some (Freeze n b) } in (node, r)) (omega arith)

more-behind : (n : ℕ) (x : NodeState × Runs) → one_more (seen n x) ≡ seen n (row.behind 1 x)
more-behind n (node, r) = seen-behind n r.count r.last node

-- the two say the same
pub runs-seen : (n : ℕ) (far : ℕ → Option End) (k : ℕ) (node : NodeState)
    → runs_done n far k node ≡ seen n (row.runs k node)
unfolding runs_done row.runs
runs-seen n far zero node = refl
runs-seen n far (suc k) node = by (λ m. runs-seen n far k m) (happens Run node) (run_runs node)
  where
    by : ((m : NodeState) → runs_done n far k m ≡ seen n (row.runs k m)) → (a : Answer) → answers.Runs a
        → after_asked (λ m. runs_done n far k m)
        (answer_done (node_answered a) (answer_note n far None (node_answered a) (node_left_by node a)))
        (node_left_by node a)
        ≡ seen n (row.followed (λ m. row.runs k m) (node_answered a) (node_left_by node a))
    by on (Ok (m, e)) (p, inl q) = rw q (ap (λ x. one_more x) (on m) ∙ more-behind n (row.runs k m))
    by on (Ok (m, e)) (p, inr q) = rw q.0 refl
    by on (Err NotEnabled) h = refl
    by on (Err (Frozen b)) h = refl

-- there was room for the last run
pub runs-within : (k : ℕ) (node : NodeState)
    → IfSome (row.runs k node).1.last (λ _. (row.runs k node).1.count < k)
unfolding row.runs
runs-within zero node = tt
runs-within (suc k) node = by (λ m. runs-within k m) (happens Run node) (run_runs node)
  where
    by : ((m : NodeState) → IfSome (row.runs k m).1.last (λ _. (row.runs k m).1.count < k)) → (a : Answer)
        → answers.Runs a
        → let x : NodeState × Runs = row.followed (λ m. row.runs k m) (node_answered a) (node_left_by node a) in
        IfSome x.1.last (λ _. x.1.count < suc k)
    by on (Ok (m, e)) (p, inl q) = rw q (more (row.runs k m).1.last (row.runs k m).1.count (on m))
      where
        more : (last : Option (Result Emitted StepFault)) (c : ℕ) → IfSome last (λ _. c < k)
            → IfSome last (λ _. 1 + c < suc k)
        more None c h = tt
        more (Some a) c h = omega (arith, h)
    by on (Ok (m, e)) (p, inr q) = rw q.0 (omega arith)
    by on (Err f) h = omega arith

-- what is told of a row that was done
pub runs-told : (n : ℕ) (far : ℕ → Option End) (most : ℕ) (node node' : NodeState) (r : Runs)
    (last : Option (Result Emitted StepFault)) (told : RunsDone)
    → (node', r) ≡ row.runs most node → r.last ≡ last → told ≡ seen_last n r.count last
    → (node', told) ≡ runs_done n far most node
runs-told n far most node node' r last told e l t =
    ap (λ (d : RunsDone). (node', d))
    (t ∙ ap (λ (o : Option (Result Emitted StepFault)). seen_last n r.count o) (sym l))
    ∙ ap (λ (x : NodeState × Runs). seen n x) e ∙ sym (runs-seen n far most node)

pub room_for_last : (most : ℕ) (node node' : NodeState) (r : Runs) (last : Result Emitted StepFault)
    → (node', r) ≡ row.runs most node → r.last ≡ Some last → r.count < most
room_for_last most node node' r last e l =
    let P : NodeState × Runs → Type 0 = λ x. IfSome x.1.last (λ _. x.1.count < most) in
    let h : IfSome r.last (λ _. r.count < most) = subst P (sym e) (runs-within most node) in
    rw l at h

-- a row has no more runs than were asked for
pub done-within : (n : ℕ) (far : ℕ → Option End) (k : ℕ) (node : NodeState) → (runs_done n far k node).1.count ≤ k
unfolding runs_done
done-within n far zero node = omega arith
done-within n far (suc k) node = by (λ m. done-within n far k m) (happens Run node) (run_runs node)
  where
    by : ((m : NodeState) → (runs_done n far k m).1.count ≤ k) → (a : Answer) → answers.Runs a
        → (after_asked (λ m. runs_done n far k m)
        (answer_done (node_answered a) (answer_note n far None (node_answered a) (node_left_by node a)))
        (node_left_by node a)).1.count
        ≤ suc k
    by on (Ok (m, e)) (none, inl q) = rw q (omega (arith, on m))
    by on (Ok (m, e)) (none, inr (q, rests)) = rw q (omega arith)
    by on (Err NotEnabled) h = omega arith
    by on (Err (Frozen b)) h = omega arith

pub count-within : (n : ℕ) (far : ℕ → Option End) (k : ℕ) (node node' : NodeState) (row : RunsDone)
    → (node', row) ≡ runs_done n far k node → row.count ≤ k
count-within n far k node node' row e =
    let same : row.count ≡ (runs_done n far k node).1.count = ap (λ (x : NodeState × RunsDone). x.1.count) e in
    omega (arith, same, done-within n far k node)
