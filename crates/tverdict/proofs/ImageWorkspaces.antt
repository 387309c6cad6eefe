-- The nodes of a plan without a fault may open: no two processes of an image have one workspace.
use Rattle.std.proofs.Common.{◌≡◌, ◌≤◌, ◌%◌, ℕ, zero, suc, refl, sym, ap, ◌∙◌, subst, Bool, true, false, List, [], ◌∷◌}
use Rattle.std.proofs.Common.{◌++◌, arith, get_or, length, map, not, Option, Some, None, Result, Ok, Err}
use Rattle.std.specs.Prelude.{◌==◌, ◌||◌, nat_lt, option_to_list, slice_get}
use Rattle.std.proofs.lemmas.Bool.{eq-eqb, eqb-true, false≢true, ltb-false, not-true, or_parts}
use Rattle.std.proofs.lemmas.List.Folds.{list_any-append}
use Rattle.std.proofs.lemmas.Option.{same_Some}
use Rattle.tword.specs.declared.breaks.Break.{Break}
use Rattle.tword.specs.Accesses.{IsMemorySize}
use Rattle.tword.specs.Actions.{answer, run, run_from, with_saved_word, ◌>>=◌}
use Rattle.tword.specs.Claims.{Claims, saving}
use Rattle.tword.specs.Limits.{largest_memory, most_nodes, smallest_memory}
use Rattle.tword.specs.Stores.{Store}
use Rattle.tword.proofs.Leads.{passed, met}
use Rattle.tproc.specs.Machine.{Control, Machine, claims_of, priority_of, workspace_of}
use Rattle.tproc.specs.Opening.{added}
use Rattle.tproc.specs.ProcessStatus.{current_process, interrupted_process, is_among, is_live, queue}
use Rattle.tproc.specs.Queues.{add_process, admit, appended, enqueue, iptr_word, last_of, link_from, link_word}
use Rattle.tproc.proofs.Leaving.{added-gives}
use Rattle.tplan.specs.declared.plan.NodePlan.{NodePlan}
use Rattle.tplan.specs.declared.plan.Plan.{Plan}
use Rattle.tplan.specs.declared.plan.Process.{Process}
use Rattle.tnet.specs.Building.{added_from, added_rest, bad_process, built_machine, fault_of, is_bad_size, node_count}
use Rattle.tnet.specs.Building.{too_many}
use Rattle.tnet.proofs.OpenedPlans.{faultless}
use Rattle.tcertify.specs.NodeOpened.{HaveOwnWorkspaces}
use Rattle.tverdict.specs.Opening.{CanOpen}

-- the control that a process leaves that is linked behind a queue
linked_control : (process : ℕ) (m : Control) (c : Claims) (o : Option ℕ) (old s : Store) (m' : Control) (t : Store)
    → run_from (link_from o (workspace_of process)
    >>= (λ _. answer (appended (workspace_of process) (priority_of process) m))) old c s ≡ Ok (m', t)
    → m' ≡ appended (workspace_of process) (priority_of process) m
linked_control process m c None old s m' t e =
    let p : ◌≡◌ {A = Control × Store} (appended (workspace_of process) (priority_of process) m, s) (m', t) = cc in
    sym (ap (λ (z : Control × Store). z.0) p)
linked_control process m c (Some last) old s m' t e =
    let p : ◌≡◌ {A = Control × Store} (
      appended (workspace_of process) (priority_of process) m,
      with_saved_word s c last link_word (workspace_of process),
    ) (m', t) = cc in
    sym (ap (λ (z : Control × Store). z.0) p)

-- a process that is let in was not live, and comes behind those of its priority
record IsLetIn (process : ℕ) (n n' : Machine) : Type 0 where
  new : is_live n.control (workspace_of process) ≡ false
  control : n'.control ≡ appended (workspace_of process) (priority_of process) n.control

after : (process iptr : ℕ) (n : Machine) (m : Control) (t : Store)
    → run (add_process process iptr n.control) n.store (claims_of n.control) ≡ Ok (m, t)
    → IsLetIn process n (record { control = m; store = t })
unfolding admit enqueue
after process iptr n m t e =
    let a = passed _ _ _ e in
    let b = passed _ _ _ a.1 in
    let d = passed _ _ _ b.1 in
    let f = passed _ _ _ d.1 in
    let c : Claims = saving (workspace_of process) (claims_of n.control) in
    record {
      new = not-true _ (met _ _ b.0);
      control = linked_control process n.control c (last_of (queue n.control (priority_of process))) n.store
          (with_saved_word n.store c (workspace_of process) iptr_word iptr) m t f.1;
    }

let_in : (process iptr : ℕ) (n n' : Machine) → added process iptr n ≡ Ok n' → IsLetIn process n n'
let_in process iptr n n' h =
    added-gives (λ (m : Machine). IsLetIn process n m) n process iptr n' (λ m t e. after process iptr n m t e) h

-- who is live, by where it is
abbrev running : Control → List ℕ
running m =
    map workspace_of (option_to_list (current_process m)) ++ map workspace_of (option_to_list (interrupted_process m))

abbrev waiting : Control → List ℕ
waiting m = map (λ w. workspace_of w.process) m.waiting

live_by : (m : Control) (v : ℕ) → is_live m v
    ≡ (((is_among v m.high || is_among v m.low) || is_among v (waiting m)) || is_among v (running m))
live_by m v =
    list_any-append (λ w. w == v) ((m.high ++ m.low) ++ waiting m) (running m)
    ∙ ap (λ (b : Bool). b || is_among v (running m)) (list_any-append (λ w. w == v) (m.high ++ m.low) (waiting m)
    ∙ ap (λ (b : Bool). b || is_among v (waiting m)) (list_any-append (λ w. w == v) m.high m.low))

-- one more among the first, or the second
in_first : (a b c d x : Bool) → (((a || b) || c) || d) ≡ true → ((((a || x) || b) || c) || d) ≡ true
in_first true b c d x h = refl
in_first false b c d true h = refl
in_first false b c d false h = h

in_second : (a b c d x : Bool) → (((a || b) || c) || d) ≡ true → (((a || (b || x)) || c) || d) ≡ true
in_second true b c d x h = refl
in_second false true c d x h = refl
in_second false false c d true h = refl
in_second false false c d false h = h

now_first : (a b c d x : Bool) → x ≡ true → ((((a || x) || b) || c) || d) ≡ true
now_first true b c d x h = refl
now_first false b c d true h = refl
now_first false b c d false h = absurd (false≢true h)

now_second : (a b c d x : Bool) → x ≡ true → (((a || (b || x)) || c) || d) ≡ true
now_second true b c d x h = refl
now_second false true c d x h = refl
now_second false false c d true h = refl
now_second false false c d false h = absurd (false≢true h)

-- one more is alone in a list
alone : (w v : ℕ) → is_among v (w ∷ []) ≡ (w == v)
alone w v = by (w == v)
  where
    by : (b : Bool) → (b || false) ≡ b
    by true = refl
    by false = refl

-- who was live is live still, and the new one is
still_live : (w p v : ℕ) (m : Control) → is_live m v ≡ true → is_live (appended w p m) v ≡ true
still_live w zero v m h =
    live_by (appended w zero m) v
    ∙ ap (λ (b : Bool). ((b || is_among v m.low) || is_among v (waiting m)) || is_among v (running m))
    (list_any-append (λ u. u == v) m.high (w ∷ []))
    ∙ in_first (is_among v m.high) (is_among v m.low) (is_among v (waiting m)) (is_among v (running m))
    (is_among v (w ∷ [])) (sym (live_by m v) ∙ h)
still_live w (suc p) v m h =
    live_by (appended w (suc p) m) v
    ∙ ap (λ (b : Bool). ((is_among v m.high || b) || is_among v (waiting m)) || is_among v (running m))
    (list_any-append (λ u. u == v) m.low (w ∷ []))
    ∙ in_second (is_among v m.high) (is_among v m.low) (is_among v (waiting m)) (is_among v (running m))
    (is_among v (w ∷ [])) (sym (live_by m v) ∙ h)

now_live : (w p : ℕ) (m : Control) → is_live (appended w p m) w ≡ true
now_live w zero m =
    live_by (appended w zero m) w
    ∙ ap (λ (b : Bool). ((b || is_among w m.low) || is_among w (waiting m)) || is_among w (running m))
    (list_any-append (λ u. u == w) m.high (w ∷ []))
    ∙ now_first (is_among w m.high) (is_among w m.low) (is_among w (waiting m)) (is_among w (running m))
    (is_among w (w ∷ [])) (alone w w ∙ eq-eqb w w refl)
now_live w (suc p) m =
    live_by (appended w (suc p) m) w
    ∙ ap (λ (b : Bool). ((is_among w m.high || b) || is_among w (waiting m)) || is_among w (running m))
    (list_any-append (λ u. u == w) m.low (w ∷ []))
    ∙ now_second (is_among w m.high) (is_among w m.low) (is_among w (waiting m)) (is_among w (running m))
    (is_among w (w ∷ [])) (alone w w ∙ eq-eqb w w refl)

-- what is not so where a consequence is not so
fails : (a b : Bool) → (a ≡ true → b ≡ true) → b ≡ false → a ≡ false
fails true b h e = absurd (false≢true (sym e ∙ h refl))
fails false b h e = refl

-- processes that were added one after another were not live before, and no two have one workspace
record WereNew (n : Machine) (ps : List Process) : Type 0 where
  new : (k : ℕ) (q : Process) → slice_get ps k ≡ Some q → is_live n.control (workspace_of q.wdesc) ≡ false
  own : HaveOwnWorkspaces ps

were_new : (place : ℕ) (ps : List Process) (n m : Machine) → added_from place ps n ≡ Ok m → WereNew n ps
were_new place [] n m h = record { new = λ k q there. cc; own = λ i j x y at there same. cc }
were_new place (p ∷ ps) n m h = by (added p.wdesc p.iptr n) refl (λ k e. were_new (suc place) ps k m e) h
  where
    first : (k : Machine) → added p.wdesc p.iptr n ≡ Ok k → WereNew k ps → WereNew n (p ∷ ps)
    first k e rest = record { new = new; own = own }
      where
        l : IsLetIn p.wdesc n k
        l = let_in p.wdesc p.iptr n k e

        others : (j : ℕ) (q : Process) → slice_get ps j ≡ Some q → is_live n.control (workspace_of q.wdesc) ≡ false
        others j q there =
            fails (is_live n.control (workspace_of q.wdesc)) (is_live k.control (workspace_of q.wdesc))
            (λ h. ap (λ (c : Control). is_live c (workspace_of q.wdesc)) l.control
            ∙ still_live (workspace_of p.wdesc) (priority_of p.wdesc) (workspace_of q.wdesc) n.control h)
            (rest.new j q there)

        new : (j : ℕ) (q : Process) → slice_get (p ∷ ps) j ≡ Some q → is_live n.control (workspace_of q.wdesc) ≡ false
        new zero q there =
            subst (λ (r : Process). is_live n.control (workspace_of r.wdesc) ≡ false) (same_Some p q there) l.new
        new (suc j) q there = others j q there

        apart : (j : ℕ) (q : Process) → slice_get ps j ≡ Some q → workspace_of p.wdesc ≡ workspace_of q.wdesc → ⊥
        apart j q there same =
            false≢true (sym (rest.new j q there)
            ∙ ap (λ (c : Control). is_live c (workspace_of q.wdesc)) l.control
            ∙ ap (λ (w : ℕ). is_live (appended (workspace_of p.wdesc) (priority_of p.wdesc) n.control) w) (sym same)
            ∙ now_live (workspace_of p.wdesc) (priority_of p.wdesc) n.control)

        own : HaveOwnWorkspaces (p ∷ ps)
        own zero zero x y at there same = refl
        own zero (suc j) x y at there same =
            absurd (apart j y there (ap (λ (r : Process). workspace_of r.wdesc) (same_Some p x at) ∙ same))
        own (suc i) zero x y at there same =
            absurd (apart i x at (ap (λ (r : Process). workspace_of r.wdesc) (same_Some p y there) ∙ sym same))
        own (suc i) (suc j) x y at there same = ap suc (rest.own i j x y at there same)

    by : (x : Result Machine Break) → added p.wdesc p.iptr n ≡ x
        → ((k : Machine) → added_from (suc place) ps k ≡ Ok m → WereNew k ps)
        → added_rest (added_from (suc place) ps) place x ≡ Ok m → WereNew n (p ∷ ps)
    by (Ok k) e rest f = first k e (rest k f)
    by (Err b) e rest f = cc

-- so those of an image
own_of : (timeslice : ℕ) (plan : NodePlan) → bad_process timeslice plan ≡ None
    → HaveOwnWorkspaces plan.image.processes
own_of timeslice plan none = by (built_machine timeslice plan) refl none
  where
    by : (x : Result Machine (ℕ × Break)) → built_machine timeslice plan ≡ x
        → ◌≡◌ {A = Option (ℕ × Break)} (elim x [ Ok m ↦ None | Err fault ↦ Some fault ]) None
        → HaveOwnWorkspaces plan.image.processes
    by (Ok m) e f = (were_new 0 plan.image.processes _ m e).own
    by (Err fault) e f = cc

-- a size that is not bad
good_memory : (plan : NodePlan) → is_bad_size plan ≡ false → IsMemorySize plan.kind plan.memory
good_memory plan h =
    let outer : ((nat_lt plan.memory smallest_memory || nat_lt (largest_memory plan.kind) plan.memory) ≡ false)
    × (not (plan.memory % 4 == 0) ≡ false) = or_parts _ _ h in
    let inner : (nat_lt plan.memory smallest_memory ≡ false) × (nat_lt (largest_memory plan.kind) plan.memory ≡ false) =
    or_parts _ _ outer.0 in
    (ltb-false _ _ inner.0, ltb-false _ _ inner.1, eqb-true _ _ (is (plan.memory % 4 == 0) outer.1))
  where
    is : (b : Bool) → not b ≡ false → b ≡ true
    is true e = refl
    is false e = absurd (false≢true (sym e))

few : (plan : Plan) → too_many plan ≡ false → length plan.nodes ≤ most_nodes
few plan h = omega (arith, ltb-false most_nodes (node_count plan) (or_parts _ _ (or_parts _ _ (or_parts _ _ h).0).0).0)

pub can_open : (plan : Plan) → fault_of plan ≡ None → CanOpen plan.nodes
can_open plan none =
    let good = faultless plan none in
    record {
      few = few plan good.few;
      sizes = λ k d low. good_memory (get_or plan.nodes k d) (good.sizes k d low);
      own = λ k d low. own_of plan.timeslice (get_or plan.nodes k d) (good.processes k d low);
    }
