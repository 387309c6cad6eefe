-- The processes of an image in the queues of their priorities.
use Rattle.std.proofs.Common.{◌≡◌, ℕ, ◌+◌, ◌<◌, refl, ap, ◌∙◌, List, [], ◌∷◌, ◌++◌, length, map, Bool, true, false}
use Rattle.std.proofs.Common.{cond}
use Rattle.std.proofs.Common.{zero, suc, slice_index_or, ◌==◌, ◌⊎◌, inl, inr, arith, All, filter, sum_by, Contains}
use Rattle.std.proofs.lemmas.Bool.{eq-eqb, ne_eqb, eqb-true, or_cases, or_right, cases_eq}
use Rattle.std.proofs.lemmas.List.{map-append}
use Rattle.std.proofs.lemmas.List.Elements.{filter-append, All-nil}
use Rattle.std.proofs.lemmas.List.Sums.{sum_by-cons}
use Rattle.tproc.specs.Machine.{workspace_of, priority_of}
use Rattle.tproc.specs.ProcessStatus.{is_among}
use Rattle.tplan.specs.declared.plan.Process.{Process}

-- the workspaces of the processes of a priority, in their order
abbrev pub seats : ℕ → List Process → List ℕ
seats v ds = map (λ q. workspace_of q.wdesc) (filter (λ q. priority_of q.wdesc == v) ds)

-- one more process of the priority, or of the other one
pub seats_joined : (v : ℕ) (ds : List Process) (q : Process) → priority_of q.wdesc ≡ v
    → seats v (ds ++ q ∷ []) ≡ seats v ds ++ workspace_of q.wdesc ∷ []
seats_joined v ds q e =
    ap (map (λ q. workspace_of q.wdesc)) (filter-append (λ q. priority_of q.wdesc == v) ds (q ∷ []))
    ∙ map-append (λ q. workspace_of q.wdesc) (filter (λ q. priority_of q.wdesc == v) ds)
    (filter (λ q. priority_of q.wdesc == v) (q ∷ []))
    ∙ rw (eq-eqb (priority_of q.wdesc) v e) refl

pub seats_same : (v : ℕ) (ds : List Process) (q : Process) → (priority_of q.wdesc ≡ v → ⊥)
    → seats v (ds ++ q ∷ []) ≡ seats v ds ++ []
seats_same v ds q e =
    ap (map (λ q. workspace_of q.wdesc)) (filter-append (λ q. priority_of q.wdesc == v) ds (q ∷ []))
    ∙ map-append (λ q. workspace_of q.wdesc) (filter (λ q. priority_of q.wdesc == v) ds)
    (filter (λ q. priority_of q.wdesc == v) (q ∷ []))
    ∙ rw (ne_eqb (priority_of q.wdesc) v e) refl

-- a process of the image has this workspace and this priority
pub record HasProcess (ds : List Process) (v w : ℕ) : Type 0 where
  pub process : Process
  pub there : Contains ds process
  pub workspace : workspace_of process.wdesc ≡ w
  pub priority : priority_of process.wdesc ≡ v

has_later : (d : Process) (ds : List Process) (v w : ℕ) → HasProcess ds v w → HasProcess (d ∷ ds) v w
has_later d ds v w h =
    record {
      process = h.process;
      there = (suc h.there.0, (omega (arith, h.there.1)), h.there.2);
      workspace = h.workspace;
      priority = h.priority;
    }

-- who is in the queue is of the image
pub seat_of : (v w : ℕ) (ds : List Process) → is_among w (seats v ds) ≡ true → HasProcess ds v w
seat_of v w [] h = cc
seat_of v w (d ∷ ds) h = by (priority_of d.wdesc == v) refl h (seat_of v w ds)
  where
    here : (priority_of d.wdesc == v) ≡ true → (is_among w (seats v ds) ≡ true → HasProcess ds v w)
        → ((workspace_of d.wdesc == w) ≡ true) ⊎ (is_among w (seats v ds) ≡ true) → HasProcess (d ∷ ds) v w
    here e rest (inl k) =
        record {
          process = d;
          there = (0, (omega arith), refl);
          workspace = eqb-true _ _ k;
          priority = eqb-true _ _ e;
        }
    here e rest (inr k) = has_later d ds v w (rest k)

    by : (b : Bool) → (priority_of d.wdesc == v) ≡ b
        → is_among w (map (λ q. workspace_of q.wdesc) (cond b (d ∷ filter (λ q. priority_of q.wdesc == v) ds)
        (filter (λ q. priority_of q.wdesc == v) ds))) ≡ true
        → (is_among w (seats v ds) ≡ true → HasProcess ds v w) → HasProcess (d ∷ ds) v w
    by true e k rest = here e rest (or_cases _ _ k)
    by false e k rest = has_later d ds v w (rest k)

-- and who is of the image is in the queue of its priority
pub seated : (v : ℕ) (ds : List Process) → All (λ q. priority_of q.wdesc ≡ v
    → is_among (workspace_of q.wdesc) (seats v ds) ≡ true) ds
seated v [] = All-nil (λ q. priority_of q.wdesc ≡ v → is_among (workspace_of q.wdesc) (seats v []) ≡ true)
seated v (d ∷ ds) = λ k x b. by k x b (seated v ds)
  where
    more : (w : ℕ) → is_among w (seats v ds) ≡ true → is_among w (seats v (d ∷ ds)) ≡ true
    more w h = at (priority_of d.wdesc == v)
      where
        at : (b : Bool) → is_among w (map (λ q. workspace_of q.wdesc)
            (cond b (d ∷ filter (λ q. priority_of q.wdesc == v) ds) (filter (λ q. priority_of q.wdesc == v) ds)))
            ≡ true
        at true = or_right _ _ h
        at false = h

    first : priority_of d.wdesc ≡ v → is_among (workspace_of d.wdesc) (seats v (d ∷ ds)) ≡ true
    first e = rw (eq-eqb (priority_of d.wdesc) v e, eq-eqb (workspace_of d.wdesc) (workspace_of d.wdesc) refl) refl

    by : (k : ℕ) (x : Process) → k < length (d ∷ ds)
        → All (λ q. priority_of q.wdesc ≡ v → is_among (workspace_of q.wdesc) (seats v ds) ≡ true) ds
        → priority_of (slice_index_or (d ∷ ds) k x).wdesc ≡ v
        → is_among (workspace_of (slice_index_or (d ∷ ds) k x).wdesc) (seats v (d ∷ ds)) ≡ true
    by zero x b rest e = first e
    by (suc k) x b rest e = more _ (rest k x (omega arith) e)

-- the first process is in the queue of its priority alone
first_seat : (v : ℕ) (d : Process) (ds : List Process) → priority_of d.wdesc ≡ v
    → seats v (d ∷ ds) ≡ workspace_of d.wdesc ∷ seats v ds
first_seat v d ds e = rw (eq-eqb (priority_of d.wdesc) v e) refl

no_seat : (v : ℕ) (d : Process) (ds : List Process) → (priority_of d.wdesc ≡ v → ⊥) → seats v (d ∷ ds) ≡ seats v ds
no_seat v d ds e = rw (ne_eqb (priority_of d.wdesc) v e) refl

-- either way, a sum over both queues has one more part
sum_joined : (f : ℕ → ℕ) (d : Process) (ds : List Process)
    → sum_by f (seats 0 (d ∷ ds)) + sum_by f (seats 1 (d ∷ ds))
    ≡ f (workspace_of d.wdesc) + (sum_by f (seats 0 ds) + sum_by f (seats 1 ds))
sum_joined f d ds = by (cases_eq (priority_of d.wdesc) 0)
  where
    by : (priority_of d.wdesc ≡ 0) ⊎ (priority_of d.wdesc ≡ 0 → ⊥)
        → sum_by f (seats 0 (d ∷ ds)) + sum_by f (seats 1 (d ∷ ds))
        ≡ f (workspace_of d.wdesc) + (sum_by f (seats 0 ds) + sum_by f (seats 1 ds))
    by (inl e) =
        rw (first_seat 0 d ds e, no_seat 1 d ds (λ k. omega (arith, e, k)))
        (omega (arith, sum_by-cons f (workspace_of d.wdesc) (seats 0 ds)))
    by (inr e) =
        rw (no_seat 0 d ds e, first_seat 1 d ds (omega (arith, e)))
        (omega (arith, sum_by-cons f (workspace_of d.wdesc) (seats 1 ds)))

-- a sum over both queues is one over the processes
pub sum_seats : (f : ℕ → ℕ) (ds : List Process)
    → sum_by f (seats 0 ds) + sum_by f (seats 1 ds) ≡ sum_by (λ q. f (workspace_of q.wdesc)) ds
sum_seats f [] = refl
sum_seats f (d ∷ ds) =
    omega (arith, sum_joined f d ds, sum_seats f ds, sum_by-cons (λ q. f (workspace_of q.wdesc)) d ds)

-- as many are there
pub length_seats : (ds : List Process) → length (seats 0 ds) + length (seats 1 ds) ≡ length ds
length_seats [] = refl
length_seats (d ∷ ds) = by (length_seats ds) (cases_eq (priority_of d.wdesc) 0)
  where
    by : length (seats 0 ds) + length (seats 1 ds) ≡ length ds
        → (priority_of d.wdesc ≡ 0) ⊎ (priority_of d.wdesc ≡ 0 → ⊥)
        → length (seats 0 (d ∷ ds)) + length (seats 1 (d ∷ ds)) ≡ length (d ∷ ds)
    by rest (inl e) =
        rw (first_seat 0 d ds e, no_seat 1 d ds (λ k. omega (arith, e, k))) (omega (arith, rest))
    by rest (inr e) =
        rw (no_seat 0 d ds e, first_seat 1 d ds (omega (arith, e))) (omega (arith, rest))
