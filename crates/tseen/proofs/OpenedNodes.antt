-- The processes of a node before the first step.
use Rattle.std.proofs.Common.{◌≡◌, ◌≢◌, ℕ, zero, suc, ◌<◌, refl, sym, ap, ◌∙◌, subst, List, [], ◌∷◌, ◌++◌}
use Rattle.std.proofs.Common.{length, get_or, Bool, true, false, Option, Some, None, ◌⊎◌, inl, inr, arith, IfSome}
use Rattle.std.proofs.Common.{◌==◌}
use Rattle.std.proofs.Common.{cond, AllPairs, Contains, count_by, pos}
use Rattle.std.specs.Prelude.{slice_get}
use Rattle.std.specs.List.{position_or_len}
use Rattle.std.proofs.lemmas.Bool.{eq-eqb, ne_eqb}
use Rattle.std.proofs.lemmas.List.Sums.{position_or_len_is, sum_by-append}
use Rattle.std.proofs.lemmas.List.{append-nil, length-append}
use Rattle.std.proofs.lemmas.List.Elements.{All-contains}
use Rattle.std.proofs.lemmas.List.Folds.{list_any_at}
use Rattle.std.proofs.lemmas.Option.{slice_get_within, get_or_from_slice_get, slice_get-get_or}
use Rattle.tword.specs.Words.{word_below}
use Rattle.tword.specs.Stores.{word_at}
use Rattle.tproc.specs.Machine.{Control, Machine, workspace_of, priority_of}
use Rattle.tproc.specs.ProcessStatus.{is_among, queue, live}
use Rattle.tproc.specs.Queues.{iptr_word}
use Rattle.tproc.specs.Opening.{no_processes}
use Rattle.tplan.specs.declared.plan.Process.{Process}
use Rattle.tplan.specs.declared.plan.NodePlan.{NodePlan}
use Rattle.tplan.specs.declared.plan.Plan.{Plan}
use Rattle.tprocesses.specs.Places.{Place, Name, Root, Image, After, Standing, HasRun}
use Rattle.tprocesses.specs.Values.{Value, Stand, Absent, Rests, Context, Lent, IsStand, IsFlag, IsAmount}
use Rattle.tprocesses.specs.Standing.{fresh}
use Rattle.tprocesses.specs.Opening.{opening_state, of_node, stand_of, opened_stand, has_priority, lives}
use Rattle.tlink.specs.Roles.{Processor}
use Rattle.tnet.specs.Rendezvous.{Node}
use Rattle.tnet.specs.Building.{opening_node}
use Rattle.tseen.specs.Processes.{IsSeated, IsGone, HasFlags, ShowsProcesses}
use Rattle.tseen.specs.Seats.{Seat, Current, Interrupted, Queued, Waiting, is_taken}
use Rattle.tseen.proofs.Queued.{seats, seat_of, seated, HasProcess, sum_seats, length_seats}
use Rattle.tseen.proofs.Built.{queued}
use Rattle.tseen.proofs.Adding.{IsBuilt}

-- the descriptor of a process is this one
abbrev pub is_named : ℕ → Process → Bool
is_named process q = q.wdesc == process

-- the names of the processes of an image: a process that is queued is told by its place in the image
abbrev pub opened_name : ℕ → List Process → Seat → Name
opened_name n ds (Queued process) =
    record { node = n; root = Image (position_or_len (is_named process) ds); path = [] }
opened_name n ds _ = record { node = n; root = Image (length ds); path = [] }

-- a process of the image by its place
abbrev pub name_at : (node k : ℕ) → Name
name_at node k = record { node = node; root = Image k; path = [] }

-- a name at another node
abbrev pub named_at : ℕ → Name → Name
named_at k x = record { node = k; root = x.root; path = x.path }

-- a descriptor is its workspace and its priority
same_process : (a b : ℕ) → workspace_of a ≡ workspace_of b → priority_of a ≡ priority_of b → a ≡ b
same_process a b w p = omega (arith, w, p)

-- a process is the first with its descriptor
pub first_with : (ds : List Process) → AllPairs (λ q r. workspace_of q.wdesc ≢ workspace_of r.wdesc) ds → (k : ℕ)
    (q : Process) → slice_get ds k ≡ Some q → position_or_len (is_named q.wdesc) ds ≡ k
first_with ds apart k q e =
    position_or_len_is (is_named q.wdesc) ds k q (omega (arith, inside)) (λ j b.
    ne_eqb (get_or ds j q).wdesc q.wdesc (λ f.
    apart j k q b inside (ap workspace_of (f ∙ ap (λ (x : Process). x.wdesc) (sym there)))))
    (λ _. eq-eqb _ _ (ap (λ (x : Process). x.wdesc) there))
  where
    inside : k < length ds
    inside = slice_get_within ds k q e

    there : get_or ds k q ≡ q
    there = get_or_from_slice_get ds k q q e

module _ (p : Plan) (n : ℕ) (plan : NodePlan) (at : slice_get p.nodes n ≡ Some plan) (timeslice : ℕ)
    (start m : Machine) (b : IsBuilt start plan.memory plan.image.processes m)
    (empty : start.control ≡ no_processes timeslice plan.kind) where
  abbrev ds : List Process
  ds = plan.image.processes

  abbrev opened : Control
  opened = queued ds (no_processes timeslice plan.kind)

  pub control : m.control ≡ queued plan.image.processes (no_processes timeslice plan.kind)
  control = b.control ∙ ap (queued ds) empty

  abbrev s : Place → Value
  s = opening_state p

  abbrev node : Node
  node = opening_node Processor m

  -- what a plan says of its node
  pub of_node_is : {A : Type 0} (otherwise : A) (f : NodePlan → A) → of_node p n otherwise f ≡ f plan
  of_node_is {A} otherwise f = ap (λ (o : Option NodePlan). elim o as (λ _. A) [ Some q ↦ f q | None ↦ otherwise ]) at

  -- where the process of a name stands
  stands_image : (k : ℕ) → s (Standing (record { node = n; root = Image k; path = [] }))
      ≡ IsStand (opened_stand (slice_get ds k))
  stands_image k = ap (λ (x : Stand). IsStand x) (of_node_is Absent (stand_of (Image k) []))

  stands : (x : Name) → x.node ≡ n → s (Standing x) ≡ IsStand (stand_of x.root x.path plan)
  stands x home =
      ap (λ k. IsStand (of_node p k Absent (stand_of x.root x.path))) home
      ∙ ap (λ (y : Stand). IsStand y) (of_node_is Absent (stand_of x.root x.path))

  -- who is queued is of the image
  of_queue : (v w : ℕ) → v < 2 → is_among w (queue opened v) ≡ true → HasProcess ds v w
  of_queue zero w h k = seat_of 0 w ds k
  of_queue (suc v) w h k = let z : v ≡ 0 = omega (arith, h) in rw z (seat_of 1 w ds k)

  -- the context of a process of the image
  abbrev first_context : Process → Context
  first_context q = fresh (priority_of q.wdesc) (workspace_of q.wdesc) q.iptr

  -- a process of the image at its seat
  seat : (process : ℕ) (q : Process) → Contains ds q → q.wdesc ≡ process
      → IsSeated s n node (Queued process) (opened_name n ds (Queued process))
  seat process q c e =
      record {
        home = refl;
        stand = Rests (first_context q);
        stands = stands_image (position_or_len (is_named process) ds)
            ∙ ap (λ j. IsStand (opened_stand (slice_get ds j))) position
            ∙ ap (λ (o : Option Process). IsStand (opened_stand o)) there;
        fits = record {
          priority = ap priority_of e;
          wptr = ap workspace_of e;
          iptr = sym (All-contains (λ q. word_at m.store (word_below (workspace_of q.wdesc) iptr_word) ≡ q.iptr) ds q
              b.iptrs c) ∙ ap (λ d. word_at m.store (word_below (workspace_of d) iptr_word)) e;
          a = refl;
          b = refl;
          c = refl;
        };
        has_run = ap IsFlag (of_node_is false (has_priority (priority_of q.wdesc))
            ∙ list_any_at (λ r. priority_of r.wdesc == priority_of q.wdesc) ds c.0 q c.1
            (eq-eqb _ _ (ap (λ (r : Process). priority_of r.wdesc) c.2)));
      }
    where
      there : slice_get ds c.0 ≡ Some q
      there = slice_get-get_or ds c.0 q c.1 ∙ ap (λ (r : Process). Some r) c.2

      position : position_or_len (is_named process) ds ≡ c.0
      position = ap (λ d. position_or_len (is_named d) ds) (sym e) ∙ first_with ds b.distinct c.0 q there

  seated_at : (q : Seat) → is_taken m.control q ≡ true → IsSeated s n node q (opened_name n ds q)
  seated_at Current h = let k : false ≡ true = subst (λ (c : Control). is_taken c Current ≡ true) control h in cc
  seated_at Interrupted h =
      let k : false ≡ true = subst (λ (c : Control). is_taken c Interrupted ≡ true) control h in cc
  seated_at (Waiting process) h =
      let k : false ≡ true = subst (λ (c : Control). is_taken c (Waiting process) ≡ true) control h in cc
  seated_at (Queued process) h =
      let k : HasProcess ds (priority_of process) (workspace_of process) =
      of_queue (priority_of process) (workspace_of process) (omega arith)
      (subst (λ (c : Control). is_taken c (Queued process) ≡ true) control h) in
      seat process k.process k.there (same_process k.process.wdesc process k.workspace k.priority)

  -- each process of the image is queued
  in_queue : (v : ℕ) → v < 2 → (q : Process) → Contains ds q → priority_of q.wdesc ≡ v
      → is_among (workspace_of q.wdesc) (queue opened v) ≡ true
  in_queue zero h q c e =
      All-contains (λ q. priority_of q.wdesc ≡ 0 → is_among (workspace_of q.wdesc) (seats 0 ds) ≡ true) ds q
      (seated 0 ds) c e
  in_queue (suc v) h q c e =
      let z : v ≡ 0 = omega (arith, h) in
      All-contains (λ q. priority_of q.wdesc ≡ 1 → is_among (workspace_of q.wdesc) (seats 1 ds) ≡ true) ds q
      (seated 1 ds) c (omega (arith, e, z))

  abbrev HasPlace : Name → Type 0
  HasPlace x =
      IsGone s n x ⊎ ((q : Seat) × (is_taken m.control q ≡ true) × (opened_name n ds q ≡ x))

  place_of : (r : Root) (path : List ℕ) → HasPlace (record { node = n; root = r; path = path })
  place_of (After w i) path =
      inl (inl (ap (λ (x : Stand). IsStand x) (of_node_is Absent (stand_of (After w i) path))))
  place_of (Image k) (c ∷ cs) =
      inl (inl (ap (λ (x : Stand). IsStand x) (of_node_is Absent (stand_of (Image k) (c ∷ cs)))))
  place_of (Image k) [] = by (slice_get ds k) refl
    where
      by : (o : Option Process) → slice_get ds k ≡ o → HasPlace (record { node = n; root = Image k; path = [] })
      by None e = inl (inl (stands_image k ∙ ap (λ (o : Option Process). IsStand (opened_stand o)) e))
      by (Some q) e =
          inr (
            Queued q.wdesc,
            subst (λ (c : Control). is_taken c (Queued q.wdesc) ≡ true) (sym control)
                (in_queue (priority_of q.wdesc) (omega arith) q
                (k, slice_get_within ds k q e, get_or_from_slice_get ds k q q e) refl),
            ap (λ (j : ℕ). name_at n j) (first_with ds b.distinct k q e),
          )

  -- each process that is there has its seat
  has_place : (x : Name) → x.node ≡ n → HasPlace x
  has_place x home =
      subst (λ (y : Name). HasPlace y) (ap (λ k. named_at k x) (sym home)) (place_of x.root x.path)

  -- nothing is lent
  abbrev lent_in : Value → Option Lent
  lent_in (IsStand (Rests k)) = k.lent
  lent_in _ = None

  none_lent : (r : Root) (path : List ℕ) (k : Context) → IsStand (stand_of r path plan) ≡ IsStand (Rests k)
      → k.lent ≡ None
  none_lent (After w i) path k e = cc
  none_lent (Image j) (c ∷ cs) k e = cc
  none_lent (Image j) [] k e = by (slice_get ds j) e
    where
      by : (o : Option Process) → IsStand (opened_stand o) ≡ IsStand (Rests k) → k.lent ≡ None
      by None e = cc
      by (Some q) e = sym (ap lent_in e)

  -- the live processes are those of the image
  lives_are : live opened ≡ seats 0 ds ++ seats 1 ds
  lives_are = append-nil ((seats 0 ds ++ seats 1 ds) ++ []) ∙ append-nil (seats 0 ds ++ seats 1 ds)

  counted : (w : ℕ) → count_by (λ v. v == w) (live m.control) ≡ lives w plan
  counted w =
      ap (λ (c : Control). count_by (λ v. v == w) (live c)) control ∙ ap (count_by (λ v. v == w)) lives_are
      ∙ sum_by-append (λ v. cond (v == w) 1 0) (seats 0 ds) (seats 1 ds) ∙ sum_seats (λ v. cond (v == w) 1 0) ds

  many : length (live m.control) ≡ length ds
  many =
      ap (λ (c : Control). length (live c)) control ∙ ap length lives_are
      ∙ length-append (seats 0 ds) (seats 1 ds) ∙ length_seats ds

  pub processes_shown : ShowsProcesses s n (opened_name n ds) (λ _. None) node
  processes_shown =
      record {
        seated = seated_at;
        there = has_place;
        lent = λ x k t home e l.
            (let f : Some t ≡ None = sym l ∙ none_lent x.root x.path k (sym (stands x home) ∙ e) in cc);
        passed = λ l q e. cc;
        lives = λ w. ap (λ k. IsAmount (pos k)) (of_node_is 0 (lives w) ∙ sym (counted w));
        population = (
          length ds,
          ap (λ k. IsAmount (pos k)) (of_node_is 0 (λ q. length q.image.processes)),
          omega (arith, many),
        );
        interrupting = subst (λ (c : Control). IfSome c.interrupted (λ t. s (HasRun n 0) ≡ IsFlag true))
            (sym control) tt;
        flags = λ _. record {
          error = ap (λ (c : Control). IsFlag c.registers.error) (sym control);
          halting = ap (λ (c : Control). IsFlag c.registers.halt_on_error) (sym control);
        };
        kept_flags = λ _.
            subst (λ (c : Control). IfSome c.interrupted (λ t. HasFlags s n t.registers)) (sym control) tt;
      }
