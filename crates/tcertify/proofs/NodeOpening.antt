-- A node before the first step: its processes come one after another.
use Rattle.std.proofs.Common.{◌≡◌, ◌+◌, ◌*◌, ℕ, zero, suc, refl, sym, ap, ◌∙◌, Bool, true, false, List, [], ◌∷◌, ◌++◌}
use Rattle.std.proofs.Common.{Option, Some, None, Result, Ok, Err, length, length-append, pos, eq-eqb, cond, add-zero}
use Rattle.std.specs.Prelude.{◌==◌, ◌&&◌, ◌||◌, slice_get, unwrap_or, if◌then◌else◌}
use Rattle.std.specs.List.{count_by, list_any}
use Rattle.std.proofs.lemmas.Bool.{eqb-true}
use Rattle.std.proofs.lemmas.List.Sums.{sum_by-append}
use Rattle.tword.specs.Words.{most_neg}
use Rattle.tword.specs.declared.breaks.Break.TheVariants.{AlreadyLive}
use Rattle.tproc.specs.declared.channels.Side as machine
use Rattle.tproc.specs.declared.channels.Side.TheVariants as machines
use Rattle.tproc.specs.Machine.{priority_of, workspace_of}
use Rattle.tplan.specs.declared.plan.NodePlan.{NodePlan}
use Rattle.tplan.specs.declared.plan.Plan.{Plan}
use Rattle.tplan.specs.declared.plan.Process.{Process}
use Rattle.tprocesses.specs.Changes.{Add, Put, Raise, apply}
use Rattle.tprocesses.specs.Opening.{has_priority, lives, of_node, opened_stand, opened_word, opening_state, stand_of}
use Rattle.tprocesses.specs.Parts.{Breaks, Doing, HasNoStep, Reason, change, require, ◌>>◌}
use Rattle.tprocesses.specs.Places.{Place, Name, Root, Image, After, WordAt, Sending, Standing, Ports, Half, LinkHalf}
use Rattle.tprocesses.specs.Places.{Error, HaltOnError, Life, Successions, Messages, Kept, Population, HasRun}
use Rattle.tprocesses.specs.Places.{FlagChanged, Unfinished}
use Rattle.tprocesses.specs.Places.{same_name}
use Rattle.tprocesses.specs.Standing.{comes, fresh, is_absent, stands}
use Rattle.tprocesses.specs.Touching.{Site, is_zero}
use Rattle.tprocesses.specs.Values.{Absent, ArePorts, Context, Empty, IsAmount, IsCount, IsFlag, IsHalf, IsLink}
use Rattle.tprocesses.specs.Values.{IsStand}
use Rattle.tprocesses.specs.Values.{IsWord, Nobody, Rests}
use Rattle.tprocesses.specs.Values.{Stand, Value, amount_in, stand_in}
use Rattle.tcertify.specs.declared.channel.LinkHalf as half
use Rattle.tcertify.specs.declared.node.Node.{Node}
use Rattle.tcertify.specs.declared.side.Side.TheVariants.{Input, Output}
use Rattle.tcertify.specs.declared.stored.StoredWord.{StoredWord}
use Rattle.tcertify.specs.Boards.{has_run_at}
use Rattle.tcertify.specs.Channels.{half_among, link_among, link_of, link_or_empty, unfinished_among}
use Rattle.tcertify.specs.Lives.{lives_at, successors_at}
use Rattle.tcertify.specs.NodeOpened.{HasNothing}
use Rattle.tcertify.specs.Nodes.{names, node_at}
use Rattle.tcertify.specs.Processes.{ports_among, stand_among}
use Rattle.tcertify.specs.Running.{State, changed, run_part}
use Rattle.tcertify.specs.Words.{sending_or, word_or}
use Rattle.tcertify.proofs.Keeping.{get_pushed}
use Rattle.tcertify.proofs.Telling.{same_name-self, same_name-true}

-- a node's plan with these processes in its image
abbrev pub with_processes : List Process → NodePlan → NodePlan
with_processes ps plan = record plan { image = record plan.image { processes = ps } }

-- the opening of a plan, except that one node has these processes
abbrev pub opening_with : Plan → ℕ → NodePlan → List Process → State
opening_with p n plan ps (Standing x) =
    if n == x.node then IsStand (stand_of x.root x.path (with_processes ps plan)) else opening_state p (Standing x)
opening_with p n plan ps (Life m w) =
    if n == m then IsAmount (pos (lives w (with_processes ps plan))) else opening_state p (Life m w)
opening_with p n plan ps (Population m) = if n == m then IsAmount (pos (length ps)) else opening_state p (Population m)
opening_with p n plan ps (HasRun m q) =
    if n == m then IsFlag (has_priority q (with_processes ps plan)) else opening_state p (HasRun m q)
opening_with p n plan ps q = opening_state p q

-- a choice between what is the same
same_if : (t : Bool) (u v : Value) → (t ≡ true → u ≡ v) → (if t then u else v) ≡ v
same_if true u v e = e refl
same_if false u v e = refl

-- two choices by one test
alike : (t : Bool) (u v w : Value) → (t ≡ true → u ≡ v) → (if t then u else w) ≡ (if t then v else w)
alike true u v w e = e refl
alike false u v w e = refl

-- one more in a list
pub get_else : {X : Type 0} (xs : List X) (x : X) (k : ℕ) → (length xs ≡ k → ⊥)
    → slice_get (xs ++ x ∷ []) k ≡ slice_get xs k
get_else [] x zero ne = absurd (ne refl)
get_else [] x (suc k) ne = refl
get_else (y ∷ ys) x zero ne = refl
get_else (y ∷ ys) x (suc k) ne = get_else ys x k (λ e. ne (ap suc e))

any_more : {X : Type 0} (test : X → Bool) (xs : List X) (x : X)
    → list_any test (xs ++ x ∷ []) ≡ (list_any test xs || test x)
any_more test [] x = by (test x)
  where
    by : (b : Bool) → (b || false) ≡ b
    by true = refl
    by false = refl
any_more test (y ∷ ys) x = by (test y) (any_more test ys x)
  where
    by : (b : Bool) → list_any test (ys ++ x ∷ []) ≡ (list_any test ys || test x)
        → (b || list_any test (ys ++ x ∷ [])) ≡ ((b || list_any test ys) || test x)
    by true h = refl
    by false h = h

or_true : (b : Bool) → (b || true) ≡ true
or_true true = refl
or_true false = refl

or_false : (b : Bool) → (b || false) ≡ b
or_false true = refl
or_false false = refl

count_more : {X : Type 0} (test : X → Bool) (xs : List X) (x : X) (b : Bool) → test x ≡ b
    → count_by test (xs ++ x ∷ []) ≡ (if b then count_by test xs + 1 else count_by test xs)
count_more test xs x true e =
    sum_by-append (λ y. cond (test y) 1 0) xs (x ∷ [])
    ∙ ap (λ (c : Bool). count_by test xs + (0 + cond c 1 0)) e
count_more test xs x false e =
    sum_by-append (λ y. cond (test y) 1 0) xs (x ∷ [])
    ∙ ap (λ (c : Bool). count_by test xs + (0 + cond c 1 0)) e ∙ add-zero (count_by test xs)

-- names of processes of an image that are apart
number_apart : (n i k : ℕ)
    → same_name (record { node = n; root = Image i; path = [] }) (record { node = n; root = Image k; path = [] }) ≡
    false
    → i ≡ k → ⊥
number_apart n i k apart e =
    let same : same_name (record { node = n; root = Image i; path = [] }) (record {
      node = n;
      root = Image k;
      path =
          [];
    })
    ≡ true =
    ap (λ (j : ℕ). same_name (record { node = n; root = Image i; path = [] }) (record {
      node = n;
      root = Image j;
      path = [];
    }))
    (sym e) ∙ same_name-self (record { node = n; root = Image i; path = [] }) in cc

-- a process that came left its marks
module _ (s : Site) (x : Name) (c : Context) (stood : Context → Stand) (before after : State) where
  abbrev with_life : State
  with_life = changed (Life s.number c.wptr) (Add (pos 1)) before

  abbrev pub left : State
  left =
      changed (HasRun s.number c.priority) Raise
      (changed (Population s.number) (Add (pos 1)) (changed (Standing x) (Put (IsStand (stood c))) with_life))

  abbrev last_parts : Doing
  last_parts =
      stands x (stood c) >> (change (Population s.number) (Add (pos 1)) >> change (HasRun s.number c.priority) Raise)

  by_stand : (b : Bool) → run_part (require b HasNoStep >> last_parts) with_life ≡ (Ok tt, after) → left ≡ after
  by_stand true e = ap (λ (o : Result (Unit {0}) Reason × State). o.1) e
  by_stand false e =
      let wrong : ◌≡◌ {A = Result (Unit {0}) Reason} (Err HasNoStep) (Ok tt) =
      ap (λ (o : Result (Unit {0}) Reason × State). o.0) e in cc

  by_life : (b : Bool) (rest : Doing)
      → (run_part rest with_life ≡ (Ok tt, after) → left ≡ after)
      → run_part (require b (Breaks AlreadyLive) >> (change (Life s.number c.wptr) (Add (pos 1)) >> rest)) before
      ≡ (Ok tt, after) → left ≡ after
  by_life true rest h e = h e
  by_life false rest h e =
      let wrong : ◌≡◌ {A = Result (Unit {0}) Reason} (Err (Breaks AlreadyLive)) (Ok tt) =
      ap (λ (o : Result (Unit {0}) Reason × State). o.0) e in cc

  pub has_come : run_part (comes s x c stood) before ≡ (Ok tt, after) → left ≡ after
  has_come e =
      by_life (is_zero (amount_in (before (Life s.number c.wptr)))) _
      (λ h. by_stand (is_absent (stand_in (with_life (Standing x)))) h) e

-- one more process
module _ (p : Plan) (n : ℕ) (plan : NodePlan) (ps : List Process) (q : Process) (i : ℕ) (at : length ps ≡ i) where
  abbrev context : Context
  context = fresh (priority_of q.wdesc) (workspace_of q.wdesc) q.iptr

  abbrev name : Name
  name = record { node = n; root = Image i; path = [] }

  -- where the others stand
  stand_else : (r : Root) (path : List ℕ) → same_name name (record { node = n; root = r; path = path }) ≡ false
      → stand_of r path (with_processes ps plan) ≡ stand_of r path (with_processes (ps ++ q ∷ []) plan)
  stand_else (Image k) [] apart =
      ap opened_stand (sym (get_else ps q k (λ e. number_apart n i k apart (sym at ∙ e))))
  stand_else (Image k) (c ∷ cs) apart = refl
  stand_else (After w e) path apart = refl

  stand_now : stand_of (Image i) [] (with_processes (ps ++ q ∷ []) plan) ≡ Rests context
  stand_now =
      ap (λ (k : ℕ). opened_stand (slice_get (ps ++ q ∷ []) k)) (sym at) ∙ ap opened_stand (get_pushed ps q)

  stands_so : (y : Name) (b : Bool) → same_name name y ≡ b
      → (if b then apply (Put (IsStand (Rests context))) (opening_with p n plan ps (Standing y))
      else opening_with p n plan ps (Standing y))
      ≡ opening_with p n plan (ps ++ q ∷ []) (Standing y)
  stands_so y true e =
      sym (ap (λ (z : Name). opening_with p n plan (ps ++ q ∷ []) (Standing z)) (sym (same_name-true name y e))
      ∙ ap (λ (t : Bool). if t then IsStand (stand_of (Image i) [] (with_processes (ps ++ q ∷ []) plan))
      else opening_state p (Standing name)) (eq-eqb n n refl) ∙ ap IsStand stand_now)
  stands_so y false e =
      alike (n == y.node) (IsStand (stand_of y.root y.path (with_processes ps plan)))
      (IsStand (stand_of y.root y.path (with_processes (ps ++ q ∷ []) plan))) (opening_state p (Standing y))
      (λ h. ap IsStand (stand_else y.root y.path
      (ap (λ (m : ℕ). same_name name (record y { node = m })) (eqb-true n y.node h) ∙ e)))

  -- how many have a workspace
  lives_more : (w : ℕ) (b : Bool) → (workspace_of q.wdesc == w) ≡ b
      → lives w (with_processes (ps ++ q ∷ []) plan)
      ≡ (if b then lives w (with_processes ps plan) + 1 else lives w (with_processes ps plan))
  lives_more w b e = count_more (λ r. workspace_of r.wdesc == w) ps q b e

  lives_so : (m w : ℕ) (b c : Bool) → (n == m) ≡ b → (workspace_of q.wdesc == w) ≡ c
      → (if b && c then apply (Add (pos 1)) (opening_with p n plan ps (Life m w)) else opening_with p n plan ps (Life
      m w))
      ≡ opening_with p n plan (ps ++ q ∷ []) (Life m w)
  lives_so m w true true e f =
      ap (λ (t : Bool). apply (Add (pos 1)) (if t then IsAmount (pos (lives w (with_processes ps plan)))
      else opening_state p (Life m w))) e
      ∙ ap (λ (k : ℕ). IsAmount (pos k)) (sym (lives_more w true f))
      ∙ sym (ap (λ (t : Bool). if t then IsAmount (pos (lives w (with_processes (ps ++ q ∷ []) plan)))
      else opening_state p (Life m w)) e)
  lives_so m w true false e f =
      ap (λ (t : Bool). if t then IsAmount (pos (lives w (with_processes ps plan))) else opening_state p (Life m w)) e
      ∙ ap (λ (k : ℕ). IsAmount (pos k)) (sym (lives_more w false f))
      ∙ sym (ap (λ (t : Bool). if t then IsAmount (pos (lives w (with_processes (ps ++ q ∷ []) plan)))
      else opening_state p (Life m w)) e)
  lives_so m w false c e f =
      ap (λ (t : Bool). if t then IsAmount (pos (lives w (with_processes ps plan))) else opening_state p (Life m w)) e
      ∙ sym (ap (λ (t : Bool). if t then IsAmount (pos (lives w (with_processes (ps ++ q ∷ []) plan)))
      else opening_state p (Life m w)) e)

  -- how many there were
  population_so : (m : ℕ) (b : Bool) → (n == m) ≡ b
      → (if b then apply (Add (pos 1)) (opening_with p n plan ps (Population m)) else opening_with p n plan ps
      (Population m))
      ≡ opening_with p n plan (ps ++ q ∷ []) (Population m)
  population_so m true e =
      ap (λ (t : Bool). apply (Add (pos 1)) (if t then IsAmount (pos (length ps)) else opening_state p (Population
      m))) e
      ∙ ap (λ (k : ℕ). IsAmount (pos k)) (sym (length-append ps (q ∷ [])))
      ∙ sym (ap (λ (t : Bool). if t then IsAmount (pos (length (ps ++ q ∷ []))) else opening_state p (Population m)) e)
  population_so m false e =
      ap (λ (t : Bool). if t then IsAmount (pos (length ps)) else opening_state p (Population m)) e
      ∙ sym (ap (λ (t : Bool). if t then IsAmount (pos (length (ps ++ q ∷ []))) else opening_state p (Population m)) e)

  -- which priorities ran
  runs_so : (m r : ℕ) (b c : Bool) → (n == m) ≡ b → (priority_of q.wdesc == r) ≡ c
      → (if b && c then apply Raise (opening_with p n plan ps (HasRun m r)) else opening_with p n plan ps (HasRun m r))
      ≡ opening_with p n plan (ps ++ q ∷ []) (HasRun m r)
  runs_so m r true true e f =
      ap (λ (t : Bool). apply Raise (if t then IsFlag (has_priority r (with_processes ps plan))
      else opening_state p (HasRun m r))) e
      ∙ ap IsFlag (sym (any_more (λ k. priority_of k.wdesc == r) ps q
      ∙ ap (λ (t : Bool). has_priority r (with_processes ps plan) || t) f
      ∙ or_true (has_priority r (with_processes ps plan))))
      ∙ sym (ap (λ (t : Bool). if t then IsFlag (has_priority r (with_processes (ps ++ q ∷ []) plan))
      else opening_state p (HasRun m r)) e)
  runs_so m r true false e f =
      ap (λ (t : Bool). if t then IsFlag (has_priority r (with_processes ps plan)) else opening_state p (HasRun m r)) e
      ∙ ap IsFlag (sym (any_more (λ k. priority_of k.wdesc == r) ps q
      ∙ ap (λ (t : Bool). has_priority r (with_processes ps plan) || t) f
      ∙ or_false (has_priority r (with_processes ps plan))))
      ∙ sym (ap (λ (t : Bool). if t then IsFlag (has_priority r (with_processes (ps ++ q ∷ []) plan))
      else opening_state p (HasRun m r)) e)
  runs_so m r false c e f =
      ap (λ (t : Bool). if t then IsFlag (has_priority r (with_processes ps plan)) else opening_state p (HasRun m r)) e
      ∙ sym (ap (λ (t : Bool). if t then IsFlag (has_priority r (with_processes (ps ++ q ∷ []) plan))
      else opening_state p (HasRun m r)) e)

  more_at : (after : State) (s : Site) → s.number ≡ n → (z : Place)
      → left s name context Rests (opening_with p n plan ps) after z ≡ opening_with p n plan (ps ++ q ∷ []) z
  more_at after s e (Standing y) = stands_so y (same_name name y) refl
  more_at after s e (Life m w) =
      ap (λ (k : ℕ). if (k == m) && (workspace_of q.wdesc == w) then apply (Add (pos 1)) (opening_with p n plan ps
      (Life m w))
      else opening_with p n plan ps (Life m w)) e
      ∙ lives_so m w (n == m) (workspace_of q.wdesc == w) refl refl
  more_at after s e (Population m) =
      ap (λ (k : ℕ). if k == m then apply (Add (pos 1)) (opening_with p n plan ps (Population m))
      else opening_with p n plan ps (Population m)) e
      ∙ population_so m (n == m) refl
  more_at after s e (HasRun m r) =
      ap (λ (k : ℕ). if (k == m) && (priority_of q.wdesc == r) then apply Raise (opening_with p n plan ps (HasRun m r))
      else opening_with p n plan ps (HasRun m r)) e
      ∙ runs_so m r (n == m) (priority_of q.wdesc == r) refl refl
  more_at after s e z = refl

  pub one_more : (after : State) (s : Site) → s.number ≡ n
      → left s name context Rests (opening_with p n plan ps) after ≡ opening_with p n plan (ps ++ q ∷ [])
  one_more after s e = λ j z. more_at after s e z j

-- where no process has come
module _ (plan : NodePlan) (number first : ℕ) (node : Node) (h : HasNothing plan number first node) (p : Plan)
    (there : slice_get p.nodes number ≡ Some plan) where
  numbered : node.words.number ≡ number
  numbered = ap (λ (s : Site). s.number) h.site

  abbrev opening : State
  opening = opening_state p

  -- what the plan has for the node
  of_this : {A : Type 0} (m : ℕ) (t : Bool) (d : A) (f : NodePlan → A) → (node.words.number == m) ≡ true
      → of_node p m d f ≡ f plan
  of_this m t d f e =
      let same = sym numbered ∙ eqb-true node.words.number m e in
      ap (λ (o : Option NodePlan). elim o [ Some x ↦ f x | None ↦ d ])
      (ap (λ (k : ℕ). slice_get p.nodes k) (sym same) ∙ there)

  word_so : (m k : ℕ) (o : Option StoredWord) → slice_get node.words.items.items k ≡ o
      → (node.words.number == m) ≡ true → word_or o (opening (WordAt m k)) ≡ opening (WordAt m k)
  word_so m k None at e = refl
  word_so m k (Some w) at e =
      ap IsWord ((h.words k w at).0 ∙ sym (of_this m true _ (λ x. opened_word x (most_neg + 4 * k)) e))

  sent_so : (m k : ℕ) (o : Option StoredWord) → slice_get node.words.items.items k ≡ o
      → sending_or o (opening (Sending m k)) ≡ opening (Sending m k)
  sent_so m k None at = refl
  sent_so m k (Some w) at = ap (λ (j : ℕ). IsAmount (pos j)) ((h.words k w at).1)

  no_stand : (r : Root) (path : List ℕ) → stand_of r path (with_processes [] plan) ≡ Absent
  no_stand (Image k) [] = refl
  no_stand (Image k) (c ∷ cs) = refl
  no_stand (After w e) path = refl

  no_run : (q : ℕ) → has_run_at false false q ≡ false
  no_run zero = refl
  no_run (suc zero) = refl
  no_run (suc (suc q)) = refl

  run_so : (q : ℕ) → has_run_at node.has_run_high node.has_run_low q ≡ false
  run_so q =
      ap (λ (t : Bool). has_run_at t node.has_run_low q) h.has_run_high
      ∙ ap (λ (t : Bool). has_run_at false t q) h.has_run_low ∙ no_run q

  no_half : (a : ℕ) (s : machine.Side) → half_among (names node) node.channels.items.items a s ≡ Nobody
  no_half a machines.Input = ap (λ cs. half_among (names node) cs a machines.Input) h.channels
  no_half a machines.Output = ap (λ cs. half_among (names node) cs a machines.Output) h.channels

  empty_or : (o : Option half.LinkHalf) → ((x : half.LinkHalf) → o ≡ Some x → link_of (names node) x ≡ Empty)
      → link_or_empty (names node) o ≡ Empty
  empty_or None all = refl
  empty_or (Some x) all = all x refl

  no_link : (k : ℕ) (s : machine.Side) → link_among (names node) node.links k s ≡ Empty
  no_link k machines.Input =
      empty_or (slice_get node.links.inputs k) (λ x e. ap (link_of (names node)) (h.links.halves k Input x e))
  no_link k machines.Output =
      empty_or (slice_get node.links.outputs k) (λ x e. ap (link_of (names node)) (h.links.halves k Output x e))

  -- each output is over
  over : (o : Option Bool) → ((u : Bool) → o ≡ Some u → u ≡ false) → unwrap_or o false ≡ false
  over None all = refl
  over (Some u) all = all u refl

  at_place : (z : Place) → node_at node opening z ≡ opening_with p number plan [] z
  at_place (WordAt m k) =
      same_if (node.words.number == m) (word_or (slice_get node.words.items.items k) (opening (WordAt m k)))
      (opening (WordAt m k)) (λ e. word_so m k (slice_get node.words.items.items k) refl e)
  at_place (Sending m k) =
      same_if (node.words.number == m) (sending_or (slice_get node.words.items.items k) (opening (Sending m k)))
      (opening (Sending m k)) (λ e. sent_so m k (slice_get node.words.items.items k) refl)
  at_place (Standing x) =
      ap (λ ps. if node.words.number == x.node then IsStand (stand_among node.words.number ps x)
      else opening (Standing x)) h.processes
      ∙ ap (λ (k : ℕ). if k == x.node then IsStand Absent else opening (Standing x)) numbered
      ∙ ap (λ (s : Stand). if number == x.node then IsStand s else opening (Standing x)) (sym (no_stand x.root x.path))
  at_place (Ports x) =
      ap (λ ps. if node.words.number == x.node then ArePorts (ports_among node.words.number ps x)
      else opening (Ports x)) h.processes
      ∙ same_if (node.words.number == x.node) (ArePorts []) (opening (Ports x)) (λ e. refl)
  at_place (Life m w) =
      ap (λ ls. if node.words.number == m then IsAmount (lives_at ls w) else opening (Life m w)) h.lives
      ∙ ap (λ (k : ℕ). if k == m then IsAmount (pos 0) else opening (Life m w)) numbered
  at_place (Population m) =
      ap (λ (k : ℕ). if node.words.number == m then IsAmount (pos k) else opening (Population m)) h.population
      ∙ ap (λ (k : ℕ). if k == m then IsAmount (pos 0) else opening (Population m)) numbered
  at_place (HasRun m q) =
      ap (λ (t : Bool). if node.words.number == m then IsFlag t else opening (HasRun m q)) (run_so q)
      ∙ ap (λ (k : ℕ). if k == m then IsFlag false else opening (HasRun m q)) numbered
  at_place (Half m a s) =
      same_if (node.words.number == m) (IsHalf (half_among (names node) node.channels.items.items a s))
      (opening (Half m a s)) (λ e. ap IsHalf (no_half a s))
  at_place (LinkHalf e s) =
      same_if (node.words.number == e.node) (IsLink (link_among (names node) node.links e.link s))
      (opening (LinkHalf e s)) (λ t. ap IsLink (no_link e.link s))
  at_place (Unfinished e) =
      same_if (node.words.number == e.node) (IsFlag (unfinished_among node.links e.link)) (opening (Unfinished e))
      (λ t. ap IsFlag (over (slice_get node.links.unfinished e.link) (h.links.finished e.link)))
  at_place (Error m) =
      same_if (node.words.number == m) (IsFlag node.error) (opening (Error m)) (λ e. ap IsFlag h.error)
  at_place (HaltOnError m) =
      same_if (node.words.number == m) (IsFlag node.halt_on_error) (opening (HaltOnError m))
      (λ e. ap IsFlag h.halt_on_error)
  at_place (FlagChanged m) =
      same_if (node.words.number == m) (IsFlag node.is_flag_changed) (opening (FlagChanged m))
      (λ e. ap IsFlag h.flag_changed)
  at_place (Successions m w) =
      same_if (node.words.number == m) (IsCount (successors_at node.lives.items.items w)) (opening (Successions m w))
      (λ e. ap (λ ls. IsCount (successors_at ls w)) h.lives)
  at_place (Messages e) = refl
  at_place (Kept e) = refl

  pub none_came : node_at node opening ≡ opening_with p number plan []
  none_came = λ j z. at_place z j

-- where all have come
module _ (p : Plan) (n : ℕ) (plan : NodePlan) (there : slice_get p.nodes n ≡ Some plan) where
  whole : {A : Type 0} (m : ℕ) (d : A) (f : NodePlan → A) → (n == m) ≡ true → f plan ≡ of_node p m d f
  whole m d f e =
      sym (ap (λ (o : Option NodePlan). elim o [ Some x ↦ f x | None ↦ d ])
      (ap (λ (k : ℕ). slice_get p.nodes k) (sym (eqb-true n m e)) ∙ there))

  all_at : (z : Place) → opening_with p n plan plan.image.processes z ≡ opening_state p z
  all_at (Standing x) =
      same_if (n == x.node) (IsStand (stand_of x.root x.path plan)) (opening_state p (Standing x))
      (λ e. ap IsStand (whole x.node Absent (stand_of x.root x.path) e))
  all_at (Life m w) =
      same_if (n == m) (IsAmount (pos (lives w plan))) (opening_state p (Life m w))
      (λ e. ap (λ (k : ℕ). IsAmount (pos k)) (whole m 0 (lives w) e))
  all_at (Population m) =
      same_if (n == m) (IsAmount (pos (length plan.image.processes))) (opening_state p (Population m))
      (λ e. ap (λ (k : ℕ). IsAmount (pos k)) (whole m 0 (λ x. length x.image.processes) e))
  all_at (HasRun m q) =
      same_if (n == m) (IsFlag (has_priority q plan)) (opening_state p (HasRun m q))
      (λ e. ap IsFlag (whole m false (has_priority q) e))
  all_at z = refl

  pub all_came : opening_with p n plan plan.image.processes ≡ opening_state p
  all_came = λ j z. all_at z j
