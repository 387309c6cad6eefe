-- How many processes live at a node after a run.
use Rattle.std.proofs.Common.{◌≡◌, ℕ, suc, ◌+◌, ◌≤◌, ◌<◌, refl, sym, ap, subst, ◌∙◌, Bool, true, false, true≢false}
use Rattle.std.proofs.Common.{List, [], ◌∷◌, ◌++◌, length, length-append, map, arith, pos, Option, Some, None}
use Rattle.std.proofs.lemmas.Int.{ints}
use Rattle.std.specs.Prelude.{◌+ℤ◌, ◌==◌, ◌||◌, filter, is_some, int_le, slice_get, if◌then◌else◌}
use Rattle.std.specs.List.{list_any, count_by}
use Rattle.std.proofs.lemmas.Bool.{eqb-true, eq-eqb, leb-true}
use Rattle.tword.specs.Limits.{most_processes}
use Rattle.tproc.specs.Machine.{workspace_of}
use Rattle.tplan.specs.declared.plan.Process.{Process as Started}
use Rattle.tplan.specs.declared.plan.NodePlan.{NodePlan}
use Rattle.tplan.specs.declared.plan.Plan.{Plan}
use Rattle.tagents.specs.Agents.{Does, IsRun}
use Rattle.tagents.specs.Races.{TakesNothing}
use Rattle.tagents.specs.Certificates.{IsCompleted}
use Rattle.tagents.specs.Walks.{deed_of, value_after, are_open, label_of, state_after}
use Rattle.tagents.proofs.Placed.{places_are_enough}
use Rattle.tprocesses.specs.Places.{Place, Life, Population, same_place}
use Rattle.tprocesses.specs.Values.{Value, IsAmount, amount_in}
use Rattle.tprocesses.specs.Changes.{Change, Add, apply}
use Rattle.tprocesses.specs.Parts.{Changed, Deed, made, walk_from}
use Rattle.tprocesses.specs.Machine.{Agent, process_machine, step_of}
use Rattle.tprocesses.specs.Opening.{of_node, lives, opening_state}
use Rattle.tprocesses.specs.Certified.{ProcessStep, machine_of, adds_process, ends_process, begins, ends}
use Rattle.tprocesses.specs.Certified.{opened_processes, HadFewIsEnough, PlacesLetFewLive, LivingAreCounted}
use Rattle.tprocesses.proofs.Leaving.{IsTame, AllTame, Leaves, deed_left, deed_tame}
use Rattle.tprocesses.proofs.Tally.{one_if, count_front, count_both, count_at, IsDifference, Tally, Holds, AreSettled}
use Rattle.tprocesses.proofs.StepsTallied.{steps_are_tallied}

abbrev pub State : Type 0
State = Place → Value

-- changes that are picked by their place are those that are made there
picked : (p : Plan) (cs : List Changed) (q : Place) (v : Value)
    → value_after (process_machine p) (map (λ x. x.change) (filter (λ x. same_place x.place q) cs)) v ≡ made cs q v
picked p [] q v = refl
picked p (x ∷ cs) q v = by (same_place x.place q) (λ u. picked p cs q u) v
  where
    by : (t : Bool) → ((u : Value)
        → value_after (process_machine p) (map (λ y. y.change) (filter (λ y. same_place y.place q) cs)) u
        ≡ made cs q u) → (v : Value)
        → value_after (process_machine p) (map (λ y. y.change)
        (if t then x ∷ filter (λ y. same_place y.place q) cs else filter (λ y. same_place y.place q) cs)) v
        ≡ made cs q (if t then apply x.change v else v)
    by true rest v = rest (apply x.change v)
    by false rest v = rest v

-- what an agent does in its step
abbrev deed_at : Plan → Agent → State → Deed
deed_at p a s = deed_of (walk_from (record { changes = []; message = None; stops = None }) (step_of p a)) s

-- a step does the deed of its agent, and leaves what its changes make of each value
record IsDeed (p : Plan) (s s' : State) (e : ProcessStep) : Type 0 where
  deed : deed_at p e.agent s ≡ e.deed
  makes : (q : Place) → made e.deed.changes q (s q) ≡ s' q

abbrev if_open : Bool → ProcessStep × State → Option (ProcessStep × State)
if_open t x = if t then Some x else None

is_deed : (p : Plan) (s s' : State) (e : ProcessStep) → Does (machine_of p) s e s' → IsDeed p s s' e
is_deed p s s' e does = by (are_open (process_machine p) e.agent s) does
  where
    by : (t : Bool) → if_open t (
      label_of (process_machine p) e.agent s,
      state_after (process_machine p) (deed_at p e.agent s) s,
    )
        ≡ Some (e, s') → IsDeed p s s' e
    by false f = cc
    by true f =
        let both : ◌≡◌ {A = ProcessStep × State}
        (label_of (process_machine p) e.agent s, state_after (process_machine p) (deed_at p e.agent s) s)
        (e, s') = cc in
        let same : deed_at p e.agent s ≡ e.deed = ap (λ (z : ProcessStep × State). z.0.deed) both in
        record {
          deed = same;
          makes = λ q.
              subst (λ (d : Deed). made d.changes q (s q) ≡ s' q) same
              (sym (picked p (deed_at p e.agent s).changes q (s q)) ∙ ap (λ (z : ProcessStep × State). z.1 q) both);
        }

-- the changes of each step are tame
pub step_tame : (p : Plan) (s s' : State) (e : ProcessStep) → Does (machine_of p) s e s' → AllTame e.deed.changes
step_tame p s s' e does =
    subst (λ (d : Deed). AllTame d.changes) (is_deed p s s' e does).deed
    (deed_tame (record { changes = []; message = None; stops = None }) (step_of p e.agent) s
    (Holds 0 (AreSettled 0)) (steps_are_tallied 0 p e.agent) (λ cs h. h.tally.tame))

-- and where they are made
pub step_makes : (p : Plan) (s s' : State) (e : ProcessStep) → Does (machine_of p) s e s' → (q : Place)
    → made e.deed.changes q (s q) ≡ s' q
step_makes p s s' e does = (is_deed p s s' e does).makes

-- what holds of the changes where a step is done holds of those of a step that does not stop
pub step_left : (p : Plan) (s s' : State) (e : ProcessStep) (Q : List Changed → Type 0) → Does (machine_of p) s e s'
    → (machine_of p).stops e ≡ false → Leaves (step_of p e.agent) [] Q → Q e.deed.changes
step_left p s s' e Q does goes leaves =
    let same = (is_deed p s s' e does).deed in
    subst (λ (d : Deed). Q d.changes) same
    (deed_left (record { changes = []; message = None; stops = None }) (step_of p e.agent) s Q leaves
    (ap (λ (d : Deed). is_some d.stops) same ∙ goes))

-- whether there is one, and how many there are
pub any_counted : {X : Type 0} (f : X → Bool) (xs : List X) → one_if (list_any f xs) ≤ count_by f xs
any_counted f [] = omega arith
any_counted f (x ∷ xs) = by (f x) refl (any_counted f xs)
  where
    by : (t : Bool) → f x ≡ t → one_if (list_any f xs) ≤ count_by f xs
        → one_if (t || list_any f xs) ≤ count_by f (x ∷ xs)
    by true e h = let front = count_front f x xs in let one : one_if (f x) ≡ 1 = ap one_if e in
        omega (arith, front, one)
    by false e h = let front = count_front f x xs in omega (arith, front, h)

pub none_counted : {X : Type 0} (f : X → Bool) (xs : List X) → list_any f xs ≡ false → count_by f xs ≡ 0
none_counted f [] h = refl
none_counted f (x ∷ xs) h = by (f x) refl (none_counted f xs) h
  where
    by : (t : Bool) → f x ≡ t → (list_any f xs ≡ false → count_by f xs ≡ 0) → (t || list_any f xs) ≡ false
        → count_by f (x ∷ xs) ≡ 0
    by true e rest h = absurd (true≢false h)
    by false e rest h = let front = count_front f x xs in let no : one_if (f x) ≡ 0 = ap one_if e in
        let none = rest h in omega (arith, front, no, none)

one_counted : {X : Type 0} (f : X → Bool) (xs : List X) → count_by f xs ≤ 1 → one_if (list_any f xs) ≡ count_by f xs
one_counted f xs h = by (list_any f xs) refl
  where
    by : (t : Bool) → list_any f xs ≡ t → one_if t ≡ count_by f xs
    by true e = let some = any_counted f xs in let one : one_if (list_any f xs) ≡ 1 = ap one_if e in
        omega (arith, some, one, h)
    by false e = sym (none_counted f xs e)

-- how many processes a node has had after changes
pub had_after : (n : ℕ) (cs : List Changed) (k : ℕ) → AllTame cs
    → made cs (Population n) (IsAmount (pos k)) ≡ IsAmount (pos (k + count_by (adds_process n) cs))
had_after n [] k tame = ap (λ z. IsAmount (pos z)) (omega arith)
had_after n (x ∷ cs) k tame = by (adds_process n x) refl (λ j. had_after n cs j tame.1)
  where
    front : count_by (adds_process n) (x ∷ cs) ≡ one_if (adds_process n x) + count_by (adds_process n) cs
    front = count_front (adds_process n) x cs

    one_more : (q : Place) (c : Change) → IsTame q c → same_place q (Population n) ≡ true → c ≡ Add (pos 1)
    one_more (Population m) c h e = h
    one_more _ c h e = absurd (true≢false (sym e))

    by : (t : Bool) → adds_process n x ≡ t
        → ((j : ℕ) → made cs (Population n) (IsAmount (pos j)) ≡ IsAmount (pos (j + count_by (adds_process n) cs)))
        → made cs (Population n) (if t then apply x.change (IsAmount (pos k)) else IsAmount (pos k))
        ≡ IsAmount (pos (k + count_by (adds_process n) (x ∷ cs)))
    by true e rest =
        let one : one_if (adds_process n x) ≡ 1 = ap one_if e in
        ap (λ (c : Change). made cs (Population n) (apply c (IsAmount (pos k)))) (one_more x.place x.change tame.0 e)
        ∙ rest (k + 1) ∙ ap (λ z. IsAmount (pos z)) (omega (arith, front, one))
    by false e rest =
        let no : one_if (adds_process n x) ≡ 0 = ap one_if e in
        rest k ∙ ap (λ z. IsAmount (pos z)) (omega (arith, front, no))

-- after a run it has had as many more as have begun, at least
pub record HasHad (s : State) (n k : ℕ) : Type 0 where
  pub count : ℕ
  pub stands : s (Population n) ≡ IsAmount (pos count)
  pub enough : k ≤ count

pub had_run : (p : Plan) (n : ℕ) (steps : List ProcessStep) (s s' : State) (k : ℕ) → HasHad s n k
    → IsRun (machine_of p) s steps s' → HasHad s' n (k + count_by (begins n) steps)
had_run p n [] s s' k h run =
    subst (λ (z : State). HasHad z n (k + 0)) run
    (record { count = h.count; stands = h.stands; enough = omega (arith, h.enough) })
had_run p n (e ∷ es) s s' k h run =
    let front = count_front (begins n) e es in
    let some = any_counted (adds_process n) e.deed.changes in
    let rest : HasHad s' n ((k + one_if (begins n e)) + count_by (begins n) es) =
    had_run p n es run.0 s' (k + one_if (begins n e)) (record {
      count = h.count + count_by (adds_process n) e.deed.changes;
      stands = sym (step_makes p s run.0 e run.1 (Population n))
          ∙ ap (made e.deed.changes (Population n)) h.stands
          ∙ had_after n e.deed.changes h.count (step_tame p s run.0 e run.1);
      enough = omega (arith, h.enough, some);
    }) run.2 in
    record { count = rest.count; stands = rest.stands; enough = omega (arith, rest.enough, front) }

-- before the first step it has had those of the image
pub had_opening : (p : Plan) (n : ℕ) → HasHad (opening_state p) n (opened_processes p n)
had_opening p n = record { count = opened_processes p n; stands = refl; enough = omega arith }

pub had_few_is_enough : HadFewIsEnough
had_few_is_enough p n steps end only few others s run =
    let rest : IsCompleted (machine_of p) others s steps end = only.completed s others run in
    let now : HasHad s n (opened_processes p n + count_by (begins n) others) =
    had_run p n others (opening_state p) s (opened_processes p n) (had_opening p n) run in
    let last : HasHad end n ((opened_processes p n + count_by (begins n) others) + count_by (begins n) rest.rest) =
    had_run p n rest.rest s end (opened_processes p n + count_by (begins n) others) now rest.run in
    let most : int_le (pos last.count) (pos most_processes) ≡ true =
    subst (λ (v : Value). int_le (amount_in v) (pos most_processes) ≡ true) last.stands few in
    omega (arith, last.enough, leb-true last.count most_processes most)

pub places_let_few_live : PlacesLetFewLive
places_let_few_live p n steps end certified places others s run =
    let most = places_are_enough State Agent ProcessStep (machine_of p) (begins n) (ends n) places.place places.free
    (opening_state p) end s steps others certified places.places run in
    omega (arith, most, places.few)

-- lists that have each number as often are as long
found : (x : ℕ) (ys : List ℕ) → 0 < count_at x ys
    → (before : List ℕ) × (after : List ℕ) × (ys ≡ before ++ x ∷ after)
found x [] h = absurd (omega (arith, h))
found x (y ∷ ys) h = by (y == x) refl (found x ys)
  where
    by : (t : Bool) → (y == x) ≡ t
        → (0 < count_at x ys → (before : List ℕ) × (after : List ℕ) × (ys ≡ before ++ x ∷ after))
        → (before : List ℕ) × (after : List ℕ) × (y ∷ ys ≡ before ++ x ∷ after)
    by true e rest = ([], ys, ap (λ z. z ∷ ys) (eqb-true y x e))
    by false e rest =
        let front = count_front (λ v. v == x) y ys in
        let no : one_if (y == x) ≡ 0 = ap one_if e in
        let there = rest (omega (arith, h, front, no)) in
        (y ∷ there.0, there.1, ap (λ zs. y ∷ zs) there.2)

itself : (x : ℕ) → one_if (x == x) ≡ 1
itself x = ap (λ z. one_if z) (eq-eqb x x refl)

as_long : (xs ys : List ℕ) → ((w : ℕ) → count_at w xs ≡ count_at w ys) → length xs ≡ length ys
as_long [] [] same = refl
as_long [] (y ∷ ys) same =
    let front = count_front (λ v. v == y) y ys in absurd (omega (arith, same y, front, itself y))
as_long (x ∷ xs) ys same = by (found x ys (omega (arith, same x, first x, itself x))) (as_long xs)
  where
    first : (w : ℕ) → count_at w (x ∷ xs) ≡ one_if (x == w) + count_at w xs
    first w = count_front (λ v. v == w) x xs

    by : (before : List ℕ) × (after : List ℕ) × (ys ≡ before ++ x ∷ after)
        → ((zs : List ℕ) → ((w : ℕ) → count_at w xs ≡ count_at w zs) → length xs ≡ length zs)
        → length (x ∷ xs) ≡ length ys
    by (before, after, is) others =
        let rest : length xs ≡ length (before ++ after) = others (before ++ after) (λ w.
        let there : count_at w ys ≡ count_at w before + count_at w (x ∷ after) =
        ap (count_at w) is ∙ count_both (λ v. v == w) before (x ∷ after) in
        let front = count_front (λ v. v == w) x after in
        let both = count_both (λ v. v == w) before after in
        omega (arith, same w, first w, there, front, both)) in
        let whole : length ys ≡ length before + length (x ∷ after) =
        ap length is ∙ length-append before (x ∷ after) in
        let parts = length-append before after in
        omega (arith, rest, whole, parts)

-- the workspaces that have a process more and less than none, after a run, and how many of them there are
record IsCounted (s : State) (n : ℕ) (begun ended : ℕ) : Type 0 where
  us : List ℕ
  ds : List ℕ
  differ : (w : ℕ) → IsDifference (s (Life n w)) (count_at w us) (count_at w ds)
  even : length us + ended ≡ length ds + begun

counted_step : (p : Plan) (n : ℕ) (s s' : State) (e : ProcessStep) (b d : ℕ) → IsCounted s n b d
    → Does (machine_of p) s e s' → (machine_of p).stops e ≡ false
    → IsCounted s' n (b + one_if (begins n e)) (d + one_if (ends n e))
counted_step p n s s' e b d h does goes = by left
  where
    is : IsDeed p s s' e
    is = is_deed p s s' e does

    left : Holds n (AreSettled n) e.deed.changes
    left = step_left p s s' e (Holds n (AreSettled n)) does goes (steps_are_tallied n p e.agent)

    by : Holds n (AreSettled n) e.deed.changes
        → IsCounted s' n (b + one_if (begins n e)) (d + one_if (ends n e))
    by k =
        let t : Tally n k.us k.ds k.b k.e e.deed.changes = k.tally in
        let one : one_if (begins n e) ≡ k.b =
        one_counted (adds_process n) e.deed.changes (omega (arith, t.begun, k.known.1)) ∙ t.begun in
        let other : one_if (ends n e) ≡ k.e =
        one_counted (ends_process n) e.deed.changes (omega (arith, t.ended, k.known.2)) ∙ t.ended in
        let ups = length-append h.us k.us in
        let downs = length-append h.ds k.ds in
        record {
          us = h.us ++ k.us;
          ds = h.ds ++ k.ds;
          differ = λ w.
              subst (λ z. IsDifference (s' (Life n w)) z (count_at w (h.ds ++ k.ds)))
              (sym (count_both (λ v. v == w) h.us k.us))
              (subst (λ z. IsDifference (s' (Life n w)) (count_at w h.us + count_at w k.us) z)
              (sym (count_both (λ v. v == w) h.ds k.ds))
              (subst (λ (v : Value). IsDifference v (count_at w h.us + count_at w k.us)
              (count_at w h.ds + count_at w k.ds)) (is.makes (Life n w))
              (t.lives w (s (Life n w)) (count_at w h.us) (count_at w h.ds) (h.differ w))));
          even = omega (arith, h.even, k.known.0, one, other, ups, downs);
        }

counted_run : (p : Plan) (n : ℕ) (steps : List ProcessStep) (s s' : State) (b d : ℕ) → IsCounted s n b d
    → IsRun (machine_of p) s steps s' → TakesNothing (machine_of p) steps
    → IsCounted s' n (b + count_by (begins n) steps) (d + count_by (ends n) steps)
counted_run p n [] s s' b d h run takes =
    subst (λ (z : State). IsCounted z n (b + 0) (d + 0)) run
    (record { us = h.us; ds = h.ds; differ = h.differ; even = omega (arith, h.even) })
counted_run p n (e ∷ es) s s' b d h run takes =
    let first = count_front (begins n) e es in
    let second = count_front (ends n) e es in
    let rest : IsCounted s' n ((b + one_if (begins n e)) + count_by (begins n) es)
    ((d + one_if (ends n e)) + count_by (ends n) es) =
    counted_run p n es run.0 s' (b + one_if (begins n e)) (d + one_if (ends n e))
    (counted_step p n s run.0 e b d h run.1 takes.0) run.2 takes.1 in
    record { us = rest.us; ds = rest.ds; differ = rest.differ; even = omega (arith, rest.even, first, second) }

-- before the first step
opened : (w : ℕ) (qs : List Started)
    → count_by (λ q. workspace_of q.wdesc == w) qs ≡ count_at w (map (λ q. workspace_of q.wdesc) qs)
opened w [] = refl
opened w (q ∷ qs) =
    let first = count_front (λ (q : Started). workspace_of q.wdesc == w) q qs in
    let second = count_front (λ v. v == w) (workspace_of q.wdesc) (map (λ (q : Started). workspace_of q.wdesc) qs) in
    let rest = opened w qs in
    omega (arith, first, second, rest)

as_many : (qs : List Started) → length (map (λ q. workspace_of q.wdesc) qs) ≡ length qs
as_many [] = refl
as_many (q ∷ qs) = ap suc (as_many qs)

-- the workspaces of an image
abbrev workspaces_of : NodePlan → List ℕ
workspaces_of plan = map (λ q. workspace_of q.wdesc) plan.image.processes

abbrev held : Option NodePlan → List ℕ
held o = elim o [ Some plan ↦ workspaces_of plan | None ↦ [] ]

counted_opening : (p : Plan) (n : ℕ) → IsCounted (opening_state p) n (opened_processes p n) 0
counted_opening p n =
    record {
      us = of_node p n [] workspaces_of;
      ds = [];
      differ = λ w. let is = same w (slice_get p.nodes n) in omega (arith, ints, is);
      even = many (slice_get p.nodes n);
    }
  where
    same : (w : ℕ) (o : Option NodePlan) → count_at w (held o) ≡ elim o [ Some plan ↦ lives w plan | None ↦ 0 ] + 0
    same w None = refl
    same w (Some plan) = let is = opened w plan.image.processes in omega (arith, is)

    many : (o : Option NodePlan) → length (held o) + 0
        ≡ 0 + elim o [ Some plan ↦ length plan.image.processes | None ↦ 0 ]
    many None = refl
    many (Some plan) = let is = as_many plan.image.processes in omega (arith, is)

pub living_are_counted : LivingAreCounted
living_are_counted p n steps s workspaces run takes lives =
    let end : IsCounted s n (opened_processes p n + count_by (begins n) steps) (0 + count_by (ends n) steps) =
    counted_run p n steps (opening_state p) s (opened_processes p n) 0 (counted_opening p n) run takes in
    let same : length end.us ≡ length (workspaces ++ end.ds) =
    as_long end.us (workspaces ++ end.ds) (λ w.
    let there : pos (count_at w workspaces) +ℤ pos (count_at w end.ds) ≡ pos (count_at w end.us) =
    subst (λ (v : Value). IsDifference v (count_at w end.us) (count_at w end.ds)) (lives w) (end.differ w) in
    let both = count_both (λ v. v == w) workspaces end.ds in omega (arith, ints, there, both)) in
    let parts = length-append workspaces end.ds in
    omega (arith, same, parts, end.even)
