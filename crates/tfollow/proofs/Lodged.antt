-- Berths of a node that steps take and leave.
use Rattle.std.proofs.Common.{◌≡◌, ◌≢◌, ℕ, zero, suc, ◌+◌, ◌<◌, refl, sym, ap, ◌∙◌, subst, arith, inl, inr, Bool, true}
use Rattle.std.proofs.Common.{false, true≢false, List, [], ◌∷◌, ◌++◌, length, map, reverse, Option, Some, None}
use Rattle.std.proofs.Common.{slice_get, slice_index, slice_set, append-nil}
use Rattle.std.specs.Prelude.{◌&&◌, ◌||◌, ◌==◌, All, get_or, if◌then◌else◌}
use Rattle.std.specs.List.{count_by}
use Rattle.std.proofs.lemmas.Bool.{or_left, or_right, and_parts, eqb-true, eq-eqb}
use Rattle.std.proofs.lemmas.List.{append_assoc, length-append, length-map, length-set}
use Rattle.std.proofs.lemmas.List.Elements.{All-nil, All-cons, All-head, All-tail, All-weaker}
use Rattle.std.proofs.lemmas.Option.{get_or_from_slice_get, same_Some, slice_get_within}
use Rattle.tplan.specs.declared.plan.Plan.{Plan}
use Rattle.tagents.specs.Chains.{IsChained}
use Rattle.tagents.specs.Tidy.{HoldsOfEach}
use Rattle.tagents.specs.PlaceTurns.{is_free, IsAfterLast, HasPlaceTurnAt}
use Rattle.tagents.proofs.Placed.{places_are_shown_by_each, places_may_be_given}
use Rattle.tclocks.specs.declared.step.Step.{Step}
use Rattle.tclocks.specs.Checks.{Check, last_step}
use Rattle.tclocks.proofs.Lists.{test}
use Rattle.tprocesses.specs.Places.{Name}
use Rattle.tprocesses.specs.Machine.{Agent}
use Rattle.tprocesses.specs.Certified.{ProcessStep, machine_of, begins, ends}
use Rattle.tprocesses.specs.Lives.{lodger}
use Rattle.tprocesses.proofs.Living.{places_let_few_live}
use Rattle.tprocesses.proofs.Tally.{one_if, count_front}
use Rattle.tcertify.specs.Running.{State}
use Rattle.tcode.proofs.Tables.{set_cases}
use Rattle.tfollow.specs.declared.berth.Berth.{Berth}
use Rattle.tfollow.specs.Numbering.{Places, AgentNumbers}
use Rattle.tfollow.specs.Following.{IsDone, IsFollowed}
use Rattle.tfollow.specs.Lodging.{number_of_name, IsListed, berth_among, berth_of, takes, leaves, moves, NoneMoves}
use Rattle.tfollow.specs.Lodging.{HasLastMove, IsBerth, AreLodged, HasCountedIfAny, LodgingBegins}
use Rattle.tfollow.specs.Lodging.{LodgedAgentsMayCome, OthersKeepBerths, BeginningsTakeBerths, EndsLeaveBerths}
use Rattle.tfollow.specs.Lodging.{BerthsLetFewLive}
use Rattle.tfollow.proofs.Agreeing.{done-agree}
use Rattle.tfollow.proofs.Counting.{done-still}
use Rattle.tfollow.proofs.Running.{turned}
use Rattle.tfollow.proofs.Handing.{starts_with}
use Rattle.tfollow.proofs.Ending.{certified}
use Rattle.tfollow.proofs.Chained.{counted_steps_are_chained}
use Rattle.tfollow.proofs.Named.{name-last, lodger-kept, berth-last}

-- what holds of all of a list holds of each, and of its parts
module _ {A : Type 0} (P : A → Type 0) where
  each-of : (xs : List A) → All P xs → HoldsOfEach P xs
  each-of [] h = tt
  each-of (x ∷ xs) h = (All-head P x xs h, each-of xs (All-tail P x xs h))

  all-front : (xs ys : List A) → All P (xs ++ ys) → All P xs
  all-front [] ys h = All-nil P
  all-front (x ∷ xs) ys h =
      All-cons P x xs (All-head P x (xs ++ ys) h) (all-front xs ys (All-tail P x (xs ++ ys) h))

  all-back : (xs ys : List A) → All P (xs ++ ys) → All P ys
  all-back [] ys h = h
  all-back (x ∷ xs) ys h = all-back xs ys (All-tail P x (xs ++ ys) h)

-- a test at a berth, where the berth is the same, is this one, or is another one
same-part : (b : Bool) (k p q : ℕ) → (b ≡ true → q ≡ p) → (b && (q == k)) ≡ (b && (p == k))
same-part true k p q same = ap (λ (i : ℕ). i == k) (same refl)
same-part false k p q same = refl

own-part : (b : Bool) (k p : ℕ) → p ≡ k → (b && (p == k)) ≡ b
own-part true k p same = eq-eqb p k same
own-part false k p same = refl

other-part : (b : Bool) (j k p : ℕ) → p ≡ k → j ≢ k → (b && (p == j)) ≡ false
other-part true j k p same other = elim (test (p == j)) as (λ _. (p == j) ≡ false) [
  | inl here ↦ absurd (other (sym (eqb-true p j here) ∙ same))
  | inr differ ↦ differ
]
other-part false j k p same other = refl

-- more names and homes, where who is listed has the same berth
module _ (plan : Plan) (n : ℕ) (group : AgentNumbers) (names more : List Name) (homes rooms : List ℕ)
    (kept : (l : Option Name) → IsListed names l
    → IsListed more l × (berth_among more rooms l ≡ berth_among names homes l)) where
  abbrev Lists : ProcessStep → Type 0
  Lists e = (begins n e || ends n e) ≡ true → IsListed names (lodger e)

  berth-same : (e : ProcessStep) → Lists e → (begins n e || ends n e) ≡ true
      → berth_of plan n group more rooms e ≡ berth_of plan n group names homes e
  berth-same e h b = (kept (lodger e) (h b)).1

  takes-same : (k : ℕ) (e : ProcessStep) → Lists e
      → takes plan n group more rooms k e ≡ takes plan n group names homes k e
  takes-same k e h =
      same-part (begins n e) k (berth_of plan n group names homes e) (berth_of plan n group more rooms e)
      (λ b. berth-same e h (or_left (begins n e) (ends n e) b))

  leaves-same : (k : ℕ) (e : ProcessStep) → Lists e
      → leaves plan n group more rooms k e ≡ leaves plan n group names homes k e
  leaves-same k e h =
      same-part (ends n e) k (berth_of plan n group names homes e) (berth_of plan n group more rooms e)
      (λ b. berth-same e h (or_right (begins n e) (ends n e) b))

  moves-same : (k : ℕ) (e : ProcessStep) → Lists e
      → moves plan n group more rooms k e ≡ moves plan n group names homes k e
  moves-same k e h = λ i. takes-same k e h i || leaves-same k e h i

  free-same : (k : ℕ) (b : Bool) (steps : List ProcessStep) → All Lists steps
      → is_free (takes plan n group more rooms k) (leaves plan n group more rooms k) b steps
      ≡ is_free (takes plan n group names homes k) (leaves plan n group names homes k) b steps
  free-same k b [] h = refl
  free-same k b (e ∷ es) h =
      let here : Lists e = All-head Lists e es h in
      let rest : is_free (takes plan n group more rooms k) (leaves plan n group more rooms k) b es
      ≡ is_free (takes plan n group names homes k) (leaves plan n group names homes k) b es =
      free-same k b es (All-tail Lists e es h) in
      λ i. if takes-same k e here i then false else if leaves-same k e here i then true else rest i

  none-same : (k : ℕ) (steps : List ProcessStep) → All Lists steps → NoneMoves plan n group names homes k steps
      → NoneMoves plan n group more rooms k steps
  none-same k steps h none = λ i d l. moves-same k (get_or steps i d) (h i d l) ∙ none i d l

  last-same : (k : ℕ) (steps : List ProcessStep) (last : Option Step) → All Lists steps
      → HasLastMove plan n group names homes k steps last → HasLastMove plan n group more rooms k steps last
  last-same k steps None h none = none-same k steps h none
  last-same k steps (Some step) h move =
      let parts : All Lists (move.done.later ++ move.done.label ∷ move.done.before) =
      subst (λ (list : List ProcessStep). All Lists list) move.done.within h in
      let rest : All Lists (move.done.label ∷ move.done.before) =
      all-back Lists move.done.later (move.done.label ∷ move.done.before) parts in record {
        done = move.done;
        moved = moves-same k move.done.label (All-head Lists move.done.label move.done.before rest) ∙ move.moved;
        none = none-same k move.done.later
            (all-front Lists move.done.later (move.done.label ∷ move.done.before) parts) move.none;
      }

  lodged-more : (steps : List ProcessStep) (berths : List Berth) → length rooms ≡ length more
      → AreLodged plan n group names homes steps berths → AreLodged plan n group more rooms steps berths
  lodged-more steps berths housed l =
      record {
        first = l.first;
        as_many = l.as_many;
        few = l.few;
        housed = housed;
        listed = All-weaker Lists (λ e. (begins n e || ends n e) ≡ true → IsListed more (lodger e))
            (λ e h b. (kept (lodger e) (h b)).0) steps l.listed;
        places = places_may_be_given State Agent ProcessStep (machine_of plan) (begins n) (ends n)
            (berth_of plan n group names homes) (berth_of plan n group more rooms) l.first steps
            (each-of (λ e. (begins n e || ends n e) ≡ true
            → berth_of plan n group more rooms e ≡ berth_of plan n group names homes e) steps
            (λ i d h. berth-same (get_or steps i d) (l.listed i d h))) l.places;
        each = λ k berth get. (let was : IsBerth plan n group names homes l.first k steps berth =
            l.each k berth get in record {
              free = free-same k (get_or l.first k false) steps l.listed ∙ was.free;
              last = last-same k steps berth.last l.listed was.last;
            });
      }

-- a berth that a step does not take or leave
module _ (plan : Plan) (n : ℕ) (group : AgentNumbers) (names : List Name) (homes : List ℕ) (step : ProcessStep)
    (steps : List ProcessStep) where
  last-still : (k : ℕ) (last : Option Step) → moves plan n group names homes k step ≡ false
      → HasLastMove plan n group names homes k steps last
      → HasLastMove plan n group names homes k (step ∷ steps) last
  last-still k None still none = All-cons (λ e. moves plan n group names homes k e ≡ false) step steps still none
  last-still k (Some s) still move = record {
    done = done-still group steps step s move.done;
    moved = move.moved;
    none = All-cons (λ e. moves plan n group names homes k e ≡ false) step move.done.later still move.none;
  }

  berth-still : (first : List Bool) (k : ℕ) (berth : Berth) → takes plan n group names homes k step ≡ false
      → leaves plan n group names homes k step ≡ false → IsBerth plan n group names homes first k steps berth
      → IsBerth plan n group names homes first k (step ∷ steps) berth
  berth-still first k berth no-take no-leave was = record {
    free = (λ i. if no-take i then false else if no-leave i then true else is_free
        (takes plan n group names homes k) (leaves plan n group names homes k) (get_or first k false) steps)
        ∙ was.free;
    last = last-still k berth.last (λ i. no-take i || no-leave i) was.last;
  }

-- a step that takes or leaves its berth
module _ (plan : Plan) (n : ℕ) (places : Places) (group : AgentNumbers) (agents : List Agent) (names : List Name)
    (homes : List ℕ) (step : ProcessStep) (steps : List ProcessStep) (check : Check) (state : State)
    (f : IsFollowed plan places group agents (step ∷ steps) check state) where
  abbrev IsAfter : ℕ → List ProcessStep → List ProcessStep → Type 0
  IsAfter k es between =
      IsAfterLast (machine_of plan) (takes plan n group names homes k) (leaves plan n group names homes k) es
      between step

  after-none : (k : ℕ) (es between : List ProcessStep) → NoneMoves plan n group names homes k es
      → IsAfter k es between
  after-none k [] between none = tt
  after-none k (e ∷ es) between none =
      let P : ProcessStep → Type 0 = λ d. moves plan n group names homes k d ≡ false in
      inr (All-head P e es none, after-none k es (e ∷ between) (All-tail P e es none))

  after-later : (k : ℕ) (later rest between : List ProcessStep) → NoneMoves plan n group names homes k later
      → IsAfter k rest (reverse later ++ between) → IsAfter k (later ++ rest) between
  after-later k [] rest between none h = h
  after-later k (e ∷ es) rest between none h =
      let P : ProcessStep → Type 0 = λ d. moves plan n group names homes k d ≡ false in
      inr (
        All-head P e es none,
        after-later k es rest (e ∷ between) (All-tail P e es none)
            (subst (λ (list : List ProcessStep). IsAfter k rest list)
            (ap (λ (list : List ProcessStep). list ++ between) (turned e es)
            ∙ append_assoc (reverse es) (e ∷ []) between) h),
      )

  after-last : (k : ℕ) (last : Option Step) → HasLastMove plan n group names homes k steps last
      → HasCountedIfAny check (group step.agent) last → IsAfter k steps []
  after-last k None none knows = after-none k steps [] none
  after-last k (Some s) move knows =
      let chain : IsChained (machine_of plan) move.done.label (reverse move.done.later) step =
      counted_steps_are_chained plan places group agents step steps check state s f move.done knows in
      subst (λ (list : List ProcessStep). IsAfter k list []) (sym move.done.within)
      (after-later k move.done.later (move.done.label ∷ move.done.before) [] move.none
      (inl (
        move.moved,
        subst (λ (list : List ProcessStep). IsChained (machine_of plan) move.done.label list step)
            (sym (append-nil (reverse move.done.later))) chain,
      )))

  -- the step is now the last one
  abbrev last : Step
  last = last_step check (group step.agent)

  abbrev done : IsDone group (step ∷ steps) last
  done = record {
    later = [];
    label = step;
    before = steps;
    within = refl;
    agent = refl;
    number = f.counted.counts (group step.agent)
        (starts_with plan places group agents step steps check state f).seen.seen.follows.agents.0;
  }

  module _ (berths : List Berth) (l : AreLodged plan n group names homes steps berths) (x : Name) (k : ℕ)
      (berth : Berth) (is-its : lodger step ≡ Some x) (listed : number_of_name names x < length names)
      (home : slice_index homes (number_of_name names x) ≡ k) (get : slice_get berths k ≡ Some berth)
      (knows : HasCountedIfAny check (group step.agent) berth.last)
      (moved : (begins n step || ends n step) ≡ true) (was-free : begins n step ≡ true → berth.is_free ≡ true)
      (was-taken : ends n step ≡ true → berth.is_free ≡ false) (free : Bool)
      (leaves-so : (b : Bool) → (if begins n step then false else if ends n step then true else b) ≡ free) where
    its-berth : berth_of plan n group names homes step ≡ k
    its-berth = ap (berth_among names homes) is-its ∙ home

    abbrev now : Berth
    now = record { is_free = free; last = Some last }

    own-berth : IsBerth plan n group names homes l.first k (step ∷ steps) now
    own-berth =
        let took : takes plan n group names homes k step ≡ begins n step =
        own-part (begins n step) k (berth_of plan n group names homes step) its-berth in
        let left : leaves plan n group names homes k step ≡ ends n step =
        own-part (ends n step) k (berth_of plan n group names homes step) its-berth in
        let before : Bool = is_free (takes plan n group names homes k) (leaves plan n group names homes k)
        (get_or l.first k false) steps in record {
          free = (λ i. if took i then false else if left i then true else before) ∙ leaves-so before;
          last = record {
            done = done;
            moved = (λ i. took i || left i) ∙ moved;
            none = All-nil (λ e. moves plan n group names homes k e ≡ false);
          };
        }

    each : (j : ℕ) (b : Berth) → slice_get (slice_set berths k now) j ≡ Some b
        → IsBerth plan n group names homes l.first j (step ∷ steps) b
    each j b h =
        elim (set_cases berths k now j b h) as (λ _. IsBerth plan n group names homes l.first j (step ∷ steps) b) [
          | inl here ↦
              subst (λ (i : ℕ). IsBerth plan n group names homes l.first i (step ∷ steps) b) (sym here.0)
              (subst (λ (c : Berth). IsBerth plan n group names homes l.first k (step ∷ steps) c) here.1 own-berth)
          | inr other ↦
              berth-still plan n group names homes step steps l.first j b
              (other-part (begins n step) j k (berth_of plan n group names homes step) its-berth other.0)
              (other-part (ends n step) j k (berth_of plan n group names homes step) its-berth other.0)
              (l.each j b other.1)
        ]

    turn : HasPlaceTurnAt (machine_of plan) (begins n) (ends n) (berth_of plan n group names homes) l.first k steps
        step
    turn =
        let was : IsBerth plan n group names homes l.first k steps berth = l.each k berth get in record {
          takes = λ h. was.free
              ∙ was-free (and_parts (begins n step) (berth_of plan n group names homes step == k) h).0;
          frees = λ h. was.free
              ∙ was-taken (and_parts (ends n step) (berth_of plan n group names homes step == k) h).0;
          after = λ h. after-last k berth.last was.last knows;
        }

    lodged : AreLodged plan n group names homes (step ∷ steps) (slice_set berths k now)
    lodged =
        record {
          first = l.first;
          as_many = l.as_many ∙ sym (length-set berths k now);
          few = l.few;
          housed = l.housed;
          listed = All-cons (λ e. (begins n e || ends n e) ≡ true → IsListed names (lodger e)) step steps
              (λ h. subst (λ (who : Option Name). IsListed names who) (sym is-its) listed) l.listed;
          places = (places_are_shown_by_each State Agent ProcessStep (machine_of plan) (begins n) (ends n)
              (berth_of plan n group names homes) l.first).more steps step l.places
              (λ h. omega (arith, its-berth, slice_get_within berths k berth get, l.as_many))
              (subst (λ (j : ℕ). HasPlaceTurnAt (machine_of plan) (begins n) (ends n)
              (berth_of plan n group names homes) l.first j steps step) (sym its-berth) turn);
          each = each;
        }

pub lodging_begins : LodgingBegins
lodging_begins plan n group names homes berths few housed none =
    record {
      first = map (λ b. b.is_free) berths;
      as_many = length-map berths (λ b. b.is_free);
      few = omega (arith, few, count-map berths);
      housed = housed;
      listed = All-nil (λ e. (begins n e || ends n e) ≡ true → IsListed names (lodger e));
      places = (places_are_shown_by_each State Agent ProcessStep (machine_of plan) (begins n) (ends n)
          (berth_of plan n group names homes) (map (λ b. b.is_free) berths)).none;
      each = λ k berth get. record {
        free = free-first berths k berth get;
        last = last-first k berth.last
            (ap (λ (b : Berth). b.last) (sym (get_or_from_slice_get berths k berth berth get))
            ∙ none k berth (slice_get_within berths k berth get));
      };
    }
  where
    count-map : (bs : List Berth) → count_by (λ b. b) (map (λ b. b.is_free) bs) ≡ count_by (λ b. b.is_free) bs
    count-map [] = refl
    count-map (b ∷ bs) =
        count_front (λ t. t) b.is_free (map (λ c. c.is_free) bs)
        ∙ ap (λ (i : ℕ). one_if b.is_free + i) (count-map bs)
        ∙ sym (count_front (λ c. c.is_free) b bs)

    free-first : (bs : List Berth) (k : ℕ) (berth : Berth) → slice_get bs k ≡ Some berth
        → get_or (map (λ b. b.is_free) bs) k false ≡ berth.is_free
    free-first [] k berth h = absurd cc
    free-first (b ∷ bs) zero berth h = ap (λ (c : Berth). c.is_free) (same_Some b berth h)
    free-first (b ∷ bs) (suc k) berth h = free-first bs k berth h

    last-first : (k : ℕ) (last : Option Step) → last ≡ None → HasLastMove plan n group names homes k [] last
    last-first k last same =
        subst (λ (step : Option Step). HasLastMove plan n group names homes k [] step) (sym same)
        (All-nil (λ e. moves plan n group names homes k e ≡ false))

pub lodged_agents_may_come : LodgedAgentsMayCome
lodged_agents_may_come plan n group more names homes steps berths l agree =
    record {
      first = l.first;
      as_many = l.as_many;
      few = l.few;
      housed = l.housed;
      listed = l.listed;
      places = l.places;
      each = λ k berth get. record {
        free = (l.each k berth get).free;
        last = last k berth.last (l.each k berth get).last;
      };
    }
  where
    last : (k : ℕ) (step : Option Step) → HasLastMove plan n group names homes k steps step
        → HasLastMove plan n more names homes k steps step
    last k None none = none
    last k (Some step) move = record {
      done = done-agree group more steps step agree move.done;
      moved = move.moved;
      none = move.none;
    }

never : {A : Type 0} (b : Bool) → b ≡ false → b ≡ true → A
never b is-false is-true = absurd (true≢false (sym is-true ∙ is-false))

pub others_keep_berths : OthersKeepBerths
others_keep_berths plan n group names homes step steps berths l no-begin no-end =
    record {
      first = l.first;
      as_many = l.as_many;
      few = l.few;
      housed = l.housed;
      listed = All-cons (λ e. (begins n e || ends n e) ≡ true → IsListed names (lodger e)) step steps
          (λ h. never (begins n step || ends n step) (λ i. no-begin i || no-end i) h) l.listed;
      places = (places_are_shown_by_each State Agent ProcessStep (machine_of plan) (begins n) (ends n)
          (berth_of plan n group names homes) l.first).more steps step l.places
          (λ h. never (begins n step) no-begin h) (turn (berth_of plan n group names homes step));
      each = λ k berth get. berth-still plan n group names homes step steps l.first k berth (no-take k) (no-leave k)
          (l.each k berth get);
    }
  where
    no-take : (k : ℕ) → takes plan n group names homes k step ≡ false
    no-take k = λ i. no-begin i && (berth_of plan n group names homes step == k)

    no-leave : (k : ℕ) → leaves plan n group names homes k step ≡ false
    no-leave k = λ i. no-end i && (berth_of plan n group names homes step == k)

    turn : (k : ℕ) → HasPlaceTurnAt (machine_of plan) (begins n) (ends n) (berth_of plan n group names homes) l.first
        k steps step
    turn k = record {
      takes = λ h. never (takes plan n group names homes k step) (no-take k) h;
      frees = λ h. never (leaves plan n group names homes k step) (no-leave k) h;
      after = λ h. never (moves plan n group names homes k step) (λ i. no-take k i || no-leave k i) h;
    }

pub beginnings_take_berths : BeginningsTakeBerths
beginnings_take_berths plan n places group agents names homes step steps check state berths x k berth l f begin no-end
    is-its new get free knows =
    lodged plan n places group agents (names ++ x ∷ []) (homes ++ k ∷ []) step steps check state f berths
    (lodged-more plan n group names (names ++ x ∷ []) homes (homes ++ k ∷ []) (lodger-kept names homes l.housed x k)
    steps berths housed l) x k berth is-its listed (berth-last names homes l.housed x k new) get knows
    (λ i. begin i || ends n step) (λ h. free) (λ h. never (ends n step) no-end h) false
    (λ b i. if begin i then false else if ends n step then true else b)
  where
    housed : length (homes ++ k ∷ []) ≡ length (names ++ x ∷ [])
    housed = omega (arith, l.housed, length-append homes (k ∷ []), length-append names (x ∷ []))

    listed : number_of_name (names ++ x ∷ []) x < length (names ++ x ∷ [])
    listed = omega (arith, name-last names x new, length-append names (x ∷ []))

pub ends_leave_berths : EndsLeaveBerths
ends_leave_berths plan n places group agents names homes step steps check state berths x k berth l f no-begin end is-its
    listed home get taken knows =
    lodged plan n places group agents names homes step steps check state f berths l x k berth is-its listed home get
    knows (λ i. no-begin i || end i) (λ h. never (begins n step) no-begin h) (λ h. taken) true
    (λ b i. if no-begin i then false else if end i then true else b)

pub berths_let_few_live : BerthsLetFewLive
berths_let_few_live plan n places group agents names homes steps check state berths f shut l =
    places_let_few_live plan n steps state (certified plan places group agents steps check state f shut) record {
      place = berth_of plan n group names homes;
      free = l.first;
      places = l.places;
      few = l.few;
    }
