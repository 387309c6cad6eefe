-- The check still follows a run where slots are written, and where agents, slots and places are added.
use Rattle.std.proofs.Common.{◌≡◌, ◌≢◌, ℕ, ◌+◌, ◌<◌, ◌≤◌, ◌⊎◌, inl, inr, Bool, false, cond, ◌==◌, List, [], ◌∷◌, ◌++◌}
use Rattle.std.proofs.Common.{ap, refl, sym}
use Rattle.std.proofs.Common.{◌∙◌, subst, arith, length, max, suc, zero, replicate, get_or, slice_index, slice_set}
use Rattle.std.proofs.Common.{slice_index_or, Contains}
use Rattle.std.proofs.Common.{true≢false}
use Rattle.std.proofs.lemmas.Bool.{eqb-true, eq-eqb}
use Rattle.std.proofs.lemmas.List.{get_or-set_other, length-append, length-replicate}
use Rattle.tagents.specs.Agents.{Agents}
use Rattle.tagents.specs.Clocks.{Entry}
use Rattle.tagents.specs.Tables.{Accesses, Table}
use Rattle.tclocks.specs.declared.step.Step.{Step}
use Rattle.tclocks.specs.declared.step.Access.{Access}
use Rattle.tclocks.specs.Clocks.{joined}
use Rattle.tclocks.specs.Checks.{Check, clock_of, clock_in, accesses_at, steps_of, HasCounted, with_agent, with_slot}
use Rattle.tclocks.specs.Checks.{with_places, with_handed, with_added, with_cleared}
use Rattle.tclocks.specs.Numbers.{Numbers, AreNumbers}
use Rattle.tclocks.specs.Followed.{OneOf, counted, IsWithin, entry_of, CountsToo, EachClock, IsCovered, AreOrdered}
use Rattle.tclocks.specs.Followed.{IsClockOf, IsClockBy, Follows}
use Rattle.tclocks.specs.Laws.{with_writers}
use Rattle.tclocks.proofs.Lists.{test, each-more, one-more}
use Rattle.tclocks.proofs.ClockLemmas.{slice_index-joined}
use Rattle.tclocks.proofs.Joining.{same-or-not, is-max, counts-joined}

-- a list with defaults behind its end
pub get_or-defaults : {A : Type 0} (xs ys : List A) (i : ℕ) (d : A) → ((k : ℕ) → get_or ys k d ≡ d)
    → get_or (xs ++ ys) i d ≡ get_or xs i d
get_or-defaults [] ys i d all = all i
get_or-defaults (x ∷ xs) ys zero d all = refl
get_or-defaults (x ∷ xs) ys (suc i) d all = get_or-defaults xs ys i d all

pub get_or-copies : {A : Type 0} (n k : ℕ) (d : A) → get_or (replicate n d) k d ≡ d
get_or-copies zero k d = refl
get_or-copies (suc n) zero d = refl
get_or-copies (suc n) (suc k) d = get_or-copies n k d

get_or-end : {A : Type 0} (xs : List A) (x d : A) → get_or (xs ++ x ∷ []) (length xs) d ≡ x
get_or-end [] x d = refl
get_or-end (y ∷ ys) x d = get_or-end ys x d

get_or-before : {A : Type 0} (xs : List A) (x d : A) (i : ℕ) → i ≢ length xs → get_or (xs ++ x ∷ []) i d ≡ get_or xs i d
get_or-before [] x d zero other = absurd (other refl)
get_or-before [] x d (suc i) other = refl
get_or-before (y ∷ ys) x d zero other = refl
get_or-before (y ∷ ys) x d (suc i) other = get_or-before ys x d i (λ e. other (omega (arith, e)))

get_or-behind : {A : Type 0} (xs : List A) (d : A) → get_or xs (length xs) d ≡ d
get_or-behind [] d = refl
get_or-behind (x ∷ xs) d = get_or-behind xs d

-- a list in which one was set has that one there, or ends before
set-one : {A : Type 0} (xs : List A) (i : ℕ) (x d : A)
    → (get_or (slice_set xs i x) i d ≡ x) ⊎ (get_or (slice_set xs i x) i d ≡ d)
set-one [] i x d = inr refl
set-one (y ∷ ys) zero x d = inl refl
set-one (y ∷ ys) (suc i) x d = set-one ys i x d

-- what holds of all in a list, and behind it, still does where one is set
pub each-set : {A : Type 0} (P : A → Type 0) (xs : List A) (i : ℕ) (x d : A) → P x → P d → ((k : ℕ) → P (get_or xs k d))
    → (k : ℕ) → P (get_or (slice_set xs i x) k d)
each-set P xs i x d here behind each k = elim (same-or-not k i) as (λ _. P (get_or (slice_set xs i x) k d)) [
  | inr away ↦ subst P (sym (get_or-set_other xs i k x d away)) (each k)
  | inl e ↦ subst (λ (j : ℕ). P (get_or (slice_set xs i x) j d)) (sym e)
      (elim (set-one xs i x d) as (λ _. P (get_or (slice_set xs i x) i d)) [
        | inl s ↦ subst P (sym s) here
        | inr s ↦ subst P (sym s) behind
      ])
]

-- a clock with no counts counts steps of an agent with a step, if all clocks do: there are slots that are not there
nothing-counts : (step : Step) (agent n : ℕ) (check : Check) → EachClock (CountsToo step agent n) check
    → CountsToo step agent n []
nothing-counts step agent n check tells =
    subst (λ (c : List ℕ). CountsToo step agent n c) (get_or-behind check.slots []) (tells.slots (length check.slots))

-- one more agent has done nothing
abbrev pub zeros : Check → List ℕ
zeros check = replicate (length check.clocks + 1) 0

clock-old : (check : Check) (i : ℕ) → i ≢ length check.clocks → clock_of (with_agent check) i ≡ clock_of check i
clock-old check i other = get_or-before check.clocks (zeros check) [] i other

-- so each clock has counted what it had
pub counts-stay : (check : Check) (i j : ℕ)
    → slice_index (clock_of (with_agent check) i) j ≡ slice_index (clock_of check i) j
counts-stay check i j = elim (same-or-not i (length check.clocks)) as
    (λ _. slice_index (clock_of (with_agent check) i) j ≡ slice_index (clock_of check i) j) [
      | inl e ↦ subst (λ (k : ℕ). slice_index (clock_of (with_agent check) k) j ≡ slice_index (clock_of check k) j)
          (sym e)
          (ap (λ (c : List ℕ). slice_index c j) (get_or-end check.clocks (zeros check) [])
          ∙ get_or-copies (length check.clocks + 1) j 0
          ∙ sym (ap (λ (c : List ℕ). slice_index c j) (get_or-behind check.clocks [])))
      | inr other ↦ ap (λ (c : List ℕ). slice_index c j) (clock-old check i other)
    ]

eqb-apart : (i j : ℕ) → (i == j) ≡ false → i ≡ j → ⊥
eqb-apart i j h e = true≢false (sym (eq-eqb i j e) ∙ h)

module _ {State Agent Label Place Kind : Type 0} (m : Agents State Agent Label) (accesses : Accesses Place Kind Label)
    (numbers : Numbers Agent Place Kind) where
  module _ (entries : List (Entry Agent Label)) (table : Table m accesses) (writers : ℕ → List Label) (check : Check)
      (seen : Follows m accesses numbers entries table writers check) where
    by-nobody : (some : List Label) → IsClockBy m numbers entries check some []
    by-nobody some = record {
      within = λ i. omega arith;
      known = λ a. inl refl;
    }

    -- other slots, and the same places
    with_slots : (slots : List (List ℕ)) (places : List (List Access)) (others : ℕ → List Label)
        → ((place : ℕ) → slice_index_or places place [] ≡ accesses_at check place)
        → ((slot : ℕ) → IsClockBy m numbers entries check (others slot) (slice_index_or slots slot []))
        → ((step : Step) (agent n : ℕ) → EachClock (CountsToo step agent n) check → (slot : ℕ)
        → CountsToo step agent n (slice_index_or slots slot []))
        → Follows m accesses numbers entries table others (record check { slots = slots; places = places })
    with_slots slots places others same written tell = record {
      numbered = record {
        same = seen.numbered.same;
        collide = seen.numbered.collide;
        apart = seen.numbered.apart;
      };
      passed = seen.passed;
      agents = seen.agents;
      places = seen.places;
      pasts = seen.pasts;
      clocks = λ i h. (let was : IsClockOf m numbers entries check i (clock_of check i) = seen.clocks i h in record {
        long = was.long;
        within = was.within;
        known = was.known;
      });
      slots = λ slot. record {
        within = (written slot).within;
        known = (written slot).known;
      };
      tables = seen.tables;
      kept = λ place access has. seen.kept place access
          (subst (λ (list : List Access). Contains list access) (same place) has);
      covered = λ p k a. elim (seen.covered p k a) as
          (λ _. IsCovered (record check { slots = slots; places = places })
          (slice_index_or places (numbers.place p) []) (numbers.mode p k) (numbers.agent a) (table p k a)) [
            | inl none ↦ inl none
            | inr (access, has, over, tells) ↦ inr (
              access,
              subst (λ (list : List Access). Contains list access) (sym (same (numbers.place p))) has,
              over,
              record {
                agents = tells.agents;
                slots = tell access.step (numbers.agent a) (table p k a) tells;
              },
            )
          ];
      ordered = λ place. subst (λ (list : List Access). AreOrdered check list) (sym (same place)) (seen.ordered place);
    }

    -- one slot was written
    pub with_written : (slot : ℕ) (some : List Label) (clock : List ℕ) → IsClockBy m numbers entries check some clock
        → ((step : Step) (agent n : ℕ) → EachClock (CountsToo step agent n) check → CountsToo step agent n clock)
        → Follows m accesses numbers entries table (with_writers slot some writers)
        (record check { slots = slice_set check.slots slot clock })
    with_written slot some clock written tell =
        with_slots (slice_set check.slots slot clock) check.places (with_writers slot some writers) (λ place. refl)
        (λ other. elim (test (other == slot)) as
        (λ _. IsClockBy m numbers entries check (with_writers slot some writers other)
        (slice_index_or (slice_set check.slots slot clock) other [])) [
          | inl same ↦
              subst (λ (b : Bool). IsClockBy m numbers entries check (cond b some (writers other))
              (slice_index_or (slice_set check.slots slot clock) other [])) (sym same)
              (subst (λ (i : ℕ). IsClockBy m numbers entries check some
              (slice_index_or (slice_set check.slots slot clock) i [])) (sym (eqb-true other slot same))
              (elim (set-one check.slots slot clock []) as
              (λ _. IsClockBy m numbers entries check some
              (slice_index_or (slice_set check.slots slot clock) slot [])) [
                | inl e ↦ subst (λ (c : List ℕ). IsClockBy m numbers entries check some c) (sym e) written
                | inr e ↦ subst (λ (c : List ℕ). IsClockBy m numbers entries check some c) (sym e) (by-nobody some)
              ]))
          | inr away ↦
              subst (λ (b : Bool). IsClockBy m numbers entries check (cond b some (writers other))
              (slice_index_or (slice_set check.slots slot clock) other [])) (sym away)
              (subst (λ (c : List ℕ). IsClockBy m numbers entries check (writers other) c)
              (sym (get_or-set_other check.slots slot other clock [] (λ e. eqb-apart other slot away e)))
              (seen.slots other))
        ])
        (λ step agent n tells other. each-set (CountsToo step agent n) check.slots slot clock []
        (tell step agent n tells) (nothing-counts step agent n check tells) tells.slots other)

    pub cleared : (slot : ℕ) → Follows m accesses numbers entries table (with_writers slot [] writers)
        (with_cleared slot check)
    cleared slot = with_written slot [] [] (by-nobody [])
        (λ step agent n tells. nothing-counts step agent n check tells)

    pub slot_added : Follows m accesses numbers entries table writers (with_slot check)
    slot_added =
        with_slots (check.slots ++ [] ∷ []) check.places writers (λ place. refl)
        (λ slot. subst (λ (c : List ℕ). IsClockBy m numbers entries check (writers slot) c)
        (sym (get_or-defaults check.slots ([] ∷ []) slot [] (λ k. get_or-copies 1 k [])))
        (seen.slots slot))
        (λ step agent n tells slot. subst (λ (c : List ℕ). CountsToo step agent n c)
        (sym (get_or-defaults check.slots ([] ∷ []) slot [] (λ k. get_or-copies 1 k []))) (tells.slots slot))

    pub places_added : (count : ℕ) → Follows m accesses numbers entries table writers (with_places count check)
    places_added count =
        with_slots check.slots (check.places ++ replicate count []) writers
        (λ place. get_or-defaults check.places (replicate count []) place [] (λ k. get_or-copies count k []))
        seen.slots (λ step agent n tells. tells.slots)

    steps-stay : (i : ℕ) → steps_of (with_agent check) i ≡ steps_of check i
    steps-stay i = counts-stay check i i

    within-stays : (clock : List ℕ) → IsWithin check clock → IsWithin (with_agent check) clock
    within-stays clock within i = let few : slice_index clock i ≤ steps_of check i = within i in
        omega (arith, few, steps-stay i)

    length-more : length (with_agent check).clocks ≡ length check.clocks + 1
    length-more = length-append check.clocks (zeros check ∷ [])

    pub agent_added : AreNumbers m accesses numbers (with_agent check)
        → Follows m accesses numbers entries table writers (with_agent check)
    agent_added numbered = record {
      numbered = numbered;
      passed = seen.passed;
      agents = each-more (λ z. numbers.agent (m.agent_of z.label) < length check.clocks)
          (λ z. numbers.agent (m.agent_of z.label) < length (with_agent check).clocks)
          (λ z h. omega (arith, h, length-more)) entries seen.agents;
      places = each-more (λ z. z.place ≤ steps_of check (numbers.agent (m.agent_of z.label)))
          (λ z. z.place ≤ steps_of (with_agent check) (numbers.agent (m.agent_of z.label)))
          (λ z h. omega (arith, h, steps-stay (numbers.agent (m.agent_of z.label)))) entries seen.places;
      pasts = each-more (λ z. (a : Agent) → z.past a ≤ steps_of check (numbers.agent a))
          (λ z. (a : Agent) → z.past a ≤ steps_of (with_agent check) (numbers.agent a))
          (λ z h a. (let few : z.past a ≤ steps_of check (numbers.agent a) = h a in
          omega (arith, few, steps-stay (numbers.agent a)))) entries seen.pasts;
      clocks = λ i h. elim (same-or-not i (length check.clocks)) as
          (λ _. IsClockOf m numbers entries (with_agent check) i (clock_of (with_agent check) i)) [
            | inl e ↦ subst (λ (c : List ℕ). IsClockOf m numbers entries (with_agent check) i c)
                (sym (ap (λ (j : ℕ). clock_of (with_agent check) j) e
                ∙ get_or-end check.clocks (zeros check) [])) record {
                  long = omega (arith, e, length-replicate {A = ℕ} (length check.clocks + 1) 0);
                  within = λ k. omega (arith, get_or-copies {A = ℕ} (length check.clocks + 1) k 0);
                  known = λ a other. inl (get_or-copies (length check.clocks + 1) (numbers.agent a) 0);
                }
            | inr other ↦
                let was : IsClockOf m numbers entries check i (clock_of check i) =
                seen.clocks i (omega (arith, h, other, length-more)) in
                subst (λ (c : List ℕ). IsClockOf m numbers entries (with_agent check) i c)
                (sym (clock-old check i other)) record {
                  long = was.long;
                  within = within-stays (clock_of check i) was.within;
                  known = was.known;
                }
          ];
      slots = λ slot. (let was : IsClockBy m numbers entries check (writers slot) (clock_in check slot) =
          seen.slots slot in record {
            within = within-stays (clock_in check slot) was.within;
            known = was.known;
          });
      tables = λ p k a. (let few : table p k a ≤ steps_of check (numbers.agent a) = seen.tables p k a in
          omega (arith, few, steps-stay (numbers.agent a)));
      kept = λ place access has. (let few : access.step.number ≤ steps_of check access.step.agent =
          seen.kept place access has in
          omega (arith, few, steps-stay access.step.agent));
      covered = λ p k a. elim (seen.covered p k a) as
          (λ _. IsCovered (with_agent check) (accesses_at check (numbers.place p)) (numbers.mode p k) (numbers.agent a)
          (table p k a)) [
            | inl none ↦ inl none
            | inr (access, has, over, tells) ↦ inr (
              access,
              has,
              over,
              record {
                agents = λ i counts. (let more : table p k a ≤ slice_index (clock_of check i) (numbers.agent a) =
                    tells.agents i (subst (λ (c : ℕ). access.step.number ≤ c) (counts-stay check i access.step.agent)
                    counts) in
                    omega (arith, more, counts-stay check i (numbers.agent a)));
                slots = tells.slots;
              },
            )
          ];
      ordered = λ place x y has had hits. elim (seen.ordered place x y has had hits) as
          (λ _. HasCounted (with_agent check) x.step.agent y.step ⊎ HasCounted (with_agent check) y.step.agent x.step) [
            | inl h ↦ inl (subst (λ (c : ℕ). y.step.number ≤ c) (sym (counts-stay check x.step.agent y.step.agent)) h)
            | inr h ↦ inr (subst (λ (c : ℕ). x.step.number ≤ c) (sym (counts-stay check y.step.agent x.step.agent)) h)
          ];
    }

  -- the clock of the agent that did the last step, handed on
  module _ (earlier : List (Entry Agent Label)) (table : Table m accesses) (writers : ℕ → List Label) (check : Check)
      (label : Label)
      (seen : Follows m accesses numbers (entry_of m numbers label check ∷ earlier) table writers check) where
    abbrev x : ℕ
    x = numbers.agent (m.agent_of label)

    abbrev all : List (Entry Agent Label)
    all = entry_of m numbers label check ∷ earlier

    own : IsClockOf m numbers all check x (clock_of check x)
    own = seen.clocks x seen.agents.0

    pub handed : (slot : ℕ) → Follows m accesses numbers all table (with_writers slot (label ∷ []) writers)
        (with_handed x slot check)
    handed slot = with_written all table writers check seen slot (label ∷ []) (clock_of check x) record {
      within = own.within;
      known = λ a. inr (inl (inl refl, omega arith));
    } (λ step agent n tells. tells.agents x)

    pub added : (slot : ℕ) → Follows m accesses numbers all table (with_writers slot (label ∷ writers slot) writers)
        (with_added x slot check)
    added slot =
        let was : IsClockBy m numbers all check (writers slot) (clock_in check slot) = seen.slots slot in
        let both : (i : ℕ) → slice_index (joined (clock_in check slot) (clock_of check x)) i
        ≡ max (slice_index (clock_in check slot) i) (slice_index (clock_of check x) i) =
        slice_index-joined (clock_in check slot) (clock_of check x) in
        with_written all table writers check seen slot (label ∷ writers slot)
        (joined (clock_in check slot) (clock_of check x)) record {
          within = λ i. (let first : slice_index (clock_in check slot) i ≤ steps_of check i = was.within i in
              let second : slice_index (clock_of check x) i ≤ steps_of check i = own.within i in
              omega (arith, first, second, both i));
          known = λ a. elim (is-max (counted numbers (clock_in check slot) a) (counted numbers (clock_of check x) a)) as
              (λ _. (counted numbers (joined (clock_in check slot) (clock_of check x)) a ≡ 0)
              ⊎ OneOf (λ z. OneOf (λ writer. writer ≡ z.label) (label ∷ writers slot)
              × (counted numbers (joined (clock_in check slot) (clock_of check x)) a ≤ z.past a)) all) [
                | inl first ↦ from_slot a (both (numbers.agent a) ∙ first) (was.known a)
                | inr second ↦ inr (inl (inl refl, omega (arith, both (numbers.agent a), second)))
              ];
        }
        (λ step agent n tells. counts-joined step agent n (clock_in check slot) (clock_of check x) (tells.slots slot)
        (tells.agents x))
      where
        from_slot : (a : Agent)
            → counted numbers (joined (clock_in check slot) (clock_of check x)) a
            ≡ counted numbers (clock_in check slot) a
            → (counted numbers (clock_in check slot) a ≡ 0)
            ⊎ OneOf (λ z. OneOf (λ writer. writer ≡ z.label) (writers slot)
            × (counted numbers (clock_in check slot) a ≤ z.past a)) all
            → (counted numbers (joined (clock_in check slot) (clock_of check x)) a ≡ 0)
            ⊎ OneOf (λ z. OneOf (λ writer. writer ≡ z.label) (label ∷ writers slot)
            × (counted numbers (joined (clock_in check slot) (clock_of check x)) a ≤ z.past a)) all
        from_slot a e (inl none) = inl (e ∙ none)
        from_slot a e (inr one) = inr (one-more
            (λ z. OneOf (λ writer. writer ≡ z.label) (writers slot)
            × (counted numbers (clock_in check slot) a ≤ z.past a))
            (λ z. OneOf (λ writer. writer ≡ z.label) (label ∷ writers slot)
            × (counted numbers (joined (clock_in check slot) (clock_of check x)) a ≤ z.past a))
            (λ z h. (inr h.0, omega (arith, h.1, e))) all one)
