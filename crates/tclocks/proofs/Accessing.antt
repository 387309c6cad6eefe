-- The accesses of a step: what is kept of a place tells of all that was accessed there, and the step knows of all that
-- its accesses collide with.
use Rattle.std.proofs.Common.{◌≡◌, ◌≢◌, ℕ, ◌<◌, ◌≤◌, ◌⊎◌, inl, inr, Bool, true, false, not, cond, ◌&&◌, ◌||◌, ◌==◌}
use Rattle.std.proofs.Common.{List, [], ◌∷◌}
use Rattle.std.proofs.Common.{ap, refl, sym, ◌∙◌, subst, arith, slice_index, nat_le, None, Contains}
use Rattle.std.proofs.Common.{true≢false}
use Rattle.std.proofs.lemmas.Bool.{eqb-true, eq-eqb, leb-true}
use Rattle.std.proofs.lemmas.List.{get_or-set_other}
use Rattle.tagents.specs.Agents.{Agents}
use Rattle.tagents.specs.Tables.{Access as PlaceAccess, Accesses, Table}
use Rattle.tclocks.specs.declared.mode.Mode.{Mode}
use Rattle.tclocks.specs.declared.step.Step.{Step}
use Rattle.tclocks.specs.declared.step.Access.{Access}
use Rattle.tclocks.specs.Modes.{collide, covers}
use Rattle.tclocks.specs.Places.{knows_of, races, first_race, NotesAccess}
use Rattle.tclocks.specs.Checks.{Check, clock_of, clock_in, accesses_at, HasCounted, IsAccessed}
use Rattle.tclocks.specs.Own.{NoneKnowFrom}
use Rattle.tclocks.specs.Numbers.{Numbers}
use Rattle.tclocks.specs.Followed.{EachOf, counted, CountsToo, EachClock, IsCovered, AreOrdered, AreAccessed, HasCover}
use Rattle.tclocks.proofs.Lists.{test, found-none}
use Rattle.tclocks.proofs.ModeLemmas.{both-ways, covers-collide, covers-trans}

-- a test that one of two holds
pub either : (a b : Bool) → (a || b) ≡ true → (a ≡ true) ⊎ (b ≡ true)
either true b h = inl refl
either false b h = inr h

-- what collides and does not race is known
known-one : (a b : Bool) → (a && not b) ≡ false → a ≡ true → b ≡ true
known-one true true h c = refl
known-one true false h c = absurd (true≢false h)
known-one false b h c = absurd (true≢false (sym c))

both : (a b : Bool) → (a && b) ≡ true → (a ≡ true) × (b ≡ true)
both true true h = (refl, refl)
both true false h = absurd (true≢false (sym h))
both false b h = absurd (true≢false (sym h))

both-true : (a b : Bool) → a ≡ true → b ≡ true → (a && b) ≡ true
both-true true true h g = refl
both-true true false h g = g
both-true false b h g = h

pub same-or-not : (i j : ℕ) → (i ≡ j) ⊎ (i ≢ j)
same-or-not i j = grind arith

module _ {State Agent Label Place Kind : Type 0} (m : Agents State Agent Label) (accesses : Accesses Place Kind Label)
    (numbers : Numbers Agent Place Kind) (base : Check) (x n : ℕ) (clock : List ℕ) (bound : ℕ → ℕ) where
  -- the step comes behind the others: its clock, and how many steps each agent has begun
  pub record IsNext : Type 0 where
    pub same : clock_of base x ≡ clock
    pub own : slice_index clock x ≡ n
    pub begun : bound x ≡ n
    pub alone : NoneKnowFrom base x n
    pub collide : (p : Place) (j k : Kind) → accesses.collide j k ≡ true
        → collide (numbers.mode p j) (numbers.mode p k) ≡ true

  abbrev pub step : Step
  step = record { agent = x; number = n }

  -- an access of it
  abbrev made : PlaceAccess ℕ Mode → Access
  made access = record { mode = access.mode; step = step }

  abbrev pub AreKept : Check → Type 0
  AreKept c = (place : ℕ) (access : Access) → Contains (accesses_at c place) access
      → access.step.number ≤ bound access.step.agent

  abbrev pub AreCovered : Check → Table m accesses → Type 0
  AreCovered c table = (p : Place) (k : Kind) (a : Agent)
      → IsCovered base (accesses_at c (numbers.place p)) (numbers.mode p k) (numbers.agent a) (table p k a)

  abbrev pub AreAllOrdered : Check → Type 0
  AreAllOrdered c = (place : ℕ) → AreOrdered base (accesses_at c place)

  abbrev pub AreBegun : Table m accesses → Type 0
  AreBegun table = (p : Place) (k : Kind) (a : Agent) → table p k a ≤ bound (numbers.agent a)

  -- an access of the step's own number was counted by its clock
  own-counted : IsNext → (access : Access) → access.step.number ≤ bound access.step.agent → access.step.agent ≡ x
      → access.step.number ≤ slice_index clock access.step.agent
  own-counted s access few e =
      let top : access.step.number ≤ bound x = subst (λ (i : ℕ). access.step.number ≤ bound i) e few in
      subst (λ (i : ℕ). access.step.number ≤ slice_index clock i) (sym e) (omega (arith, top, s.own, s.begun))

  -- and so was each one that the step knows of
  known : IsNext → (access : Access) → access.step.number ≤ bound access.step.agent
      → knows_of x clock access.step ≡ true → access.step.number ≤ slice_index clock access.step.agent
  known s access few k =
      elim (either (access.step.agent == x) (nat_le access.step.number (slice_index clock access.step.agent)) k) as
      (λ _. access.step.number ≤ slice_index clock access.step.agent) [
        | inl own ↦ own-counted s access few (eqb-true access.step.agent x own)
        | inr counts ↦ leb-true access.step.number (slice_index clock access.step.agent) counts
      ]

  -- what holds of all clocks that have counted an access holds of the clock of the step
  at-clock : IsNext → (access : Access) (a k : ℕ) → EachClock (CountsToo access.step a k) base
      → access.step.number ≤ slice_index clock access.step.agent → k ≤ slice_index clock a
  at-clock s access a k tells = subst (λ (own : List ℕ). CountsToo access.step a k own) s.same (tells.agents x)

  -- a step of the agent that nobody else knows of tells of all that the clock knows
  alone-tells : IsNext → (number : ℕ) → NoneKnowFrom base x number → (a k : ℕ) → k ≤ slice_index clock a
      → EachClock (CountsToo (record { agent = x; number = number }) a k) base
  alone-tells s number alone a k h = record {
    agents = λ other. elim (same-or-not other x) as
        (λ _. CountsToo (record { agent = x; number = number }) a k (clock_of base other)) [
          | inl e ↦ λ counts. subst (λ (own : List ℕ). k ≤ slice_index own a)
              (sym (ap (λ (i : ℕ). clock_of base i) e ∙ s.same)) h
          | inr away ↦ λ counts. (let few : slice_index (clock_of base other) x < number = alone.clocks other away in
              absurd (omega (arith, few, counts)))
        ];
    slots = λ slot counts. (let few : slice_index (clock_in base slot) x < number = alone.slots slot in
        absurd (omega (arith, few, counts)));
  }

  -- an access collides with nothing that the step does not know of
  permits : IsNext → (c : Check) (access : PlaceAccess ℕ Mode) (table : Table m accesses) → AreKept c
      → AreCovered c table → first_race x clock access.mode (accesses_at c access.place) ≡ None
      → (p : Place) (j k : Kind) (a : Agent) → access.place ≡ numbers.place p
      → covers access.mode (numbers.mode p k) ≡ true
      → accesses.collide j k ≡ true → table p j a ≤ counted numbers clock a
  permits s c access table kept covered none p j k a here wide clash =
      elim (covered p j a) as (λ _. table p j a ≤ counted numbers clock a) [
        | inl zero_steps ↦ omega (arith, zero_steps)
        | inr (other, has, over, tells) ↦
            let there : Contains (accesses_at c access.place) other =
            subst (λ (place : ℕ). Contains (accesses_at c place) other) (sym here) has in
            let hits : collide other.mode access.mode ≡ true =
            both-ways other.mode access.mode
            ∙ covers-collide access.mode (numbers.mode p k) other.mode wide
            (both-ways (numbers.mode p k) other.mode
            ∙ covers-collide other.mode (numbers.mode p j) (numbers.mode p k) over (s.collide p j k clash)) in
            let calm : races x clock access.mode other ≡ false =
            found-none (races x clock access.mode) (accesses_at c access.place) other none there in
            at-clock s other (numbers.agent a) (table p j a) tells
            (known s other (kept access.place other there)
            (known-one (collide other.mode access.mode) (knows_of x clock other.step) calm hits))
      ]

  -- the table with an access of the step
  abbrev hits : PlaceAccess ℕ Mode → Place → Kind → Agent → Bool
  hits access p k a =
      (access.place == numbers.place p) && (covers access.mode (numbers.mode p k) && (numbers.agent a == x))

  abbrev with_access : PlaceAccess ℕ Mode → Table m accesses → Table m accesses
  with_access access table p k a = cond (hits access p k a) n (table p k a)

  -- with all of them
  abbrev pub tabled : List (PlaceAccess ℕ Mode) → Table m accesses → Table m accesses
  tabled [] table = table
  tabled (access ∷ rest) table = tabled rest (with_access access table)

  -- what a hit means
  record IsHit (access : PlaceAccess ℕ Mode) (p : Place) (k : Kind) (a : Agent) : Type 0 where
    here : access.place ≡ numbers.place p
    over : covers access.mode (numbers.mode p k) ≡ true
    own : numbers.agent a ≡ x

  is_hit : (access : PlaceAccess ℕ Mode) (p : Place) (k : Kind) (a : Agent) → hits access p k a ≡ true
      → IsHit access p k a
  is_hit access p k a h =
      let first : (access.place == numbers.place p ≡ true)
      × ((covers access.mode (numbers.mode p k) && (numbers.agent a == x)) ≡ true) =
      both (access.place == numbers.place p) (covers access.mode (numbers.mode p k) && (numbers.agent a == x)) h in
      let rest : (covers access.mode (numbers.mode p k) ≡ true) × ((numbers.agent a == x) ≡ true) =
      both (covers access.mode (numbers.mode p k)) (numbers.agent a == x) first.1 in
      record {
        here = eqb-true access.place (numbers.place p) first.0;
        over = rest.0;
        own = eqb-true (numbers.agent a) x rest.1;
      }

  begun_more : IsNext → (access : PlaceAccess ℕ Mode) (table : Table m accesses) → AreBegun table
      → AreBegun (with_access access table)
  begun_more s access table h p k a =
      elim (test (hits access p k a)) as (λ _. with_access access table p k a ≤ bound (numbers.agent a)) [
        | inl hit ↦
            let own : numbers.agent a ≡ x = (is_hit access p k a hit).own in
            let top : n ≤ bound (numbers.agent a) =
            subst (λ (i : ℕ). n ≤ bound i) (sym own) (omega (arith, s.begun)) in
            subst (λ (b : Bool). cond b n (table p k a) ≤ bound (numbers.agent a)) (sym hit) top
        | inr miss ↦ subst (λ (b : Bool). cond b n (table p k a) ≤ bound (numbers.agent a)) (sym miss) (h p k a)
      ]

  table_grows : IsNext → (access : PlaceAccess ℕ Mode) (table : Table m accesses) → AreBegun table
      → (p : Place) (k : Kind) (a : Agent) → table p k a ≤ with_access access table p k a
  table_grows s access table h p k a =
      elim (test (hits access p k a)) as (λ _. table p k a ≤ with_access access table p k a) [
        | inl hit ↦
            let own : numbers.agent a ≡ x = (is_hit access p k a hit).own in
            let top : table p k a ≤ bound x = subst (λ (i : ℕ). table p k a ≤ bound i) own (h p k a) in
            subst (λ (b : Bool). table p k a ≤ cond b n (table p k a)) (sym hit) (omega (arith, top, s.begun))
        | inr miss ↦ subst (λ (b : Bool). table p k a ≤ cond b n (table p k a)) (sym miss) (omega arith)
      ]

  -- what is kept of a place tells of the accesses there, those of the step too
  covered_more : IsNext → (c d : Check) (access : PlaceAccess ℕ Mode) (table : Table m accesses) → AreKept c
      → AreCovered c table
      → NotesAccess clock (record { mode = access.mode; step = step }) (accesses_at c access.place)
      (accesses_at d access.place)
      → ((place : ℕ) → place ≢ access.place → accesses_at d place ≡ accesses_at c place)
      → AreCovered d (with_access access table)
  covered_more s c d access table kept covered noted others p k a =
      elim (test (hits access p k a)) as
      (λ _. IsCovered base (accesses_at d (numbers.place p)) (numbers.mode p k) (numbers.agent a)
      (with_access access table p k a)) [
        | inl hit ↦
            let is : IsHit access p k a = is_hit access p k a hit in
            subst (λ (b : Bool).
            IsCovered base (accesses_at d (numbers.place p)) (numbers.mode p k) (numbers.agent a)
            (cond b n (table p k a))) (sym hit)
            (inr (
              record { mode = access.mode; step = step },
              subst (λ (place : ℕ). Contains (accesses_at d place) (record { mode = access.mode; step = step })) is.here
                  noted.noted,
              is.over,
              alone-tells s n s.alone (numbers.agent a) n
                  (subst (λ (i : ℕ). n ≤ slice_index clock i) (sym is.own) (omega (arith, s.own))),
            ))
        | inr miss ↦
            subst (λ (b : Bool).
            IsCovered base (accesses_at d (numbers.place p)) (numbers.mode p k) (numbers.agent a)
            (cond b n (table p k a))) (sym miss)
            (elim (same-or-not (numbers.place p) access.place) as
            (λ _. IsCovered base (accesses_at d (numbers.place p)) (numbers.mode p k) (numbers.agent a)
            (table p k a)) [
              | inr away ↦
                  subst (λ (list : List Access).
                  IsCovered base list (numbers.mode p k) (numbers.agent a) (table p k a))
                  (sym (others (numbers.place p) away)) (covered p k a)
              | inl here ↦ at_place s c d access table kept noted p k a here (covered p k a)
            ])
      ]
    where
      at_place : IsNext → (c d : Check) (access : PlaceAccess ℕ Mode) (table : Table m accesses) → AreKept c
          → NotesAccess clock (record { mode = access.mode; step = step }) (accesses_at c access.place)
          (accesses_at d access.place)
          → (p : Place) (k : Kind) (a : Agent) → numbers.place p ≡ access.place
          → IsCovered base (accesses_at c (numbers.place p)) (numbers.mode p k) (numbers.agent a) (table p k a)
          → IsCovered base (accesses_at d (numbers.place p)) (numbers.mode p k) (numbers.agent a) (table p k a)
      at_place s c d access table kept noted p k a here (inl none) = inl none
      at_place s c d access table kept noted p k a here (inr (old, has, over, tells)) =
          let there : Contains (accesses_at c access.place) old =
          subst (λ (place : ℕ). Contains (accesses_at c place) old) here has in
          elim (noted.kept old there) as
          (λ _. IsCovered base (accesses_at d (numbers.place p)) (numbers.mode p k) (numbers.agent a)
          (table p k a)) [
            | inl still ↦
                inr (old, subst (λ (place : ℕ). Contains (accesses_at d place) old) (sym here) still, over, tells)
            | inr replaced ↦ inr (
              record { mode = access.mode; step = step },
              subst (λ (place : ℕ). Contains (accesses_at d place) (record { mode = access.mode; step = step }))
                  (sym here) noted.noted,
              covers-trans access.mode old.mode (numbers.mode p k) replaced.covered over,
              alone-tells s n s.alone (numbers.agent a) (table p k a)
                  (at-clock s old (numbers.agent a) (table p k a) tells
                  (known s old (kept access.place old there) replaced.known)),
            )
          ]

  kept_more : IsNext → (c d : Check) (access : PlaceAccess ℕ Mode) → AreKept c
      → NotesAccess clock (record { mode = access.mode; step = step }) (accesses_at c access.place)
      (accesses_at d access.place)
      → ((place : ℕ) → place ≢ access.place → accesses_at d place ≡ accesses_at c place) → AreKept d
  kept_more s c d access kept noted others place new has =
      elim (same-or-not place access.place) as (λ _. new.step.number ≤ bound new.step.agent) [
        | inr away ↦ kept place new
            (subst (λ (list : List Access). Contains list new) (others place away) has)
        | inl here ↦
            elim (noted.only new (subst (λ (q : ℕ). Contains (accesses_at d q) new) here has)) as
            (λ _. new.step.number ≤ bound new.step.agent) [
              | inl e ↦ subst (λ (t : Access). t.step.number ≤ bound t.step.agent) (sym e) (omega (arith, s.begun))
              | inr old ↦ kept access.place new old
            ]
      ]

  -- of accesses that collide, the agent of one still knows of the other
  ordered_more : IsNext → (c d : Check) (access : PlaceAccess ℕ Mode) → AreKept c → AreAllOrdered c
      → first_race x clock access.mode (accesses_at c access.place) ≡ None
      → NotesAccess clock (record { mode = access.mode; step = step }) (accesses_at c access.place)
      (accesses_at d access.place)
      → ((place : ℕ) → place ≢ access.place → accesses_at d place ≡ accesses_at c place) → AreAllOrdered d
  ordered_more s c d access kept ordered none noted others place =
      elim (same-or-not place access.place) as (λ _. AreOrdered base (accesses_at d place)) [
        | inr away ↦ subst (λ (list : List Access). AreOrdered base list) (sym (others place away)) (ordered place)
        | inl here ↦ subst (λ (q : ℕ). AreOrdered base (accesses_at d q)) (sym here) at_place
      ]
    where
      knows : (y : Access) → Contains (accesses_at c access.place) y → collide y.mode access.mode ≡ true
          → HasCounted base x y.step
      knows y has hits =
          subst (λ (own : List ℕ). y.step.number ≤ slice_index own y.step.agent) (sym s.same)
          (known s y (kept access.place y has)
          (known-one (collide y.mode access.mode) (knows_of x clock y.step)
          (found-none (races x clock access.mode) (accesses_at c access.place) y none has) hits))

      pair : (y z : Access) → (y ≡ made access) ⊎ Contains (accesses_at c access.place) y
          → (z ≡ made access) ⊎ Contains (accesses_at c access.place) z → collide y.mode z.mode ≡ true
          → HasCounted base y.step.agent z.step ⊎ HasCounted base z.step.agent y.step
      pair y z (inr old) (inr other) hits = ordered access.place y z old other hits
      pair y z (inl e) (inr other) hits =
          inl (subst (λ (w : Access). HasCounted base w.step.agent z.step) (sym e)
          (knows z other (both-ways z.mode access.mode ∙ subst (λ (w : Access). collide w.mode z.mode ≡ true) e hits)))
      pair y z (inr old) (inl e) hits =
          inr (subst (λ (w : Access). HasCounted base w.step.agent y.step) (sym e)
          (knows y old (subst (λ (w : Access). collide y.mode w.mode ≡ true) e hits)))
      pair y z (inl e) (inl g) hits =
          inl (subst (λ (w : Access). HasCounted base w.step.agent z.step) (sym e)
          (subst (λ (w : Access). HasCounted base x w.step) (sym g)
          (subst (λ (own : List ℕ). n ≤ slice_index own x) (sym s.same) (omega (arith, s.own)))))

      at_place : AreOrdered base (accesses_at d access.place)
      at_place y z has had hits = pair y z (noted.only y has) (noted.only z had) hits

  -- what is proved of the accesses of a step
  pub record AreTabled (done : List (PlaceAccess ℕ Mode)) (c : Check) (table : Table m accesses) : Type 0 where
    pub kept : AreKept c
    pub ordered : AreAllOrdered c
    pub covered : AreCovered c (tabled done table)
    pub begun : AreBegun (tabled done table)
    pub grows : (p : Place) (k : Kind) (a : Agent) → table p k a ≤ tabled done table p k a
    pub notes : (p : Place) (k : Kind) (a : Agent) → HasCover done (numbers.place p) (numbers.mode p k)
        → numbers.agent a ≡ x → n ≤ tabled done table p k a
    pub permits : (p : Place) (j k : Kind) (a : Agent) → HasCover done (numbers.place p) (numbers.mode p k)
        → accesses.collide j k ≡ true → table p j a ≤ counted numbers clock a

  others_same : (c d : Check) (access : PlaceAccess ℕ Mode) → IsAccessed step access c d
      → (place : ℕ) → place ≢ access.place → accesses_at d place ≡ accesses_at c place
  others_same c d access is place away =
      ap (λ (e : Check). accesses_at e place) is.only
      ∙ get_or-set_other c.places access.place place (accesses_at d access.place) [] away

  hit : (access : PlaceAccess ℕ Mode) (table : Table m accesses) (p : Place) (k : Kind) (a : Agent)
      → access.place ≡ numbers.place p → covers access.mode (numbers.mode p k) ≡ true → numbers.agent a ≡ x
      → with_access access table p k a ≡ n
  hit access table p k a here wide own =
      ap (λ (b : Bool). cond b n (table p k a))
      (both-true (access.place == numbers.place p) (covers access.mode (numbers.mode p k) && (numbers.agent a == x))
      (eq-eqb access.place (numbers.place p) here)
      (both-true (covers access.mode (numbers.mode p k)) (numbers.agent a == x)
      wide
      (eq-eqb (numbers.agent a) x own)))

  -- an access, and those behind it
  one_more : IsNext → (access : PlaceAccess ℕ Mode) (rest : List (PlaceAccess ℕ Mode)) (d : Check)
      (table : Table m accesses) → AreBegun table
      → ((p : Place) (j k : Kind) (a : Agent) → access.place ≡ numbers.place p
      → covers access.mode (numbers.mode p k) ≡ true → accesses.collide j k ≡ true
      → table p j a ≤ counted numbers clock a)
      → AreTabled rest d (with_access access table) → AreTabled (access ∷ rest) d table
  one_more s access rest d table begun permitted more = record {
    kept = more.kept;
    ordered = more.ordered;
    covered = more.covered;
    begun = more.begun;
    grows = λ p k a. (let one : table p k a ≤ with_access access table p k a =
        table_grows s access table begun p k a in
        let all : with_access access table p k a ≤ tabled rest (with_access access table) p k a =
        more.grows p k a in
        omega (arith, one, all));
    notes = λ p k a has own. elim has as (λ _. n ≤ tabled (access ∷ rest) table p k a) [
      | inl here ↦
          let now : with_access access table p k a ≡ n = hit access table p k a here.0 here.1 own in
          let all : with_access access table p k a ≤ tabled rest (with_access access table) p k a =
          more.grows p k a in
          omega (arith, now, all)
      | inr later ↦ more.notes p k a later own
    ];
    permits = λ p j k a has clash. elim has as (λ _. table p j a ≤ counted numbers clock a) [
      | inl here ↦ permitted p j k a here.0 here.1 clash
      | inr later ↦
          let one : table p j a ≤ with_access access table p j a = table_grows s access table begun p j a in
          let all : with_access access table p j a ≤ counted numbers clock a = more.permits p j k a later clash in
          omega (arith, one, all)
    ];
  }

  -- accesses that are told
  pub accessed : IsNext → (done : List (PlaceAccess ℕ Mode)) (c d : Check) (table : Table m accesses)
      → clock_of c x ≡ clock → AreKept c → AreAllOrdered c → AreCovered c table → AreBegun table
      → AreAccessed step done c d → AreTabled done d table
  accessed s [] c d table same kept ordered covered begun are =
      record {
        kept = subst (λ (e : Check). AreKept e) (sym are) kept;
        ordered = subst (λ (e : Check). AreAllOrdered e) (sym are) ordered;
        covered = subst (λ (e : Check). AreCovered e table) (sym are) covered;
        begun = begun;
        grows = λ p k a. omega arith;
        notes = λ p k a has own. absurd has;
        permits = λ p j k a has clash. absurd has;
      }
  accessed s (access ∷ rest) c d table same kept ordered covered begun (between, is, are) =
      let noted : NotesAccess clock (record { mode = access.mode; step = step }) (accesses_at c access.place)
      (accesses_at between access.place) =
      subst (λ (own : List ℕ). NotesAccess own (record { mode = access.mode; step = step })
      (accesses_at c access.place) (accesses_at between access.place)) same is.noted in
      let none : first_race x clock access.mode (accesses_at c access.place) ≡ None =
      subst (λ (own : List ℕ). first_race x own access.mode (accesses_at c access.place) ≡ None) same is.permitted in
      let others : (place : ℕ) → place ≢ access.place → accesses_at between place ≡ accesses_at c place =
      others_same c between access is in
      let next : clock_of between x ≡ clock = ap (λ (e : Check). clock_of e x) is.only ∙ same in
      one_more s access rest d table begun (permits s c access table kept covered none)
      (accessed s rest between d (with_access access table) next (kept_more s c between access kept noted others)
      (ordered_more s c between access kept ordered none noted others)
      (covered_more s c between access table kept covered noted others)
      (begun_more s access table begun) are)

  -- an access that its agent made before, and of which nobody else knows
  abbrev pub IsOwned : Check → PlaceAccess ℕ Mode → Type 0
  IsOwned c access = (old : Access) × Contains (accesses_at c access.place) old × (old.step.agent ≡ x)
      × (covers old.mode access.mode ≡ true) × NoneKnowFrom base x old.step.number

  -- the step knows of all that such an access collides with: who made that did not know of this one
  own_permits : IsNext → (c : Check) (access : PlaceAccess ℕ Mode) (table : Table m accesses) → AreKept c
      → AreAllOrdered c → AreCovered c table → IsOwned c access
      → (p : Place) (j k : Kind) (a : Agent) → access.place ≡ numbers.place p
      → covers access.mode (numbers.mode p k) ≡ true
      → accesses.collide j k ≡ true → table p j a ≤ counted numbers clock a
  own_permits s c access table kept ordered covered (old, there, by, wide, alone) p j k a here more clash =
      elim (covered p j a) as (λ _. table p j a ≤ counted numbers clock a) [
        | inl zero_steps ↦ omega (arith, zero_steps)
        | inr (other, has, over, tells) ↦
            let beside : Contains (accesses_at c access.place) other =
            subst (λ (place : ℕ). Contains (accesses_at c place) other) (sym here) has in
            let hits : collide old.mode other.mode ≡ true =
            covers-collide old.mode (numbers.mode p k) other.mode
            (covers-trans old.mode access.mode (numbers.mode p k) wide more)
            (both-ways (numbers.mode p k) other.mode
            ∙ covers-collide other.mode (numbers.mode p j) (numbers.mode p k) over (s.collide p j k clash)) in
            at-clock s other (numbers.agent a) (table p j a) tells
            (elim (same-or-not other.step.agent x) as
            (λ _. other.step.number ≤ slice_index clock other.step.agent) [
              | inl own ↦ own-counted s other (kept access.place other beside) own
              | inr away ↦ elim (ordered access.place old other there beside hits) as
                  (λ _. other.step.number ≤ slice_index clock other.step.agent) [
                    | inl counts ↦
                        subst (λ (own : List ℕ). other.step.number ≤ slice_index own other.step.agent)
                        (ap (λ (i : ℕ). clock_of base i) by ∙ s.same) counts
                    | inr knows ↦
                        let few : slice_index (clock_of base other.step.agent) x < old.step.number =
                        alone.clocks other.step.agent away in
                        let count : old.step.number ≤ slice_index (clock_of base other.step.agent) x =
                        subst (λ (i : ℕ). old.step.number ≤ slice_index (clock_of base other.step.agent) i) by knows in
                        absurd (omega (arith, few, count))
                  ]
            ])
      ]

  own_covered : IsNext → (c : Check) (access : PlaceAccess ℕ Mode) (table : Table m accesses) → AreCovered c table
      → IsOwned c access → AreCovered c (with_access access table)
  own_covered s c access table covered (old, there, by, wide, alone) p k a =
      elim (test (hits access p k a)) as
      (λ _. IsCovered base (accesses_at c (numbers.place p)) (numbers.mode p k) (numbers.agent a)
      (with_access access table p k a)) [
        | inl hit ↦
            let is : IsHit access p k a = is_hit access p k a hit in
            subst (λ (b : Bool).
            IsCovered base (accesses_at c (numbers.place p)) (numbers.mode p k) (numbers.agent a)
            (cond b n (table p k a))) (sym hit)
            (inr (
              old,
              subst (λ (place : ℕ). Contains (accesses_at c place) old) is.here there,
              covers-trans old.mode access.mode (numbers.mode p k) wide is.over,
              subst (λ (i : ℕ). EachClock (CountsToo (record { agent = i; number = old.step.number })
                  (numbers.agent a) n) base) (sym by)
                  (alone-tells s old.step.number alone (numbers.agent a) n
                  (subst (λ (i : ℕ). n ≤ slice_index clock i) (sym is.own) (omega (arith, s.own)))),
            ))
        | inr miss ↦
            subst (λ (b : Bool).
            IsCovered base (accesses_at c (numbers.place p)) (numbers.mode p k) (numbers.agent a)
            (cond b n (table p k a))) (sym miss) (covered p k a)
      ]

  -- accesses that need not be told
  pub owned : IsNext → (own : List (PlaceAccess ℕ Mode)) (c : Check) (table : Table m accesses) → AreKept c
      → AreAllOrdered c → AreCovered c table → AreBegun table → EachOf (IsOwned c) own → AreTabled own c table
  owned s [] c table kept ordered covered begun each =
      record {
        kept = kept;
        ordered = ordered;
        covered = covered;
        begun = begun;
        grows = λ p k a. omega arith;
        notes = λ p k a has own. absurd has;
        permits = λ p j k a has clash. absurd has;
      }
  owned s (access ∷ rest) c table kept ordered covered begun each =
      one_more s access rest c table begun (own_permits s c access table kept ordered covered each.0)
      (owned s rest c (with_access access table) kept ordered (own_covered s c access table covered each.0)
      (begun_more s access table begun) each.1)
