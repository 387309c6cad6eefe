-- What was not added yet may be given other numbers: no step knows of it, and nothing was accessed there.
use Rattle.std.proofs.Common.{◌≡◌, ℕ, ◌<◌, ◌≤◌, ◌⊎◌, inl, inr, true, List, [], ◌∷◌, ap, sym, ◌∙◌, subst, arith}
use Rattle.std.proofs.Common.{length, slice_index, Contains}
use Rattle.tagents.specs.Agents.{Agents}
use Rattle.tagents.specs.Clocks.{Entry}
use Rattle.tagents.specs.Tables.{Accesses, Table}
use Rattle.tclocks.specs.declared.mode.Mode.{Mode}
use Rattle.tclocks.specs.declared.step.Step.{Step}
use Rattle.tclocks.specs.declared.step.Access.{Access}
use Rattle.tclocks.specs.Modes.{collide, covers}
use Rattle.tclocks.specs.Checks.{Check, clock_of, clock_in, accesses_at, steps_of}
use Rattle.tclocks.specs.Numbers.{Numbers, Extends}
use Rattle.tclocks.specs.Followed.{EachOf, OneOf, counted, IsWithin, CountsToo, IsCovered, IsClockOf, IsClockBy}
use Rattle.tclocks.specs.Followed.{HavePassed, Follows}
use Rattle.tclocks.proofs.Lists.{each-more, each-both, one-more, one-each, past-end, below-or-not}

module _ {State Agent Label Place Kind : Type 0} (m : Agents State Agent Label) (accesses : Accesses Place Kind Label)
    (numbers more : Numbers Agent Place Kind) (entries : List (Entry Agent Label)) (table : Table m accesses)
    (writers : ℕ → List Label) (check : Check) (extends : Extends check numbers more)
    (seen : Follows m accesses numbers entries table writers check) where
  abbrev count : ℕ
  count = length check.clocks

  -- an agent that was not added has done no step
  no-steps : (i : ℕ) → count ≤ i → steps_of check i ≡ 0
  no-steps i h = ap (λ (clock : List ℕ). slice_index clock i) (past-end check.clocks i [] h)

  -- and no clock has counted one, by either number
  not-counted : (clock : List ℕ) → IsWithin check clock → (i : ℕ) → count ≤ i → slice_index clock i ≡ 0
  not-counted clock within i h =
      let few : slice_index clock i ≤ steps_of check i = within i in omega (arith, few, no-steps i h)

  abbrev IsKnown : Entry Agent Label → Type 0
  IsKnown z = (numbers.agent (m.agent_of z.label) < count) × ((a : Agent) → z.past a ≤ steps_of check (numbers.agent a))

  known : EachOf IsKnown entries
  known = each-both (λ z. numbers.agent (m.agent_of z.label) < count)
      (λ z. (a : Agent) → z.past a ≤ steps_of check (numbers.agent a)) entries seen.agents seen.pasts

  -- a step knows of no agent that was not added
  unknown : (z : Entry Agent Label) → IsKnown z → (a : Agent) → count ≤ numbers.agent a → z.past a ≡ 0
  unknown z h a new =
      let few : z.past a ≤ steps_of check (numbers.agent a) = h.1 a in
      omega (arith, few, no-steps (numbers.agent a) new)

  same-agent : (z : Entry Agent Label) → IsKnown z
      → more.agent (m.agent_of z.label) ≡ numbers.agent (m.agent_of z.label)
  same-agent z h = extends.agents (m.agent_of z.label) h.0

  -- what a clock has counted of an agent by the new number
  counted-cases : (clock : List ℕ) → IsWithin check clock → (a : Agent)
      → (counted more clock a ≡ 0) ⊎ (counted more clock a ≡ counted numbers clock a)
  counted-cases clock within a = elim (below-or-not (numbers.agent a) count) as
      (λ _. (counted more clock a ≡ 0) ⊎ (counted more clock a ≡ counted numbers clock a)) [
        | inl old ↦ inr (ap (λ (i : ℕ). slice_index clock i) (extends.agents a old))
        | inr new ↦ inl (not-counted clock within (more.agent a) (extends.new_agents a new))
      ]

  clocks-more : (i : ℕ) → i < count → IsClockOf m more entries check i (clock_of check i)
  clocks-more i h =
      let was : IsClockOf m numbers entries check i (clock_of check i) = seen.clocks i h in record {
        long = was.long;
        within = was.within;
        known = λ a other. elim (counted-cases (clock_of check i) was.within a) as
            (λ _. (counted more (clock_of check i) a ≡ 0)
            ⊎ OneOf (λ z. (more.agent (m.agent_of z.label) ≡ i) × (counted more (clock_of check i) a ≤ z.past a))
            entries) [
              | inl none ↦ inl none
              | inr same ↦ elim (below-or-not (numbers.agent a) count) as
                  (λ _. (counted more (clock_of check i) a ≡ 0)
                  ⊎ OneOf (λ z. (more.agent (m.agent_of z.label) ≡ i)
                  × (counted more (clock_of check i) a ≤ z.past a)) entries) [
                    | inr new ↦ inl (same ∙ not-counted (clock_of check i) was.within (numbers.agent a) new)
                    | inl old ↦ from_known i a same
                        (was.known a (λ e. other (extends.agents a old ∙ e)))
                  ]
            ];
      }
    where
      from_known : (i : ℕ) (a : Agent) → counted more (clock_of check i) a ≡ counted numbers (clock_of check i) a
          → (counted numbers (clock_of check i) a ≡ 0)
          ⊎ OneOf (λ z. (numbers.agent (m.agent_of z.label) ≡ i) × (counted numbers (clock_of check i) a ≤ z.past a))
          entries
          → (counted more (clock_of check i) a ≡ 0)
          ⊎ OneOf (λ z. (more.agent (m.agent_of z.label) ≡ i) × (counted more (clock_of check i) a ≤ z.past a)) entries
      from_known i a same (inl none) = inl (same ∙ none)
      from_known i a same (inr one) = inr (one-more
          (λ z. IsKnown z
          × ((numbers.agent (m.agent_of z.label) ≡ i) × (counted numbers (clock_of check i) a ≤ z.past a)))
          (λ z. (more.agent (m.agent_of z.label) ≡ i) × (counted more (clock_of check i) a ≤ z.past a))
          (λ z h. (same-agent z h.0 ∙ h.1.0, omega (arith, same, h.1.1))) entries
          (one-each IsKnown
          (λ z. (numbers.agent (m.agent_of z.label) ≡ i) × (counted numbers (clock_of check i) a ≤ z.past a)) entries
          known one))

  slots-more : (slot : ℕ) → IsClockBy m more entries check (writers slot) (clock_in check slot)
  slots-more slot =
      let was : IsClockBy m numbers entries check (writers slot) (clock_in check slot) = seen.slots slot in record {
        within = was.within;
        known = λ a. elim (counted-cases (clock_in check slot) was.within a) as
            (λ _. (counted more (clock_in check slot) a ≡ 0)
            ⊎ OneOf (λ z. OneOf (λ writer. writer ≡ z.label) (writers slot)
            × (counted more (clock_in check slot) a ≤ z.past a)) entries) [
              | inl none ↦ inl none
              | inr same ↦ from_known slot a same (was.known a)
            ];
      }
    where
      from_known : (slot : ℕ) (a : Agent)
          → counted more (clock_in check slot) a ≡ counted numbers (clock_in check slot) a
          → (counted numbers (clock_in check slot) a ≡ 0)
          ⊎ OneOf (λ z. OneOf (λ writer. writer ≡ z.label) (writers slot)
          × (counted numbers (clock_in check slot) a ≤ z.past a)) entries
          → (counted more (clock_in check slot) a ≡ 0)
          ⊎ OneOf (λ z. OneOf (λ writer. writer ≡ z.label) (writers slot)
          × (counted more (clock_in check slot) a ≤ z.past a)) entries
      from_known slot a same (inl none) = inl (same ∙ none)
      from_known slot a same (inr one) = inr (one-more
          (λ z. OneOf (λ writer. writer ≡ z.label) (writers slot)
          × (counted numbers (clock_in check slot) a ≤ z.past a))
          (λ z. OneOf (λ writer. writer ≡ z.label) (writers slot)
          × (counted more (clock_in check slot) a ≤ z.past a))
          (λ z h. (h.0, omega (arith, same, h.1))) entries one)

  -- of an agent that was not added, the table has nothing
  table-none : (p : Place) (k : Kind) (a : Agent) → count ≤ numbers.agent a → table p k a ≡ 0
  table-none p k a new =
      let few : table p k a ≤ steps_of check (numbers.agent a) = seen.tables p k a in
      omega (arith, few, no-steps (numbers.agent a) new)

  counts-more : (step : Step) (p : Place) (k : Kind) (a : Agent) (clock : List ℕ)
      → CountsToo step (numbers.agent a) (table p k a) clock → CountsToo step (more.agent a) (table p k a) clock
  counts-more step p k a clock tells counts =
      let few : table p k a ≤ counted numbers clock a = tells counts in
      elim (below-or-not (numbers.agent a) count) as (λ _. table p k a ≤ counted more clock a) [
        | inl old ↦ subst (λ (i : ℕ). table p k a ≤ slice_index clock i) (sym (extends.agents a old)) few
        | inr new ↦ omega (arith, table-none p k a new)
      ]

  covered-more : (p : Place) (k : Kind) (a : Agent)
      → IsCovered check (accesses_at check (more.place p)) (more.mode p k) (more.agent a) (table p k a)
  covered-more p k a = elim (seen.covered p k a) as
      (λ _. IsCovered check (accesses_at check (more.place p)) (more.mode p k) (more.agent a) (table p k a)) [
        | inl none ↦ inl none
        | inr (access, has, over, tells) ↦ elim (below-or-not (numbers.place p) (length check.places)) as
            (λ _. IsCovered check (accesses_at check (more.place p)) (more.mode p k) (more.agent a) (table p k a)) [
              | inl old ↦ inr (
                access,
                subst (λ (place : ℕ). Contains (accesses_at check place) access) (sym (extends.places p old)) has,
                subst (λ (mode : Mode). covers access.mode mode ≡ true) (sym (extends.modes p k)) over,
                record {
                  agents = λ i. counts-more access.step p k a (clock_of check i) (tells.agents i);
                  slots = λ slot. counts-more access.step p k a (clock_in check slot) (tells.slots slot);
                },
              )
              | inr new ↦
                  let nothing : Contains {X = Access} [] access =
                  subst (λ (list : List Access). Contains list access)
                  (past-end check.places (numbers.place p) [] new) has in
                  absurd (omega (arith, nothing.1))
            ]
      ]

  passed-more : (zs : List (Entry Agent Label)) (t : Table m accesses) → HavePassed m accesses numbers zs t
      → HavePassed m accesses more zs t
  passed-more [] t h = h
  passed-more (f ∷ earlier) t (before, checked, passed) = (before, checked, passed-more earlier before passed)

  pub renumbered : Follows m accesses more entries table writers check
  renumbered = record {
    numbered = record {
      same = seen.numbered.same;
      collide = λ p j k h. subst (λ (mode : Mode). collide mode (more.mode p k) ≡ true) (sym (extends.modes p j))
          (subst (λ (mode : Mode). collide (numbers.mode p j) mode ≡ true) (sym (extends.modes p k))
          (seen.numbered.collide p j k h));
      apart = λ a b h e. elim (below-or-not (numbers.agent a) count) as (λ _. a ≡ b) [
        | inr new ↦ let far : count ≤ more.agent a = extends.new_agents a new in absurd (omega (arith, h, far))
        | inl old ↦ elim (below-or-not (numbers.agent b) count) as (λ _. a ≡ b) [
          | inr new ↦ let far : count ≤ more.agent b = extends.new_agents b new in absurd (omega (arith, h, e, far))
          | inl other ↦ seen.numbered.apart a b old
              (sym (extends.agents a old) ∙ e ∙ extends.agents b other)
        ]
      ];
    };
    passed = passed-more entries table seen.passed;
    agents = each-more IsKnown (λ z. more.agent (m.agent_of z.label) < count)
        (λ z h. omega (arith, h.0, same-agent z h)) entries known;
    places = each-more (λ z. IsKnown z × (z.place ≤ steps_of check (numbers.agent (m.agent_of z.label))))
        (λ z. z.place ≤ steps_of check (more.agent (m.agent_of z.label)))
        (λ z h. subst (λ (i : ℕ). z.place ≤ steps_of check i) (sym (same-agent z h.0)) h.1) entries
        (each-both IsKnown (λ z. z.place ≤ steps_of check (numbers.agent (m.agent_of z.label))) entries known
        seen.places);
    pasts = each-more IsKnown (λ z. (a : Agent) → z.past a ≤ steps_of check (more.agent a))
        (λ z h a. elim (below-or-not (numbers.agent a) count) as (λ _. z.past a ≤ steps_of check (more.agent a)) [
          | inl old ↦ subst (λ (i : ℕ). z.past a ≤ steps_of check i) (sym (extends.agents a old)) (h.1 a)
          | inr new ↦ omega (arith, unknown z h a new)
        ]) entries known;
    clocks = clocks-more;
    slots = slots-more;
    tables = λ p k a. elim (below-or-not (numbers.agent a) count) as
        (λ _. table p k a ≤ steps_of check (more.agent a)) [
          | inl old ↦ subst (λ (i : ℕ). table p k a ≤ steps_of check i) (sym (extends.agents a old)) (seen.tables p k a)
          | inr new ↦ omega (arith, table-none p k a new)
        ];
    kept = seen.kept;
    covered = covered-more;
    ordered = seen.ordered;
  }
