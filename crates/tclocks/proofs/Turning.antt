-- Agents that share a number in the check.
use Rattle.std.proofs.Common.{◌≡◌, ℕ, ◌<◌, ◌≤◌, ◌⊎◌, inl, inr, true, List, [], ◌∷◌, ◌++◌}
use Rattle.std.proofs.Common.{◌==◌, ap, refl, sym, ◌∙◌, subst, arith, length, reverse}
use Rattle.std.proofs.lemmas.Bool.{eqb-true, eq-eqb}
use Rattle.std.proofs.lemmas.List.{reverse-reverse}
use Rattle.tagents.specs.Agents.{Agents}
use Rattle.tagents.specs.Races.{ComesBefore, IsRaceFree}
use Rattle.tagents.specs.Clocks.{Entry, OneKnows, NoneKnows, IsPrivate, labels}
use Rattle.tagents.specs.Groups.{grouped, AgreeOn, AreOfOthers, AreInTurn, IsFree, HasNumberTurn}
use Rattle.tagents.specs.Groups.HasNumberTurn.{First as Fresh, Own as Held, Next as After}
use Rattle.tagents.specs.Tables.{Access as PlaceAccess, Accesses, Collides, ClashesCollide, Table, IsChecked}
use Rattle.tagents.proofs.Grouped.{grouped_runs_have_no_race, lead, alike, in_turn}
use Rattle.tclocks.specs.declared.mode.Mode.{Mode}
use Rattle.tclocks.specs.Modes.{collide}
use Rattle.tclocks.specs.Checks.{Check, clock_of, clock_in, steps_of, KnowsAll}
use Rattle.tclocks.specs.Numbers.{AreNumbers}
use Rattle.tclocks.specs.Followed.{EachOf, OneOf, counted, IsClockOf, IsClockBy, HavePassed, Follows, IsStep}
use Rattle.tclocks.specs.Followed.{IsToldByCover}
use Rattle.tclocks.specs.Laws.{HasSeen}
use Rattle.tclocks.specs.NumberTurns.{numbers_of, HasSeenInTurn, grouped_entry, MayHaveNumbers, IsNumbered}
use Rattle.tclocks.specs.NumberTurns.{AreNumbered}
use Rattle.tclocks.specs.NumberTurns.IsNumbered.{First, Own, Next}
use Rattle.tagents.proofs.Chained.{beginning}
use Rattle.tagents.specs.Times.{AreTimed}
use Rattle.tagents.proofs.Counted.{labels-append, labels-reverse, timed_before, counted_lead}
use Rattle.tclocks.proofs.Lists.{each-more, each-both, one-more, one-each}
use Rattle.tclocks.proofs.Knowing.{known_are_chained, are_timed, each_within}
use Rattle.tclocks.proofs.Passing.{are_passed}
use Rattle.tclocks.proofs.Stepping.{follows_on}

below-or-not : (i n : ℕ) → (i < n) ⊎ (n ≤ i)
below-or-not i n = grind arith

itself : (n : ℕ) → (n == n) ≡ true
itself n = eq-eqb n n refl

module _ {State Agent Label Place Kind : Type 0} (m : Agents State Agent Label) (group : Label → ℕ)
    (accesses : Accesses Place Kind Label) (places : Place → ℕ) (modes : Place → Kind → Mode) where
  pub are_numbers : (check : Check)
      → ((p : Place) (j k : Kind) → accesses.collide j k ≡ true → collide (modes p j) (modes p k) ≡ true)
      → AreNumbers (grouped m group) accesses (numbers_of places modes) check
  are_numbers check h = record { same = itself; collide = h; apart = λ a b within e. e }

  pub checked_in_turn : (entries : List (Entry ℕ Label)) (writers : ℕ → List Label) (before after : Check) (agent : ℕ)
      (slots : List ℕ) (done : List (PlaceAccess ℕ Mode)) (label : Label)
      → HasSeenInTurn m group accesses places modes entries writers before
      → IsToldByCover (grouped m group) accesses (numbers_of places modes) before writers agent slots done label
      → IsStep agent slots done before after
      → m.same (m.agent_of label) (m.agent_of label) ≡ true → HasNumberTurn m group (labels entries) label
      → HasSeenInTurn m group accesses places modes (grouped_entry m group accesses places modes label after ∷ entries)
      writers after
  checked_in_turn entries writers before after agent slots done label seen told is itself has = record {
    seen = record {
      table = _;
      follows = follows_on (grouped m group) accesses (numbers_of places modes) entries seen.seen.table writers before
          after agent slots done label seen.seen.follows told is;
    };
    turns = (in_turn m group (labels entries) label seen.turns itself has, seen.turns);
  }

  pub known_are_free : (earlier : List (Entry ℕ Label)) (writers : ℕ → List Label) (check : Check) (label : Label)
      (n : ℕ)
      → HasSeenInTurn m group accesses places modes
      (grouped_entry m group accesses places modes label check ∷ earlier) writers check
      → KnowsAll check (group label) n → IsFree m group n label (label ∷ labels earlier)
  known_are_free earlier writers check label n seen knows = record {
    since = [];
    before = labels earlier;
    at = refl;
    none = tt;
    known = lead m group (λ e. group e ≡ n) (labels earlier) label seen.turns
        (known_are_chained (grouped m group) accesses (numbers_of places modes) earlier seen.seen.table writers check
        label n seen.seen.follows knows);
  }

  -- clocks tell that agents had numbers in turn
  in_turn_by_clocks : (entries : List (Entry ℕ Label)) → ((a : Agent) → m.same a a ≡ true)
      → AreTimed (grouped m group) [] (reverse entries) → AreNumbered m group entries
      → AreInTurn m group (labels entries)
  in_turn_by_clocks [] itself timed numbered = tt
  in_turn_by_clocks (f ∷ earlier) itself timed numbered =
      let turns : AreInTurn m group (labels earlier) = in_turn_by_clocks earlier itself rest numbered.1 in
      (in_turn m group (labels earlier) f.label turns (itself (m.agent_of f.label)) (turn turns numbered.0), turns)
    where
      rest : AreTimed (grouped m group) [] (reverse earlier)
      rest = timed_before (grouped m group) (f ∷ []) earlier timed

      turn : AreInTurn m group (labels earlier) → IsNumbered m group earlier f.label
          → HasNumberTurn m group (labels earlier) f.label
      turn turns (First none) = Fresh none
      turn turns (Own is) = Held is
      turn turns (Next since last before at none leads counts) =
          let where_it_is : labels earlier ≡ labels since ++ last.label ∷ labels before =
          ap labels at ∙ labels-append since (last ∷ before) in
          let until : AreInTurn m group (last.label ∷ labels before) =
          beginning m (AreOfOthers m group) (labels since) (last.label ∷ labels before)
          (subst (AreInTurn m group) where_it_is turns) in
          let all : AreTimed (grouped m group) [] (reverse (last ∷ before)) =
          timed_before (grouped m group) since (last ∷ before)
          (subst (λ l. AreTimed (grouped m group) [] (reverse l)) at rest) in
          After last.label leads record {
            since = labels since;
            before = labels before;
            at = where_it_is;
            none = none;
            known = lead m group (λ e. group e ≡ group f.label) (labels before) last.label until
                (counted_lead (grouped m group) (λ e. group e ≡ group f.label) last before all
                (λ later z rest here number. subst (λ (n : ℕ). z.place ≤ last.past n) (sym number)
                (each_within (λ y. group y.label ≡ group f.label → y.place ≤ last.past (group f.label)) later z rest
                (subst (λ l. EachOf (λ y. group y.label ≡ group f.label → y.place ≤ last.past (group f.label)) l) here
                counts) number)));
          }

  pub turns_by_clocks : (entries : List (Entry ℕ Label)) (writers : ℕ → List Label) (check : Check)
      → HasSeen (grouped m group) accesses (numbers_of places modes) entries writers check
      → ((a : Agent) → m.same a a ≡ true) → AreNumbered m group entries
      → HasSeenInTurn m group accesses places modes entries writers check
  turns_by_clocks entries writers check seen itself numbered = record {
    seen = seen;
    turns = in_turn_by_clocks entries itself
        (are_timed (grouped m group) accesses (numbers_of places modes) entries seen.table seen.follows.passed)
        numbered;
  }

  collides : ClashesCollide m accesses → ClashesCollide (grouped m group) accesses
  collides h e f clash =
      let x : Collides m accesses e f = h e f clash in record {
        place = x.place;
        one = x.one;
        other = x.other;
        mine = x.mine;
        theirs = x.theirs;
        collide = x.collide;
      }

  pub have_no_race : (entries : List (Entry ℕ Label)) (writers : ℕ → List Label) (check : Check)
      → HasSeenInTurn m group accesses places modes entries writers check → ClashesCollide m accesses
      → IsRaceFree m (labels (reverse entries))
  have_no_race entries writers check seen collide =
      grouped_runs_have_no_race State Agent Label m group (labels (reverse entries))
      (subst (AreInTurn m group)
      (sym (ap reverse (labels-reverse entries) ∙ reverse-reverse (labels entries))) seen.turns)
      ((are_passed (grouped m group) accesses (numbers_of places modes) entries seen.seen.table
      seen.seen.follows.passed).race_free (collides collide))

  -- other numbers, for agents whose numbers were not added
  module _ (more : Label → ℕ) (check : Check)
      (same : (e : Label) → group e < length check.clocks → more e ≡ group e) where
    -- a step with an added number keeps it
    abbrev IsAdded : Entry ℕ Label → Type 0
    IsAdded z = group z.label < length check.clocks

    kept : (z : Entry ℕ Label) → IsAdded z → more z.label ≡ group z.label
    kept z h = same z.label h

    agree : (entries : List (Entry ℕ Label)) → EachOf IsAdded entries → AgreeOn group more (labels entries)
    agree [] h = tt
    agree (z ∷ zs) h = (kept z h.0, agree zs h.1)

    before_alike : (e f : Label) → group e < length check.clocks → group f < length check.clocks
        → ComesBefore (grouped m group) e f → ComesBefore (grouped m more) e f
    before_alike e f h k (inl b) = inl (ap (λ (n : ℕ). n == more f) (same e h)
        ∙ ap (λ (n : ℕ). group e == n) (same f k) ∙ b)
    before_alike e f h k (inr b) = inr b

    private_alike : (e : Label) (a : ℕ) → group e < length check.clocks → a < length check.clocks
        → IsPrivate (grouped m group) e a → IsPrivate (grouped m more) e a
    private_alike e a h k private g b =
        elim (below-or-not (group g) (length check.clocks)) as (λ _. (a == more g) ≡ true) [
          | inl within ↦ ap (λ (n : ℕ). a == n) (same g within) ∙ private g (back within b)
          | inr behind ↦ new behind b
        ]
      where
        back : group g < length check.clocks → ComesBefore (grouped m more) e g → ComesBefore (grouped m group) e g
        back within (inl b) = inl (ap (λ (n : ℕ). n == group g) (sym (same e h))
            ∙ ap (λ (n : ℕ). more e == n) (sym (same g within)) ∙ b)
        back within (inr b) = inr b

        -- one that gets its number now has that of this step
        new : length check.clocks ≤ group g → ComesBefore (grouped m more) e g → (a == more g) ≡ true
        new behind (inl b) =
            eq-eqb a (more g) (eqb-true a (group e) (private e (inl (itself (group e)))) ∙ sym (same e h)
            ∙ eqb-true (more e) (more g) b)
        new behind (inr b) = absurd (let e : a ≡ group g = eqb-true a (group g) (private g (inr b)) in
            omega (arith, e, behind, k))

    none_knows : (zs : List (Entry ℕ Label)) (a n : ℕ) → EachOf IsAdded zs → a < length check.clocks
        → NoneKnows (grouped m group) zs a n → NoneKnows (grouped m more) zs a n
    none_knows [] a n added k none = tt
    none_knows (z ∷ zs) a n added k none = (
      elim none.0 as (λ _. (z.past a < n) ⊎ IsPrivate (grouped m more) z.label a) [
        | inl few ↦ inl few
        | inr private ↦ inr (private_alike z.label a added.0 k private)
      ],
      none_knows zs a n added.1 k none.1,
    )

    one_knows : (zs : List (Entry ℕ Label)) (f : Label) (a n : ℕ) → EachOf IsAdded zs
        → group f < length check.clocks → OneKnows (grouped m group) zs f a n → OneKnows (grouped m more) zs f a n
    one_knows [] f a n added k one = absurd one
    one_knows (z ∷ zs) f a n added k (inl h) = inl (before_alike z.label f added.0 k h.0, h.1)
    one_knows (z ∷ zs) f a n added k (inr h) = inr (one_knows zs f a n added.1 k h)

    checked : (earlier : List (Entry ℕ Label)) (before after : Table (grouped m group) accesses) (f : Entry ℕ Label)
        → EachOf IsAdded (f ∷ earlier) → IsChecked (grouped m group) accesses earlier before f after
        → IsChecked (grouped m more) accesses earlier before f after
    checked earlier before after f added is = record {
      counted = is.counted;
      fresh = subst (λ (n : ℕ). NoneKnows (grouped m more) earlier n f.place) (sym (kept f added.0))
          (none_knows earlier (group f.label) f.place added.1 added.0 is.fresh);
      knows = λ a other. elim (is.knows a (ap (λ (n : ℕ). a == n) (sym (kept f added.0)) ∙ other)) as
          (λ _. (f.past a ≡ 0) ⊎ OneKnows (grouped m more) earlier f.label a (f.past a)) [
            | inl none ↦ inl none
            | inr one ↦ inr (one_knows earlier f.label a (f.past a) added.1 added.0 one)
          ];
      permits = is.permits;
      noted = record {
        grows = is.noted.grows;
        notes = λ p k has. subst (λ (n : ℕ). f.place ≤ after p k n) (sym (kept f added.0)) (is.noted.notes p k has);
      };
    }

    passed : (entries : List (Entry ℕ Label)) (table : Table (grouped m group) accesses) → EachOf IsAdded entries
        → HavePassed (grouped m group) accesses (numbers_of places modes) entries table
        → HavePassed (grouped m more) accesses (numbers_of places modes) entries table
    passed [] table added h = h
    passed (f ∷ earlier) table added (before, is, have) =
        (before, checked earlier before table f added is, passed earlier before added.1 have)

    follows : (entries : List (Entry ℕ Label)) (table : Table (grouped m group) accesses) (writers : ℕ → List Label)
        → Follows (grouped m group) accesses (numbers_of places modes) entries table writers check
        → Follows (grouped m more) accesses (numbers_of places modes) entries table writers check
    follows entries table writers seen = record {
      numbered = record { same = itself; collide = seen.numbered.collide; apart = λ a b within e. e };
      passed = passed entries table seen.agents seen.passed;
      agents = each-more IsAdded (λ z. more z.label < length check.clocks)
          (λ z h. subst (λ (n : ℕ). n < length check.clocks) (sym (kept z h)) h) entries seen.agents;
      places = each-more (λ z. IsAdded z × (z.place ≤ steps_of check (group z.label)))
          (λ z. z.place ≤ steps_of check (more z.label))
          (λ z h. subst (λ (n : ℕ). z.place ≤ steps_of check n) (sym (kept z h.0)) h.1) entries
          (each-both IsAdded (λ z. z.place ≤ steps_of check (group z.label)) entries seen.agents seen.places);
      pasts = seen.pasts;
      clocks = λ i within. (let was : IsClockOf (grouped m group) (numbers_of places modes) entries check i
          (clock_of check i) = seen.clocks i within in record {
            long = was.long;
            within = was.within;
            known = λ a away. elim (was.known a away) as
                (λ _. (counted (numbers_of places modes) (clock_of check i) a ≡ 0)
                ⊎ OneOf (λ z. (more z.label ≡ i)
                × (counted (numbers_of places modes) (clock_of check i) a ≤ z.past a)) entries) [
                  | inl none ↦ inl none
                  | inr one ↦ inr (one-more
                      (λ z. IsAdded z × ((group z.label ≡ i)
                      × (counted (numbers_of places modes) (clock_of check i) a ≤ z.past a)))
                      (λ z. (more z.label ≡ i)
                      × (counted (numbers_of places modes) (clock_of check i) a ≤ z.past a))
                      (λ z h. (kept z h.0 ∙ h.1.0, h.1.1)) entries
                      (one-each IsAdded (λ z. (group z.label ≡ i)
                      × (counted (numbers_of places modes) (clock_of check i) a ≤ z.past a)) entries seen.agents one))
                ];
          });
      slots = λ slot. (let was : IsClockBy (grouped m group) (numbers_of places modes) entries check (writers slot)
          (clock_in check slot) = seen.slots slot in record {
            within = was.within;
            known = was.known;
          });
      tables = seen.tables;
      kept = seen.kept;
      covered = seen.covered;
      ordered = seen.ordered;
    }

    pub may_have_numbers : (entries : List (Entry ℕ Label)) (writers : ℕ → List Label)
        → HasSeenInTurn m group accesses places modes entries writers check
        → MayHaveNumbers m group more accesses places modes entries writers check
    may_have_numbers entries writers seen =
        let both : AgreeOn group more (labels entries) = agree entries seen.seen.follows.agents in record {
          agree = both;
          seen = record {
            seen = record {
              table = seen.seen.table;
              follows = follows entries seen.seen.table writers seen.seen.follows;
            };
            turns = (alike m group more (labels entries) both).turns seen.turns;
          };
        }
