-- A run is still followed where agents and places come.
use Rattle.std.proofs.Common.{◌≡◌, ℕ, ◌+◌, ◌<◌, ◌≤◌, ◌⊎◌, inl, inr, refl, sym, ap, ◌∙◌, subst, arith, true, false, List}
use Rattle.std.proofs.Common.{[], ◌∷◌, ◌++◌, length, slice_index, slice_get, slice_set, suc, zero, replicate, get_or}
use Rattle.std.proofs.Common.{Bool, Some, cond, ◌==◌, true≢false}
use Rattle.std.proofs.lemmas.Bool.{eq-eqb}
use Rattle.std.proofs.lemmas.List.{length-append}
use Rattle.std.proofs.lemmas.Option.{slice_get_within}
use Rattle.tplan.specs.declared.plan.Plan.{Plan}
use Rattle.tagents.specs.Clocks.{Entry}
use Rattle.tclocks.specs.Checks.{Check, clock_of, steps_of, with_agent, with_slot, with_places}
use Rattle.tclocks.specs.Numbers.{Extends}
use Rattle.tclocks.specs.Followed.{EachOf, Follows}
use Rattle.tclocks.specs.Laws.{with_writers}
use Rattle.tclocks.proofs.Lists.{test}
use Rattle.tclocks.proofs.Standing.{agent_added, slot_added, places_added, cleared}
use Rattle.tclocks.proofs.Renumbering.{renumbered}
use Rattle.tprocesses.specs.Machine.{Agent, same_agent}
use Rattle.tprocesses.specs.Certified.{ProcessStep}
use Rattle.tcertify.specs.Running.{State}
use Rattle.tfollow.specs.Modes.{accesses_in}
use Rattle.tfollow.specs.Numbering.{Places, AgentNumbers, HasNumber, IsNew, number_in}
use Rattle.tfollow.specs.Leading.{leads_on}
use Rattle.tfollow.specs.Following.{AreCounted, HasSeen, HasEnded, HasTurn, IsLast, IsFollowed, count_with}
use Rattle.tfollow.specs.Following.HasTurn.{First}
use Rattle.tfollow.specs.Laws.{HasCome, AgentsMayCome, PlacesMayCome}
use Rattle.tfollow.proofs.Agreeing.{AreAgreed, count-none, placed-agree}
use Rattle.tfollow.proofs.Counting.{counted-places, number-before, copies, below-or-not}
use Rattle.tfollow.proofs.Handing.{by_numbers, numbers_at}
use Rattle.tfollow.proofs.Numbered.{numbered, told, number-there, there-or-not, new-nowhere, get-last}
use Rattle.tfollow.proofs.Renumbered.{with_number, number-kept, number-given, number-other, may, agreed, counted-more}
use Rattle.tfollow.proofs.Renumbered.{turn-more, none-has, last-more}

pub places_may_come : PlacesMayCome
places_may_come plan places more group agents steps check state count f same =
    record {
      run = f.run;
      takes_nothing = f.takes_nothing;
      entries = f.entries;
      labels = f.labels;
      writers = f.writers;
      seen = record {
        seen = record {
          table = f.seen.seen.table;
          follows = places_added (by_numbers plan group) (accesses_in plan) (numbers_at more) f.entries
              f.seen.seen.table f.writers check
              (renumbered (by_numbers plan group) (accesses_in plan) (numbers_at places) (numbers_at more)
              f.entries f.seen.seen.table f.writers check extends f.seen.seen.follows)
              count;
        };
        turns = f.seen.turns;
      };
      placed = f.placed;
      last = last f.entries f.last;
      clocks = f.clocks;
      slots = f.slots;
      numbered = f.numbered;
      counted = counted-places group steps check count f.counted;
      lead = f.lead;
      turns = f.turns;
      others = f.others;
    }
  where
    extends : Extends check (numbers_at places) (numbers_at more)
    extends = record {
      agents = λ a h. refl;
      new_agents = λ a h. h;
      places = same;
      modes = λ p k. refl;
    }

    last : (entries : List (Entry ℕ ProcessStep)) → IsLast plan places group agents entries check
        → IsLast plan more group agents entries (with_places count check)
    last [] h = tt
    last (z ∷ zs) h = h

pub at-end : {A : Type 0} (xs : List A) (x d : A) → get_or (xs ++ x ∷ []) (length xs) d ≡ x
at-end [] x d = refl
at-end (y ∷ ys) x d = at-end ys x d

set-past : {A : Type 0} (xs : List A) (i : ℕ) (x : A) → length xs ≤ i → slice_set xs i x ≡ xs
set-past [] i x h = refl
set-past (y ∷ ys) zero x h = absurd (omega (arith, h))
set-past {A} (y ∷ ys) (suc i) x h = ap (λ (list : List A). y ∷ list) (set-past ys i x (omega (arith, h)))

pub before-end : {A : Type 0} (xs : List A) (x d : A) (i : ℕ) → i < length xs
    → get_or (xs ++ x ∷ []) i d ≡ get_or xs i d
before-end [] x d i h = absurd (omega (arith, h))
before-end (y ∷ ys) x d zero h = refl
before-end (y ∷ ys) x d (suc i) h = before-end ys x d i (omega (arith, h))

get-end : {A : Type 0} (xs : List A) (x : A) → slice_get (xs ++ x ∷ []) (length xs) ≡ Some x
get-end [] x = refl
get-end (y ∷ ys) x = get-end ys x

module _ (plan : Plan) (places : Places) (group : AgentNumbers) (agents : List Agent) (steps : List ProcessStep)
    (check : Check) (state : State) (b : Agent) (f : IsFollowed plan places group agents steps check state)
    (new : IsNew agents b) (lives : HasEnded b state → ⊥) where
  abbrev grown_agents : List Agent
  grown_agents = agents ++ b ∷ []

  abbrev grown : Check
  grown = with_slot (with_agent check)

  long : length grown_agents ≡ length agents + 1
  long = length-append agents (b ∷ [])

  -- the new agent gets the number behind all others, and who has not come has greater ones
  abbrev more : AgentNumbers
  more = with_number group (length agents) b (length agents) (λ a. length agents + 1)

  same : (a : Agent) → group a < length agents → more a ≡ group a
  same a h = number-kept group (length agents) b (length agents) (λ a. length agents + 1) a h

  given : more b ≡ length agents
  given = elim (f.others b new) as (λ _. more b ≡ length agents) [
    | inl far ↦ number-given group (length agents) b (length agents) (λ a. length agents + 1) far
    | inr ended ↦ absurd (lives ended)
  ]

  agree : AreAgreed group more steps
  agree = agreed plan places group agents steps check state f more same

  -- nobody wrote into the slot of the new agent
  abbrev writers : ℕ → List ProcessStep
  writers = with_writers (length agents) [] f.writers

  seen : HasSeen plan places more grown_agents f.entries writers grown
  seen = record {
    seen = record {
      table = _;
      follows = slot_added (by_numbers plan more) (accesses_in plan) (numbers_at places) f.entries _
          writers (with_agent check)
          (agent_added (by_numbers plan more) (accesses_in plan) (numbers_at places) f.entries _ writers check none
          (numbered plan more places (with_agent check)));
    };
    turns = (may plan places group agents steps check state f more same).seen.turns;
  }
    where
      none : Follows (by_numbers plan more) (accesses_in plan) (numbers_at places) f.entries
          (may plan places group agents steps check state f more same).seen.seen.table writers check
      none = subst
          (λ (slots : List (List ℕ)). Follows (by_numbers plan more) (accesses_in plan) (numbers_at places)
          f.entries (may plan places group agents steps check state f more same).seen.seen.table writers
          (record check { slots = slots }))
          (set-past check.slots (length agents) [] (omega (arith, f.slots)))
          (cleared (by_numbers plan more) (accesses_in plan) (numbers_at places) f.entries
          (may plan places group agents steps check state f more same).seen.seen.table f.writers check
          (may plan places group agents steps check state f more same).seen.seen.follows (length agents))

  clock-same : (i : ℕ) → i < length check.clocks → clock_of grown i ≡ clock_of check i
  clock-same i h = before-end check.clocks _ [] i h

  -- the entry of a step with this clock
  abbrev entry_by : ProcessStep → List ℕ → Entry ℕ ProcessStep
  entry_by label clock = record {
    label = label;
    place = slice_index clock (more label.agent);
    past = λ n. slice_index clock n;
  }

  -- the clock of the last step is where it was
  last : (entries : List (Entry ℕ ProcessStep)) → EachOf (λ z. group z.label.agent < length check.clocks) entries
      → IsLast plan places group agents entries check → IsLast plan places more grown_agents entries grown
  last [] there h = tt
  last (z ∷ zs) there h =
      last-more plan places group agents steps check state f more same grown_agents (z ∷ zs) there h
      ∙ ap (entry_by z.label)
      (sym (clock-same (more z.label.agent) (omega (arith, there.0, same z.label.agent within))))
    where
      within : group z.label.agent < length agents
      within = omega (arith, there.0, f.clocks)

  lead : (number : ℕ) (a : Agent) → HasNumber grown_agents a number → EachOf (λ step. leads_on plan step a ≡ true)
      (writers number)
  lead number a h = elim (test (number == length agents)) as
      (λ _. EachOf (λ step. leads_on plan step a ≡ true) (cond (number == length agents) [] (f.writers number))) [
        | inl at ↦
            subst (λ (t : Bool). EachOf (λ step. leads_on plan step a ≡ true) (cond t [] (f.writers number))) (sym at)
            tt
        | inr old ↦
            subst (λ (t : Bool). EachOf (λ step. leads_on plan step a ≡ true) (cond t [] (f.writers number))) (sym old)
            (f.lead number a (before old))
      ]
    where
      before : (number == length agents) ≡ false → HasNumber agents a number
      before old = elim (get-last agents b a number h) as (λ _. HasNumber agents a number) [
        | inl there ↦ there
        | inr (at, same) ↦ absurd (true≢false (sym (eq-eqb number (length agents) at) ∙ old))
      ]

  new-steps : steps_of grown (length agents) ≡ 0
  new-steps =
      ap (λ (k : ℕ). steps_of grown k) (sym f.clocks)
      ∙ ap (λ (clock : List ℕ). slice_index clock (length check.clocks)) (at-end check.clocks _ [])
      ∙ copies (length check.clocks + 1) (length check.clocks) 0

  -- the steps with each number are counted
  counted : AreCounted more steps grown
  counted = record {
    counts = λ i h. elim (below-or-not i (length check.clocks)) as (λ _. steps_of grown i ≡ count_with more i steps) [
      | inl old ↦
          ap (λ (clock : List ℕ). slice_index clock i) (clock-same i old) ∙ was.counts i old
      | inr far ↦ let at : i ≡ length agents =
          omega (arith, h, far, f.clocks, length-append check.clocks (replicate (length check.clocks + 1) 0 ∷ [])) in
          ap (λ (k : ℕ). steps_of grown k) at ∙ new-steps
          ∙ sym (count-none more (length agents) steps
          (none-has plan places group agents steps check state f more same (length agents) (omega arith)))
          ∙ ap (λ (k : ℕ). count_with more k steps) (sym at)
    ];
    kept = was.kept;
  }
    where
      was : AreCounted more steps check
      was = counted-more plan places group agents steps check state f more same

  by-number : (number : ℕ) (a : Agent) → HasNumber grown_agents a number → more a ≡ number
  by-number number a h = elim (get-last agents b a number h) as (λ _. more a ≡ number) [
    | inl before ↦
        let at : group a ≡ number = f.numbered number a before in
        same a (omega (arith, at, slice_get_within agents number a before)) ∙ at
    | inr (at, is) ↦ ap more (sym is) ∙ given ∙ sym at
  ]

  turns : (number : ℕ) (a : Agent) → HasNumber grown_agents a number → HasTurn plan more steps number a
  turns number a h = elim (get-last agents b a number h) as (λ _. HasTurn plan more steps number a) [
    | inl before ↦ turn-more plan places group agents steps check state f more same number a (f.turns number a before)
    | inr (at, is) ↦
        First (none-has plan places group agents steps check state f more same number (omega (arith, at)))
  ]

  -- whoever is new still has had no number, or has ended
  others : (a : Agent) → IsNew grown_agents a → (length grown_agents ≤ more a) ⊎ HasEnded a state
  others a away = elim (f.others a (was (there-or-not plan agents a))) as
      (λ _. (length grown_agents ≤ more a) ⊎ HasEnded a state) [
        | inl far ↦ let is : more a ≡ length agents + 1 =
            number-other group (length agents) b (length agents) (λ a. length agents + 1) a far
            (other (test (same_agent a b))) in
            inl (omega (arith, is, long))
        | inr ended ↦ inr ended
      ]
    where
      was : (number_in agents a < length agents) ⊎ IsNew agents a → IsNew agents a
      was (inl there) = absurd (new-nowhere plan grown_agents a (number_in agents a) away
          (number-before agents (b ∷ []) (number_in agents a) a (number-there plan agents a there)))
      was (inr far) = far

      other : (same_agent a b ≡ true) ⊎ (same_agent a b ≡ false) → same_agent a b ≡ false
      other (inl is) = absurd (new-nowhere plan grown_agents a (length agents) away
          (subst (λ (c : Agent). HasNumber grown_agents c (length agents)) (sym ((told plan).is_same a b is))
          (get-end agents b)))
      other (inr differ) = differ

  has_come : HasCome plan places group grown_agents steps grown state
  has_come =
      record {
        group = more;
        kept = agree;
        followed = record {
          run = f.run;
          takes_nothing = f.takes_nothing;
          entries = f.entries;
          labels = f.labels;
          writers = writers;
          seen = seen;
          placed = placed-agree group more f.entries
              (may plan places group agents steps check state f more same).agree f.placed;
          last = last f.entries f.seen.seen.follows.agents f.last;
          clocks = omega (
            arith,
            f.clocks,
            length-append check.clocks (replicate (length check.clocks + 1) 0 ∷ []),
            long,
          );
          slots = omega (arith, f.slots, length-append check.slots ([] ∷ []), long);
          numbered = by-number;
          counted = counted;
          lead = lead;
          turns = turns;
          others = others;
        };
      }

pub agents_may_come : AgentsMayCome
agents_may_come plan places group agents steps check state b f new lives =
    has_come plan places group agents steps check state b f new lives
