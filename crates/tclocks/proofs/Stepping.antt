-- A step that was told to the check is checked, and the check follows the run on.
use Rattle.std.proofs.Common.{◌≡◌, ◌≢◌, ℕ, ◌+◌, ◌<◌, ◌≤◌, ◌⊎◌, inl, inr, true, false, List, [], ◌∷◌, ap, refl, sym, ◌∙◌}
use Rattle.std.proofs.Common.{subst, arith}
use Rattle.std.proofs.Common.{length, slice_index, slice_set, slice_index_or, true≢false}
use Rattle.std.proofs.lemmas.List.{length-set}
use Rattle.tagents.specs.Agents.{Agents}
use Rattle.tagents.specs.Races.{ComesBefore}
use Rattle.tagents.specs.Clocks.{Entry, OneKnows, NoneKnows}
use Rattle.tagents.specs.Tables.{Access as PlaceAccess, Accesses, HasAccess, Table, IsChecked}
use Rattle.tclocks.specs.declared.mode.Mode.{Mode}
use Rattle.tclocks.specs.declared.step.Step.{Step}
use Rattle.tclocks.specs.Clocks.{raised}
use Rattle.tclocks.specs.Checks.{Check, clock_of, clock_in, accesses_at, steps_of, HasCounted, next_step}
use Rattle.tclocks.specs.Modes.{covers}
use Rattle.tclocks.specs.Own.{NoneKnowFrom, IsOwnYet}
use Rattle.tclocks.specs.Numbers.{Numbers}
use Rattle.tclocks.specs.Followed.{EachOf, OneOf, AreAccessed, HasCover, IsStep, counted, IsWithin, entry_of}
use Rattle.tclocks.specs.Followed.{CountsToo, EachClock, IsCovered, AreOrdered, IsClockOf, IsClockBy, Follows}
use Rattle.tclocks.specs.Followed.{IsToldByCover}
use Rattle.tclocks.specs.Owning.{HasNoNewSteps}
use Rattle.tclocks.proofs.Lists.{each-more}
use Rattle.tclocks.proofs.Joining.{joined_all, with_clock, clock_of-same, clock_of-other, with_all_joined-clock}
use Rattle.tclocks.proofs.Joining.{joined_all-one, joined_all-grows, joined_all-below, joined_all-long, raised-same}
use Rattle.tclocks.proofs.Joining.{raised-other}
use Rattle.tclocks.proofs.Joining.{length-raised, raised-grows, same-or-not, counts-joined_all, counts-raised}
use Rattle.tclocks.proofs.Accessing.{IsNext, AreKept, AreAllOrdered, IsOwned, AreTabled, tabled, owned, accessed}
use Rattle.tclocks.proofs.ModeLemmas.{covers-self}
use Rattle.tclocks.proofs.Lists.{below-or-not, past-end}

-- accesses change no clock
pub stay : (step : Step) (done : List (PlaceAccess ℕ Mode)) (c d : Check) → AreAccessed step done c d
    → (d.clocks ≡ c.clocks) × (d.slots ≡ c.slots)
stay step [] c d is = (ap (λ (e : Check). e.clocks) is, ap (λ (e : Check). e.slots) is)
stay step (access ∷ rest) c d (between, is, are) =
    let later : (d.clocks ≡ between.clocks) × (d.slots ≡ between.slots) = stay step rest between d are in (
      later.0 ∙ ap (λ (e : Check). e.clocks) is.only,
      later.1 ∙ ap (λ (e : Check). e.slots) is.only,
    )

-- what holds of each of a list holds of one of them
each-at : {A : Type 0} (P : A → Type 0) (xs : List A) (x : A) → EachOf P xs → OneOf (λ y. y ≡ x) xs → P x
each-at P [] x each one = absurd one
each-at P (y ∷ ys) x each (inl e) = subst P e each.0
each-at P (y ∷ ys) x each (inr one) = each-at P ys x each.1 one

module _ {State Agent Label Place Kind : Type 0} (m : Agents State Agent Label) (accesses : Accesses Place Kind Label)
    (numbers : Numbers Agent Place Kind) where
  -- no clock knows of a step that was not begun
  pub each-within : (entries : List (Entry Agent Label)) (table : Table m accesses) (writers : ℕ → List Label)
      (check : Check) → Follows m accesses numbers entries table writers check
      → (i agent : ℕ) → slice_index (clock_of check i) agent ≤ steps_of check agent
  each-within entries table writers check seen i agent = elim (below-or-not i (length check.clocks)) as
      (λ _. slice_index (clock_of check i) agent ≤ steps_of check agent) [
        | inl there ↦ (seen.clocks i there).within agent
        | inr away ↦ subst (λ (clock : List ℕ). slice_index clock agent ≤ steps_of check agent)
            (sym (past-end check.clocks i [] away)) (omega arith)
      ]

  pub none-new : (entries : List (Entry Agent Label)) (table : Table m accesses) (writers : ℕ → List Label)
      (check : Check) → Follows m accesses numbers entries table writers check → HasNoNewSteps check
  none-new entries table writers check seen = record {
    unknown = λ agent. record {
      clocks = λ other away. (let few : slice_index (clock_of check other) agent ≤ steps_of check agent =
          each-within entries table writers check seen other agent in omega (arith, few));
      slots = λ slot. (let few : slice_index (clock_in check slot) agent ≤ steps_of check agent =
          (seen.slots slot).within agent in omega (arith, few));
    };
    begun = seen.kept;
  }

  module _ (check : Check) (agent : ℕ) (done : List (PlaceAccess ℕ Mode)) where
    -- those accesses of a step that are not covered by what is told, by places and modes
    pub record Owns (made : List (PlaceAccess Place Kind)) : Type 0 where
      pub list : List (PlaceAccess ℕ Mode)
      pub each : EachOf (λ access. IsOwnYet check agent access.place access.mode) list
      pub all : (p : Place) (k : Kind) → HasAccess made p k
          → HasCover done (numbers.place p) (numbers.mode p k) ⊎ HasCover list (numbers.place p) (numbers.mode p k)

    pub owns : (made : List (PlaceAccess Place Kind))
        → ((p : Place) (k : Kind) → HasAccess made p k → HasCover done (numbers.place p) (numbers.mode p k)
        ⊎ IsOwnYet check agent (numbers.place p) (numbers.mode p k))
        → Owns made
    owns [] each = record { list = []; each = tt; all = λ p k has. absurd has }
    owns (x ∷ xs) each =
        with_first (each x.place x.mode (inl (refl, refl))) (owns xs (λ p k has. each p k (inr has)))
      where
        with_first : HasCover done (numbers.place x.place) (numbers.mode x.place x.mode)
            ⊎ IsOwnYet check agent (numbers.place x.place) (numbers.mode x.place x.mode) → Owns xs → Owns (x ∷ xs)
        with_first (inl told) rest = record {
          list = rest.list;
          each = rest.each;
          all = λ p k has. elim has as (λ _. HasCover done (numbers.place p) (numbers.mode p k)
              ⊎ HasCover rest.list (numbers.place p) (numbers.mode p k)) [
                | inl here ↦ inl (subst (λ (q : Place). HasCover done (numbers.place q) (numbers.mode q k)) here.0
                    (subst (λ (j : Kind). HasCover done (numbers.place x.place) (numbers.mode x.place j)) here.1 told))
                | inr later ↦ rest.all p k later
              ];
        }
        with_first (inr is) rest =
            let first : PlaceAccess ℕ Mode =
            record { place = numbers.place x.place; mode = numbers.mode x.place x.mode } in record {
              list = first ∷ rest.list;
              each = (is, rest.each);
              all = λ p k has. elim has as (λ _. HasCover done (numbers.place p) (numbers.mode p k)
                  ⊎ HasCover (first ∷ rest.list) (numbers.place p) (numbers.mode p k)) [
                    | inl here ↦ inr (inl (
                      ap (λ (q : Place). numbers.place q) here.0,
                      subst (λ (q : Place). covers first.mode (numbers.mode q k) ≡ true) here.0
                          (subst (λ (j : Kind). covers first.mode (numbers.mode x.place j) ≡ true) here.1
                          (covers-self first.mode)),
                    ))
                    | inr later ↦ elim (rest.all p k later) as (λ _. HasCover done (numbers.place p) (numbers.mode p k)
                        ⊎ HasCover (first ∷ rest.list) (numbers.place p) (numbers.mode p k)) [
                          | inl told ↦ inl told
                          | inr one ↦ inr (inr one)
                        ]
                  ];
            }

module _ {State Agent Label Place Kind : Type 0} (m : Agents State Agent Label) (accesses : Accesses Place Kind Label)
    (numbers : Numbers Agent Place Kind) (entries : List (Entry Agent Label)) (table : Table m accesses)
    (writers : ℕ → List Label) (before after : Check) (agent : ℕ) (slots : List ℕ) (done : List (PlaceAccess ℕ Mode))
    (label : Label) (seen : Follows m accesses numbers entries table writers before)
    (told : IsToldByCover m accesses numbers before writers agent slots done label)
    (is : IsStep agent slots done before after) where
  -- the clock of the agent before, and behind the joins
  abbrev old : List ℕ
  old = clock_of before agent

  abbrev new : List ℕ
  new = joined_all before.slots slots (raised old agent)

  abbrev middle : Check
  middle = with_clock agent new before

  abbrev n : ℕ
  n = steps_of before agent + 1

  abbrev f : Entry Agent Label
  f = entry_of m numbers label after

  own : IsClockOf m numbers entries before agent old
  own = seen.clocks agent told.added

  are : AreAccessed (next_step before agent) done middle after
  are = subst (λ (c : Check). AreAccessed (next_step before agent) done c after)
      (with_all_joined-clock agent slots (raised old agent) before told.added) is

  clocks_stay : after.clocks ≡ slice_set before.clocks agent new
  clocks_stay = (stay (next_step before agent) done middle after are).0

  slots_stay : after.slots ≡ before.slots
  slots_stay = (stay (next_step before agent) done middle after are).1

  clock-same : clock_of after agent ≡ new
  clock-same = ap (λ (clocks : List (List ℕ)). slice_index_or clocks agent []) clocks_stay
      ∙ clock_of-same agent new before told.added

  clock-other : (i : ℕ) → i ≢ agent → clock_of after i ≡ clock_of before i
  clock-other i other = ap (λ (clocks : List (List ℕ)). slice_index_or clocks i []) clocks_stay
      ∙ clock_of-other agent i new before other

  slot-same : (slot : ℕ) → clock_in after slot ≡ clock_in before slot
  slot-same slot = ap (λ (all : List (List ℕ)). slice_index_or all slot []) slots_stay

  new-own : slice_index new agent ≡ n
  new-own =
      let begins : slice_index (raised old agent) agent ≡ n = raised-same old agent own.long in
      let least : slice_index (raised old agent) agent ≤ slice_index new agent =
      joined_all-grows before.slots slots (raised old agent) agent in
      let most : slice_index new agent ≤ n =
      joined_all-below before.slots slots (raised old agent) agent n (omega (arith, begins))
      (λ slot. (let few : slice_index (clock_in before slot) agent ≤ steps_of before agent =
      (seen.slots slot).within agent in omega (arith, few))) in
      omega (arith, begins, least, most)

  steps-same : steps_of after agent ≡ n
  steps-same = ap (λ (clock : List ℕ). slice_index clock agent) clock-same ∙ new-own

  steps-other : (i : ℕ) → i ≢ agent → steps_of after i ≡ steps_of before i
  steps-other i other = ap (λ (clock : List ℕ). slice_index clock i) (clock-other i other)

  steps-grow : (i : ℕ) → steps_of before i ≤ steps_of after i
  steps-grow i = elim (same-or-not i agent) as (λ _. steps_of before i ≤ steps_of after i) [
    | inl e ↦ subst (λ (j : ℕ). steps_of before j ≤ steps_of after j) (sym e) (omega (arith, steps-same))
    | inr other ↦ omega (arith, steps-other i other)
  ]

  new-within : IsWithin after new
  new-within i = elim (same-or-not i agent) as (λ _. slice_index new i ≤ steps_of after i) [
    | inl e ↦ subst (λ (j : ℕ). slice_index new j ≤ steps_of after j) (sym e) (omega (arith, steps-same, new-own))
    | inr other ↦
        let most : slice_index new i ≤ steps_of before i =
        joined_all-below before.slots slots (raised old agent) i (steps_of before i)
        (let few : slice_index old i ≤ steps_of before i = own.within i in
        omega (arith, few, raised-other old agent i other))
        (λ slot. (seen.slots slot).within i) in
        omega (arith, most, steps-other i other)
  ]

  past : (a : Agent) → f.past a ≡ counted numbers new a
  past a = ap (λ (clock : List ℕ). slice_index clock (numbers.agent a))
      (ap (λ (i : ℕ). clock_of after i) told.by ∙ clock-same)

  place : f.place ≡ n
  place = ap (λ (i : ℕ). steps_of after i) told.by ∙ steps-same

  middle-same : clock_of middle agent ≡ new
  middle-same = clock_of-same agent new before told.added

  -- the clocks as they are behind the joins know no less
  clocks-grow : (i j : ℕ) → slice_index (clock_of before i) j ≤ slice_index (clock_of middle i) j
  clocks-grow i j = elim (same-or-not i agent) as
      (λ _. slice_index (clock_of before i) j ≤ slice_index (clock_of middle i) j) [
        | inl e ↦ subst (λ (k : ℕ). slice_index (clock_of before k) j ≤ slice_index (clock_of middle k) j) (sym e)
            (subst (λ (clock : List ℕ). slice_index old j ≤ slice_index clock j) (sym middle-same)
            (let first : slice_index old j ≤ slice_index (raised old agent) j = raised-grows old agent j own.long in
            let rest : slice_index (raised old agent) j ≤ slice_index new j =
            joined_all-grows before.slots slots (raised old agent) j in
            omega (arith, first, rest)))
        | inr other ↦
            let e : slice_index (clock_of middle i) j ≡ slice_index (clock_of before i) j =
            ap (λ (clock : List ℕ). slice_index clock j) (clock_of-other agent i new before other) in
            omega (arith, e)
      ]

  -- and count as many steps of an agent with each step that was begun
  counts-middle : (step : Step) (a k : ℕ) → step.number ≤ steps_of before step.agent
      → EachClock (CountsToo step a k) before → EachClock (CountsToo step a k) middle
  counts-middle step a k few tells = record {
    agents = λ i. elim (same-or-not i agent) as (λ _. CountsToo step a k (clock_of middle i)) [
      | inl e ↦ subst (λ (clock : List ℕ). CountsToo step a k clock)
          (sym (ap (λ (j : ℕ). clock_of middle j) e ∙ middle-same))
          (counts-joined_all step a k before.slots slots (raised old agent)
          (counts-raised step a k old agent own.long
          (λ same. subst (λ (j : ℕ). step.number ≤ steps_of before j) same few)
          (tells.agents agent)) tells.slots)
      | inr other ↦ subst (λ (clock : List ℕ). CountsToo step a k clock)
          (sym (clock_of-other agent i new before other)) (tells.agents i)
    ];
    slots = tells.slots;
  }

  none-before : NoneKnowFrom before agent n
  none-before = (none-new m accesses numbers entries table writers before seen).unknown agent

  -- nobody else knows of the step
  alone : NoneKnowFrom middle agent n
  alone = record {
    clocks = λ other away. subst (λ (clock : List ℕ). slice_index clock agent < n)
        (sym (clock_of-other agent other new before away)) (none-before.clocks other away);
    slots = none-before.slots;
  }

  next : IsNext m accesses numbers middle agent n new (steps_of after)
  next = record {
    same = middle-same;
    own = new-own;
    begun = steps-same;
    alone = alone;
    collide = seen.numbered.collide;
  }

  kept-middle : AreKept m accesses numbers middle agent n new (steps_of after) middle
  kept-middle place access has =
      let few : access.step.number ≤ steps_of before access.step.agent = seen.kept place access has in
      omega (arith, few, steps-grow access.step.agent)

  ordered-middle : AreAllOrdered m accesses numbers middle agent n new (steps_of after) middle
  ordered-middle place x y has had hits = elim (seen.ordered place x y has had hits) as
      (λ _. HasCounted middle x.step.agent y.step ⊎ HasCounted middle y.step.agent x.step) [
        | inl h ↦ let more : slice_index (clock_of before x.step.agent) y.step.agent
            ≤ slice_index (clock_of middle x.step.agent) y.step.agent = clocks-grow x.step.agent y.step.agent in
            inl (omega (arith, h, more))
        | inr h ↦ let more : slice_index (clock_of before y.step.agent) x.step.agent
            ≤ slice_index (clock_of middle y.step.agent) x.step.agent = clocks-grow y.step.agent x.step.agent in
            inr (omega (arith, h, more))
      ]

  -- accesses that are covered by others of the agent
  pub own-all : Owns m accesses numbers before agent done (accesses.of label)
  own-all = owns m accesses numbers before agent done (accesses.of label) told.all

  first-tabled : AreTabled m accesses numbers middle agent n new (steps_of after) own-all.list middle table
  first-tabled =
      owned m accesses numbers middle agent n new (steps_of after) next own-all.list middle table kept-middle
      ordered-middle
      (λ p k a. elim (seen.covered p k a) as
      (λ _. IsCovered middle (accesses_at middle (numbers.place p)) (numbers.mode p k) (numbers.agent a)
      (table p k a)) [
        | inl none ↦ inl none
        | inr (access, has, over, tells) ↦ inr (
          access,
          has,
          over,
          counts-middle access.step (numbers.agent a) (table p k a) (seen.kept (numbers.place p) access has) tells,
        )
      ])
      (λ p k a. (let few : table p k a ≤ steps_of before (numbers.agent a) = seen.tables p k a in
      omega (arith, few, steps-grow (numbers.agent a))))
      (each-more (λ access. IsOwnYet before agent access.place access.mode)
      (λ access. IsOwned m accesses numbers middle agent n new (steps_of after) middle access)
      (λ access is. (
        is.access,
        is.there,
        is.by,
        is.over,
        record {
          clocks = λ other away. subst (λ (clock : List ℕ). slice_index clock agent < is.access.step.number)
              (sym (clock_of-other agent other new before away)) (is.unknown.clocks other away);
          slots = is.unknown.slots;
        },
      )) own-all.list own-all.each)

  abbrev between : Table m accesses
  between = tabled m accesses numbers middle agent n new (steps_of after) own-all.list table

  abbrev last : Table m accesses
  last = tabled m accesses numbers middle agent n new (steps_of after) done between

  all-tabled : AreTabled m accesses numbers middle agent n new (steps_of after) done after between
  all-tabled =
      accessed m accesses numbers middle agent n new (steps_of after) next done middle after between middle-same
      first-tabled.kept first-tabled.ordered first-tabled.covered first-tabled.begun are

  added : numbers.agent (m.agent_of label) < length before.clocks
  added = subst (λ (i : ℕ). i < length before.clocks) (sym told.by) told.added

  none-knows : (zs : List (Entry Agent Label))
      → EachOf (λ z. (a : Agent) → z.past a ≤ steps_of before (numbers.agent a)) zs
      → NoneKnows m zs (m.agent_of label) f.place
  none-knows [] each = tt
  none-knows (z ∷ zs) each = (
    inl (let few : z.past (m.agent_of label) ≤ steps_of before agent =
        subst (λ (i : ℕ). z.past (m.agent_of label) ≤ steps_of before i) told.by (each.0 (m.agent_of label)) in
        omega (arith, few, place)),
    none-knows zs each.1,
  )

  one-knows : (a : Agent) (k : ℕ) (P : Entry Agent Label → Type 0)
      → ((z : Entry Agent Label) → P z → ComesBefore m z.label label × (k ≤ z.past a))
      → (zs : List (Entry Agent Label)) → OneOf P zs → OneKnows m zs label a k
  one-knows a k P tells [] one = absurd one
  one-knows a k P tells (z ∷ zs) (inl h) = inl (tells z h)
  one-knows a k P tells (z ∷ zs) (inr one) = inr (one-knows a k P tells zs one)

  -- steps of the same number are of one agent
  same-agent : (a : Agent) → numbers.agent a ≡ agent → m.agent_of label ≡ a
  same-agent a e = seen.numbered.apart (m.agent_of label) a added (told.by ∙ sym e)

  from-own : (a : Agent) → numbers.agent a ≢ agent → counted numbers new a ≡ counted numbers (raised old agent) a
      → (f.past a ≡ 0) ⊎ OneKnows m entries label a (f.past a)
  from-own a other same =
      let count : f.past a ≡ counted numbers old a =
      past a ∙ same ∙ raised-other old agent (numbers.agent a) other in
      elim (own.known a other) as (λ _. (f.past a ≡ 0) ⊎ OneKnows m entries label a (f.past a)) [
        | inl none ↦ inl (count ∙ none)
        | inr one ↦ inr (one-knows a (f.past a)
            (λ z. (numbers.agent (m.agent_of z.label) ≡ agent) × (counted numbers old a ≤ z.past a))
            (λ z h. (
              inl (subst (λ (b : Agent). m.same b (m.agent_of label) ≡ true) (same-agent (m.agent_of z.label) h.0)
                  (seen.numbered.same (m.agent_of label))),
              omega (arith, h.1, count),
            )) entries one)
      ]

  from-slot : (a : Agent) (slot : ℕ) → EachOf (λ z. m.leads z label ≡ true) (writers slot)
      → counted numbers new a ≡ counted numbers (clock_in before slot) a
      → (f.past a ≡ 0) ⊎ OneKnows m entries label a (f.past a)
  from-slot a slot leads same =
      let count : f.past a ≡ counted numbers (clock_in before slot) a = past a ∙ same in
      elim ((seen.slots slot).known a) as (λ _. (f.past a ≡ 0) ⊎ OneKnows m entries label a (f.past a)) [
        | inl none ↦ inl (count ∙ none)
        | inr one ↦ inr (one-knows a (f.past a)
            (λ z. OneOf (λ writer. writer ≡ z.label) (writers slot)
            × (counted numbers (clock_in before slot) a ≤ z.past a))
            (λ z h. (
              inr (each-at (λ writer. m.leads writer label ≡ true) (writers slot) z.label leads h.0),
              omega (arith, h.1, count),
            )) entries one)
      ]

  from-slots : (a : Agent) (some : List ℕ)
      → EachOf (λ slot. EachOf (λ z. m.leads z label ≡ true) (writers slot)) some
      → OneOf (λ slot. slice_index new (numbers.agent a)
      ≡ slice_index (slice_index_or before.slots slot []) (numbers.agent a))
      some
      → (f.past a ≡ 0) ⊎ OneKnows m entries label a (f.past a)
  from-slots a [] leads one = absurd one
  from-slots a (slot ∷ some) leads (inl same) = from-slot a slot leads.0 same
  from-slots a (slot ∷ some) leads (inr one) = from-slots a some leads.1 one

  knows : (a : Agent) → m.same a (m.agent_of label) ≡ false → (f.past a ≡ 0) ⊎ OneKnows m entries label a (f.past a)
  knows a apart =
      let other : numbers.agent a ≢ agent = λ e. true≢false
      (sym (seen.numbered.same a) ∙ sym (ap (λ (b : Agent). m.same a b) (same-agent a e)) ∙ apart) in
      elim (joined_all-one before.slots slots (raised old agent) (numbers.agent a)) as
      (λ _. (f.past a ≡ 0) ⊎ OneKnows m entries label a (f.past a)) [
        | inl same ↦ from-own a other same
        | inr one ↦ from-slots a slots told.leads one
      ]

  checked : IsChecked m accesses entries table f last
  checked = record {
    counted = omega (arith, place);
    fresh = none-knows entries seen.pasts;
    knows = knows;
    permits = λ p k j a has clash. (let few : table p j a ≤ counted numbers new a = permits p k j a has clash in
        let e : f.past a ≡ counted numbers new a = past a in omega (arith, few, e));
    noted = record {
      grows = λ p k a. (let one : table p k a ≤ between p k a = first-tabled.grows p k a in
          let two : between p k a ≤ last p k a = all-tabled.grows p k a in
          omega (arith, one, two));
      notes = λ p k has. (let top : n ≤ last p k (m.agent_of label) = notes p k has in
          omega (arith, top, place));
    };
  }
    where
      permits : (p : Place) (k j : Kind) (a : Agent) → HasAccess (accesses.of label) p k
          → accesses.collide j k ≡ true → table p j a ≤ counted numbers new a
      permits p k j a has clash = elim (own-all.all p k has) as (λ _. table p j a ≤ counted numbers new a) [
        | inl one ↦
            let more : table p j a ≤ between p j a = first-tabled.grows p j a in
            let few : between p j a ≤ counted numbers new a = all-tabled.permits p j k a one clash in
            omega (arith, more, few)
        | inr one ↦ first-tabled.permits p j k a one clash
      ]

      notes : (p : Place) (k : Kind) → HasAccess (accesses.of label) p k → n ≤ last p k (m.agent_of label)
      notes p k has = elim (own-all.all p k has) as (λ _. n ≤ last p k (m.agent_of label)) [
        | inl one ↦ all-tabled.notes p k (m.agent_of label) one told.by
        | inr one ↦
            let top : n ≤ between p k (m.agent_of label) = first-tabled.notes p k (m.agent_of label) one told.by in
            let more : between p k (m.agent_of label) ≤ last p k (m.agent_of label) =
            all-tabled.grows p k (m.agent_of label) in
            omega (arith, top, more)
      ]

  length-clocks : length after.clocks ≡ length before.clocks
  length-clocks = ap (λ (clocks : List (List ℕ)). length clocks) clocks_stay ∙ length-set before.clocks agent new

  more-within : (clock : List ℕ) → IsWithin before clock → IsWithin after clock
  more-within clock within i = let few : slice_index clock i ≤ steps_of before i = within i in
      omega (arith, few, steps-grow i)

  clocks-after : (i : ℕ) → i < length after.clocks → IsClockOf m numbers (f ∷ entries) after i (clock_of after i)
  clocks-after i within = elim (same-or-not i agent) as
      (λ _. IsClockOf m numbers (f ∷ entries) after i (clock_of after i)) [
        | inl e ↦ subst (λ (j : ℕ). IsClockOf m numbers (f ∷ entries) after j (clock_of after j)) (sym e)
            (subst (λ (clock : List ℕ). IsClockOf m numbers (f ∷ entries) after agent clock) (sym clock-same) record {
              long = (let most : length (raised old agent) ≤ length new =
                  joined_all-long before.slots slots (raised old agent) in
                  omega (arith, own.long, most, length-raised old agent));
              within = new-within;
              known = λ a other. inr (inl (
                told.by,
                let p : f.past a ≡ counted numbers new a = past a in omega (arith, p),
              ));
            })
        | inr other ↦
            let was : IsClockOf m numbers entries before i (clock_of before i) =
            seen.clocks i (omega (arith, within, length-clocks)) in
            subst (λ (clock : List ℕ). IsClockOf m numbers (f ∷ entries) after i clock)
            (sym (clock-other i other)) record {
              long = was.long;
              within = more-within (clock_of before i) was.within;
              known = λ a away. elim (was.known a away) as
                  (λ _. (counted numbers (clock_of before i) a ≡ 0)
                  ⊎ OneOf (λ z. (numbers.agent (m.agent_of z.label) ≡ i)
                  × (counted numbers (clock_of before i) a ≤ z.past a)) (f ∷ entries)) [
                    | inl none ↦ inl none
                    | inr one ↦ inr (inr one)
                  ];
            }
      ]

  slots-after : (slot : ℕ) → IsClockBy m numbers (f ∷ entries) after (writers slot) (clock_in after slot)
  slots-after slot =
      let was : IsClockBy m numbers entries before (writers slot) (clock_in before slot) = seen.slots slot in
      subst (λ (clock : List ℕ). IsClockBy m numbers (f ∷ entries) after (writers slot) clock)
      (sym (slot-same slot)) record {
        within = more-within (clock_in before slot) was.within;
        known = λ a. elim (was.known a) as
            (λ _. (counted numbers (clock_in before slot) a ≡ 0)
            ⊎ OneOf (λ z. OneOf (λ writer. writer ≡ z.label) (writers slot)
            × (counted numbers (clock_in before slot) a ≤ z.past a)) (f ∷ entries)) [
              | inl none ↦ inl none
              | inr one ↦ inr (inr one)
            ];
      }

  -- the clocks are as they were before the accesses
  same-after : (i : ℕ) → clock_of after i ≡ clock_of middle i
  same-after i = ap (λ (clocks : List (List ℕ)). slice_index_or clocks i []) clocks_stay

  counts-after : (step : Step) (a k : ℕ) → EachClock (CountsToo step a k) middle → EachClock (CountsToo step a k) after
  counts-after step a k tells = record {
    agents = λ i. subst (λ (clock : List ℕ). CountsToo step a k clock) (sym (same-after i)) (tells.agents i);
    slots = λ slot. subst (λ (clock : List ℕ). CountsToo step a k clock) (sym (slot-same slot)) (tells.slots slot);
  }

  covered-after : (p : Place) (k : Kind) (a : Agent)
      → IsCovered after (accesses_at after (numbers.place p)) (numbers.mode p k) (numbers.agent a) (last p k a)
  covered-after p k a = elim (all-tabled.covered p k a) as
      (λ _. IsCovered after (accesses_at after (numbers.place p)) (numbers.mode p k) (numbers.agent a) (last p k a)) [
        | inl none ↦ inl none
        | inr (access, has, over, tells) ↦
            inr (access, has, over, counts-after access.step (numbers.agent a) (last p k a) tells)
      ]

  ordered-after : (place : ℕ) → AreOrdered after (accesses_at after place)
  ordered-after place x y has had hits = elim (all-tabled.ordered place x y has had hits) as
      (λ _. HasCounted after x.step.agent y.step ⊎ HasCounted after y.step.agent x.step) [
        | inl h ↦ inl (subst (λ (clock : List ℕ). y.step.number ≤ slice_index clock y.step.agent)
            (sym (same-after x.step.agent)) h)
        | inr h ↦ inr (subst (λ (clock : List ℕ). x.step.number ≤ slice_index clock x.step.agent)
            (sym (same-after y.step.agent)) h)
      ]

  pub follows_on : Follows m accesses numbers (f ∷ entries) last writers after
  follows_on = record {
    numbered = record {
      same = seen.numbered.same;
      collide = seen.numbered.collide;
      apart = λ a b h e. seen.numbered.apart a b (omega (arith, h, length-clocks)) e;
    };
    passed = (table, checked, seen.passed);
    agents = (
      omega (arith, added, length-clocks),
      each-more (λ z. numbers.agent (m.agent_of z.label) < length before.clocks)
          (λ z. numbers.agent (m.agent_of z.label) < length after.clocks)
          (λ z h. omega (arith, h, length-clocks)) entries seen.agents,
    );
    places = (
      omega arith,
      each-more (λ z. z.place ≤ steps_of before (numbers.agent (m.agent_of z.label)))
          (λ z. z.place ≤ steps_of after (numbers.agent (m.agent_of z.label)))
          (λ z h. omega (arith, h, steps-grow (numbers.agent (m.agent_of z.label)))) entries seen.places,
    );
    pasts = (
      λ a. (let p : f.past a ≡ counted numbers new a = past a in
          let few : slice_index new (numbers.agent a) ≤ steps_of after (numbers.agent a) =
          new-within (numbers.agent a) in
          omega (arith, p, few)),
      each-more (λ z. (a : Agent) → z.past a ≤ steps_of before (numbers.agent a))
          (λ z. (a : Agent) → z.past a ≤ steps_of after (numbers.agent a))
          (λ z h a. (let few : z.past a ≤ steps_of before (numbers.agent a) = h a in
          omega (arith, few, steps-grow (numbers.agent a)))) entries seen.pasts,
    );
    clocks = clocks-after;
    slots = slots-after;
    tables = all-tabled.begun;
    kept = all-tabled.kept;
    covered = covered-after;
    ordered = ordered-after;
  }
