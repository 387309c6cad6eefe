-- A step whose run sees a gate of another agent shut has a gate of it among its sights, shut: where its own changes
-- shut the gate, it has seen one shut before.
use Rattle.std.proofs.Common.{◌≡◌, ◌≢◌, ◌⊎◌, inl, inr, refl, sym, ap, ◌∙◌, subst, Bool, true, false, List, [], ◌∷◌}
use Rattle.std.proofs.Common.{◌++◌, Some, None, append_assoc, append-nil, true≢false, not, ◌&&◌, map, Ok}
use Rattle.std.specs.Prelude.{if◌then◌else◌}
use Rattle.std.specs.List.{list_any}
use Rattle.std.proofs.lemmas.Bool.{or_cases, or_left, or_right, and_from}
use Rattle.tplan.specs.declared.plan.Plan.{Plan}
use Rattle.tagents.specs.Walks.{Walk, looking, doing, Sight, sight, sights_of, deed_of, label_of, was_shut, are_open}
use Rattle.tagents.specs.Tidy.{IsOneOf, HoldsOfEach, IsGate, WasShut, OneWasShut, Spares, IsCareful}
use Rattle.tclocks.proofs.Lists.{test}
use Rattle.tprocesses.specs.Places.{Place, same_place}
use Rattle.tprocesses.specs.Values.{Value}
use Rattle.tprocesses.specs.Changes.{Change, apply}
use Rattle.tprocesses.specs.Parts.{gives, stopping, seeing, changing, telling, Doing, Changed, Deed, made, walk_from}
use Rattle.tprocesses.specs.Parts.{walk_of}
use Rattle.tprocesses.specs.Machine.{Agent, gates, is_open, step_of, process_machine}
use Rattle.tprocesses.proofs.Tidy.{process_machine_is_tidy, all_are_careful}
use Rattle.tcertify.specs.Running.{State, changed, run_part}
use Rattle.tcertify.specs.Seeing.{sights}
use Rattle.tfollow.specs.Leading.{has_seen_shut, SeesShut}
use Rattle.tfollow.proofs.Listed.{one-of}
use Rattle.tfollow.proofs.Led.{place-same}
use Rattle.tfollow.proofs.Stepping.{goes}

any-one : {X : Type 0} (f : X → Bool) (x : X) (xs : List X) → IsOneOf x xs → f x ≡ true → list_any f xs ≡ true
any-one f x [] one h = absurd one
any-one f x (y ∷ ys) (inl here) h = or_left (f y) (list_any f ys) (ap f here ∙ h)
any-one f x (y ∷ ys) (inr there) h = or_right (f y) (list_any f ys) (any-one f x ys there h)

any-second : {X : Type 0} (f : X → Bool) (xs ys : List X) → list_any f ys ≡ true → list_any f (xs ++ ys) ≡ true
any-second f [] ys h = h
any-second f (x ∷ xs) ys h = or_right (f x) (list_any f (xs ++ ys)) (any-second f xs ys h)

any-first : {X : Type 0} (f : X → Bool) (xs ys : List X) → list_any f xs ≡ true → list_any f (xs ++ ys) ≡ true
any-first f [] ys h = absurd (true≢false (sym h))
any-first f (x ∷ xs) ys h =
    elim (or_cases (f x) (list_any f xs) h) as (λ _. list_any f (x ∷ xs ++ ys) ≡ true) [
      | inl here ↦ or_left (f x) (list_any f (xs ++ ys)) here
      | inr there ↦ or_right (f x) (list_any f (xs ++ ys)) (any-first f xs ys there)
    ]

module _ (plan : Plan) (b : Agent) (s : State) where
  -- what was seen at the end of a walk, the last sight first
  abbrev seen_after : Walk Place Value Deed → List (Sight Place Value) → List (Sight Place Value)
  seen_after (looking p next) seen = seen_after (next (s p)) (record { place = p; value = s p } ∷ seen)
  seen_after (doing d) seen = seen

  sparing : (a : Agent) (walk : Walk Place Value Deed) (seen : List (Sight Place Value))
      → IsCareful (process_machine plan) a seen walk
      → (process_machine plan).stops (deed_of walk s) ≡ false
      → HoldsOfEach (Spares (process_machine plan) a (seen_after walk seen)) (deed_of walk s).changes
  sparing a (looking p next) seen careful goes =
      sparing a (next (s p)) (record { place = p; value = s p } ∷ seen) (careful (s p)) goes
  sparing a (doing d) seen careful goes = careful goes

  module _ (q : Place) where
    -- a sight of the place, shut to the agent
    abbrev is_shut : Sight Place Value → Bool
    is_shut x = same_place x.place q && not (is_open plan b q x.value)

    shut-sight : (x : Sight Place Value) → x.place ≡ q → is_open plan b q x.value ≡ false → is_shut x ≡ true
    shut-sight x here shut =
        and_from _ _ (ap (λ (p : Place). same_place p q) here ∙ place-same plan q) (ap not shut)

    any-was : (seen : List (Sight Place Value)) → WasShut (process_machine plan) b q seen
        → list_any is_shut seen ≡ true
    any-was [] was = absurd was
    any-was (x ∷ seen) (inl now) = or_left _ _ (shut-sight x now.0 now.1)
    any-was (x ∷ seen) (inr before) = or_right _ _ (any-was seen before)

    -- what was shut by then was seen shut on the way
    on-the-way : (walk : Walk Place Value Deed) (seen : List (Sight Place Value))
        → WasShut (process_machine plan) b q (seen_after walk seen)
        → WasShut (process_machine plan) b q seen ⊎ (list_any is_shut (sights_of walk s) ≡ true)
    on-the-way (looking p next) seen was =
        elim (on-the-way (next (s p)) (record { place = p; value = s p } ∷ seen) was) as
        (λ _. WasShut (process_machine plan) b q seen ⊎ (list_any is_shut (sights_of (looking p next) s) ≡ true)) [
          | inl (inl now) ↦ inr (or_left _ _ (shut-sight (sight s p) now.0 now.1))
          | inl (inr before) ↦ inl before
          | inr later ↦ inr (or_right _ _ later)
        ]
    on-the-way (doing d) seen was = inl was

    by-then : (walk : Walk Place Value Deed) (seen : List (Sight Place Value))
        → WasShut (process_machine plan) b q (seen_after walk seen)
        → list_any is_shut (seen ++ sights_of walk s) ≡ true
    by-then walk seen was =
        elim (on-the-way walk seen was) as (λ _. list_any is_shut (seen ++ sights_of walk s) ≡ true) [
          | inl before ↦ any-first is_shut seen (sights_of walk s) (any-was seen before)
          | inr later ↦ any-second is_shut seen (sights_of walk s) later
        ]

module _ (plan : Plan) (a b : Agent) (q : Place) (other : b ≢ a) (gate : IsGate (process_machine plan) b q) where
  -- where the gate is open, each change leaves it open, or a gate of the agent was seen shut
  abbrev IsStill : List (Sight Place Value) → Value → Type 0
  IsStill seen v = (is_open plan b q v ≡ true) ⊎ OneWasShut (process_machine plan) b seen

  still-step : (seen : List (Sight Place Value)) (c : Changed) → Spares (process_machine plan) a seen c
      → (after : Value → Value) → ((v : Value) → is_open plan b q v ≡ true → IsStill seen (after v)) → (v : Value)
      → is_open plan b q v ≡ true → (t : Bool) → same_place c.place q ≡ t
      → IsStill seen (after (if t then apply c.change v else v))
  still-step seen c spare after rest v opened false e = rest v opened
  still-step seen c (inl never) after rest v opened true e = rest (apply c.change v) (never b q v gate opened)
  still-step seen c (inr shut) after rest v opened true e =
      let there : c.place ≡ q = (process_machine_is_tidy plan).told.is_same_place c.place q e in
      inr (shut b other (subst (λ (p : Place). IsGate (process_machine plan) b p) (sym there) gate))

  still : (seen : List (Sight Place Value)) (cs : List Changed) → HoldsOfEach (Spares (process_machine plan) a seen) cs
      → (v : Value) → is_open plan b q v ≡ true → IsStill seen (made cs q v)
  still seen [] spare v opened = inl opened
  still seen (c ∷ cs) spare v opened =
      still-step seen c spare.0 (made cs q) (still seen cs spare.1) v opened (same_place c.place q) refl

made-more : (cs : List Changed) (p q : Place) (c : Change) (v : Value)
    → made (cs ++ record { place = p; change = c } ∷ []) q v
    ≡ (if same_place p q then apply c (made cs q v) else made cs q v)
made-more [] p q c v = refl
made-more (x ∷ cs) p q c v = made-more cs p q c (if same_place x.place q then apply x.change v else v)

-- a state with changes made
abbrev so_far : List Changed → State → State
so_far cs s p = made cs p (s p)

so_far-more : (cs : List Changed) (p : Place) (c : Change) (s : State)
    → so_far (cs ++ record { place = p; change = c } ∷ []) s ≡ changed p c (so_far cs s)
so_far-more cs p c s = λ i q. made-more cs p q c (s q) i

first-of : {X : Type 0} (P : X → Type 0) (xs ys : List X) → HoldsOfEach P (xs ++ ys) → HoldsOfEach P xs
first-of P [] ys h = tt
first-of P (x ∷ xs) ys h = (h.0, first-of P xs ys h.1)

module _ (q : Place) (v : Value) (s : State) where
  -- what a run has seen at a place is what the first changes of its walk make of the value there, and the walk looks
  -- at the place
  record IsMade (walk : Walk Place Value Deed) : Type 0 where
    early : List Changed
    late : List Changed
    all : (deed_of walk s).changes ≡ early ++ late
    value : v ≡ made early q (s q)
    looked : IsOneOf (sight s q) (sights_of walk s)

  grown : (d : Deed) (part : Doing)
      → (late : List Changed) × ((deed_of (walk_from d part) s).changes ≡ d.changes ++ late)
  grown d (gives x) = ([], sym (append-nil d.changes))
  grown d (stopping why) = ([], sym (append-nil d.changes))
  grown d (seeing p next) = grown d (next (made d.changes p (s p)))
  grown d (changing p c next) =
      let (late, same) = grown (record d { changes = d.changes ++ record { place = p; change = c } ∷ [] }) next in (
        record { place = p; change = c } ∷ late,
        same ∙ append_assoc d.changes (record { place = p; change = c } ∷ []) late,
      )
  grown d (telling m next) = grown (record d { message = Some m }) next

  is-made : (d : Deed) (part : Doing) → IsOneOf (record { place = q; value = v }) (sights part (so_far d.changes s))
      → IsMade (walk_from d part)
  is-made d (gives x) one = absurd one
  is-made d (stopping why) one = absurd one
  is-made d (seeing p next) (inl here) =
      let at : p ≡ q = ap (λ (x : Sight Place Value). x.place) here in
      let (late, same) = grown d (seeing p next) in
      record {
        early = d.changes;
        late = late;
        all = same;
        value = sym (ap (λ (x : Sight Place Value). x.value) here) ∙ ap (λ (r : Place). made d.changes r (s r)) at;
        looked = inl (ap (sight s) at);
      }
  is-made d (seeing p next) (inr there) =
      let m : IsMade (walk_from d (next (made d.changes p (s p)))) = is-made d (next (made d.changes p (s p))) there in
      record { early = m.early; late = m.late; all = m.all; value = m.value; looked = inr m.looked }
  is-made d (changing p c next) one =
      is-made (record d { changes = d.changes ++ record { place = p; change = c } ∷ [] }) next
      (subst (λ (t : State). IsOneOf (record { place = q; value = v }) (sights next t))
      (sym (so_far-more d.changes p c s)) one)
  is-made d (telling m next) one = is-made (record d { message = Some m }) next one

module _ (plan : Plan) (a b : Agent) (s u : State) (all_open : are_open (process_machine plan) a s ≡ true)
    (run : run_part (step_of plan a) s ≡ (Ok tt, u)) (other : b ≢ a) (h : SeesShut plan a s b) where
  abbrev walk : Walk Place Value Deed
  walk = walk_of (step_of plan a)

  -- what the step has seen before its walk
  abbrev first : List (Sight Place Value)
  first = map (sight s) (gates plan a)

  met : IsMade h.place h.value s walk
  met = is-made h.place h.value s (record { changes = []; message = None; stops = None }) (step_of plan a)
      (one-of (record { place = h.place; value = h.value }) (sights (step_of plan a) s) h.seen)

  -- the changes up to there spare the gates of others
  spare-early : HoldsOfEach (Spares (process_machine plan) a (seen_after plan b s walk first)) met.early
  spare-early =
      first-of (Spares (process_machine plan) a (seen_after plan b s walk first)) met.early met.late
      (subst (λ (cs : List Changed). HoldsOfEach
      (Spares (process_machine plan) a (seen_after plan b s walk first)) cs) met.all
      (sparing plan b s a walk first (all_are_careful plan a s all_open) (goes plan a s u run)))

  -- a gate at which a sight was shut
  by-gate : (q : Place) → IsGate (process_machine plan) b q
      → list_any (is_shut plan b s q) (first ++ sights_of walk s) ≡ true
      → has_seen_shut plan (label_of (process_machine plan) a s) b ≡ true
  by-gate q gate any =
      any-one (λ p. was_shut (process_machine plan) b p (label_of (process_machine plan) a s).seen) q (gates plan b)
      gate any

  pub seen_shut : has_seen_shut plan (label_of (process_machine plan) a s) b ≡ true
  seen_shut = elim (test (is_open plan b h.place (s h.place))) as
      (λ _. has_seen_shut plan (label_of (process_machine plan) a s) b ≡ true) [
        | inl opened ↦ elim (still plan a b h.place other h.gate (seen_after plan b s walk first) met.early spare-early
            (s h.place) opened) as (λ _. has_seen_shut plan (label_of (process_machine plan) a s) b ≡ true) [
              | inl stays ↦ absurd (true≢false (sym stays ∙ ap (is_open plan b h.place) (sym met.value) ∙ h.shut))
              | inr one ↦ by-gate one.0 one.1 (by-then plan b s one.0 walk first one.2)
            ]
        | inr closed ↦ by-gate h.place h.gate (any-second (is_shut plan b s h.place) first (sights_of walk s)
            (any-one (is_shut plan b s h.place) (sight s h.place) (sights_of walk s) met.looked
            (shut-sight plan b s h.place (sight s h.place) refl closed)))
      ]
