-- The walk of a step does what its run does.
use Rattle.std.proofs.Common.{◌≡◌, refl, sym, ap, ◌∙◌, Bool, true, false, List, [], ◌∷◌, ◌++◌, append_assoc, append-nil}
use Rattle.std.proofs.Common.{Some, None}
use Rattle.std.specs.Prelude.{All, Contains, map, filter, if◌then◌else◌}
use Rattle.std.proofs.lemmas.List.Elements.{All-cons, All-nil, All-weaker, Contains-append_left}
use Rattle.std.proofs.lemmas.List.Elements.{Contains-append_right, Contains-push}
use Rattle.tplan.specs.declared.plan.Plan.{Plan}
use Rattle.tagents.specs.Walks.{deed_of, sights_of, value_after}
use Rattle.tprocesses.specs.Places.{Place, same_place}
use Rattle.tprocesses.specs.Values.{Value}
use Rattle.tprocesses.specs.Changes.{Change, apply}
use Rattle.tprocesses.specs.Parts.{Part, gives, stopping, seeing, changing, telling, Doing, Changed, Deed, made}
use Rattle.tprocesses.specs.Parts.{walk_from}
use Rattle.tprocesses.specs.Machine.{process_machine}
use Rattle.tcertify.specs.Running.{State, changed, run_part}
use Rattle.tcertify.specs.Walked.{Accessed, accesses, change_at, look_at, stop_of, looks, changes, IsWalkedAsRun}

-- one more change at a place
made-more : (cs : List Changed) (p q : Place) (c : Change) (v : Value)
    → made (cs ++ record { place = p; change = c } ∷ []) q v
    ≡ (if same_place p q then apply c (made cs q v) else made cs q v)
made-more [] p q c v = refl
made-more (x ∷ cs) p q c v = made-more cs p q c (if same_place x.place q then apply x.change v else v)

-- a state with changes made
abbrev so_far : List Changed → State → State
so_far cs s p = made cs p (s p)

so_far-more : (cs : List Changed) (p : Place) (c : Change) (s : State)
    → so_far (cs ++ record { place = p; change = c } ∷ []) s ≡ changed p c (so_far cs s)
so_far-more cs p c s = λ i q. made-more cs p q c (s q) i

-- changes that are picked by their place are those that are made there
picked : (plan : Plan) (cs : List Changed) (p : Place) (v : Value)
    → value_after (process_machine plan) (map (λ x. x.change) (filter (λ x. same_place x.place p) cs)) v ≡ made cs p v
picked plan [] p v = refl
picked plan (x ∷ cs) p v = by (same_place x.place p) (λ u. picked plan cs p u) v
  where
    by : (t : Bool) → ((u : Value)
        → value_after (process_machine plan) (map (λ y. y.change) (filter (λ y. same_place y.place p) cs)) u
        ≡ made cs p u) → (v : Value)
        → value_after (process_machine plan) (map (λ y. y.change)
        (if t then x ∷ filter (λ y. same_place y.place p) cs else filter (λ y. same_place y.place p) cs)) v
        ≡ made cs p (if t then apply x.change v else v)
    by true rest v = rest (apply x.change v)
    by false rest v = rest v

-- an access is among more
among_more : (a b : Accessed) (told : List Accessed) → Contains told b → Contains (a ∷ told) b
among_more a b told h = Contains-append_right (a ∷ []) told b h

among_first : (a : Accessed) (told : List Accessed) → Contains (a ∷ told) a
among_first a told = Contains-append_left (a ∷ []) told a (Contains-push [] a)

-- each look is among the accesses
looks_are_told : {A : Type 0} (step : Part A) (s : State)
    → All (λ p. Contains (accesses step s) (look_at p)) (looks step s)
looks_are_told (gives x) s = All-nil (λ p. Contains [] (look_at p))
looks_are_told (stopping why) s = All-nil (λ p. Contains [] (look_at p))
looks_are_told (seeing p next) s =
    let told = accesses (next (s p)) s in
    All-cons (λ q. Contains (look_at p ∷ told) (look_at q)) p (looks (next (s p)) s) (among_first (look_at p) told)
    (All-weaker (λ q. Contains told (look_at q)) (λ q. Contains (look_at p ∷ told) (look_at q))
    (λ q h. among_more (look_at p) (look_at q) told h) (looks (next (s p)) s) (looks_are_told (next (s p)) s))
looks_are_told (changing p c next) s =
    let told = accesses next (changed p c s) in
    All-weaker (λ q. Contains told (look_at q)) (λ q. Contains (change_at p c ∷ told) (look_at q))
    (λ q h. among_more (change_at p c) (look_at q) told h) (looks next (changed p c s))
    (looks_are_told next (changed p c s))
looks_are_told (telling m next) s = looks_are_told next s

-- and each change
changes_are_told : {A : Type 0} (step : Part A) (s : State)
    → All (λ x. Contains (accesses step s) (change_at x.place x.change)) (changes step s)
changes_are_told (gives x) s = All-nil (λ (x : Changed). Contains [] (change_at x.place x.change))
changes_are_told (stopping why) s = All-nil (λ (x : Changed). Contains [] (change_at x.place x.change))
changes_are_told (seeing p next) s =
    let told = accesses (next (s p)) s in
    All-weaker (λ (x : Changed). Contains told (change_at x.place x.change))
    (λ (x : Changed). Contains (look_at p ∷ told) (change_at x.place x.change))
    (λ x h. among_more (look_at p) (change_at x.place x.change) told h) (changes (next (s p)) s)
    (changes_are_told (next (s p)) s)
changes_are_told (changing p c next) s =
    let told = accesses next (changed p c s) in
    All-cons (λ (x : Changed). Contains (change_at p c ∷ told) (change_at x.place x.change))
    (record { place = p; change = c }) (changes next (changed p c s)) (among_first (change_at p c) told)
    (All-weaker (λ (x : Changed). Contains told (change_at x.place x.change))
    (λ (x : Changed). Contains (change_at p c ∷ told) (change_at x.place x.change))
    (λ x h. among_more (change_at p c) (change_at x.place x.change) told h) (changes next (changed p c s))
    (changes_are_told next (changed p c s)))
changes_are_told (telling m next) s = changes_are_told next s

module _ (plan : Plan) where
  looks-from : (d : Deed) (step : Doing) (s : State)
      → map (λ x. x.place) (sights_of (walk_from d step) s) ≡ looks step (so_far d.changes s)
  looks-from d (gives x) s = refl
  looks-from d (stopping why) s = refl
  looks-from d (seeing p next) s =
      ap (λ (ps : List Place). p ∷ ps) (looks-from d (next (made d.changes p (s p))) s)
  looks-from d (changing p c next) s =
      looks-from (record d { changes = d.changes ++ record { place = p; change = c } ∷ [] }) next s
      ∙ ap (looks next) (so_far-more d.changes p c s)
  looks-from d (telling m next) s = looks-from (record d { message = Some m }) next s

  changes-from : (d : Deed) (step : Doing) (s : State)
      → (deed_of (walk_from d step) s).changes
      ≡ d.changes ++ changes step (so_far d.changes s)
  changes-from d (gives x) s = sym (append-nil d.changes)
  changes-from d (stopping why) s = sym (append-nil d.changes)
  changes-from d (seeing p next) s = changes-from d (next (made d.changes p (s p))) s
  changes-from d (changing p c next) s =
      changes-from (record d { changes = d.changes ++ record { place = p; change = c } ∷ [] }) next s
      ∙ append_assoc d.changes (record { place = p; change = c } ∷ [])
      (changes next (so_far (d.changes ++ record { place = p; change = c } ∷ []) s))
      ∙ ap (λ (t : State). d.changes ++ record { place = p; change = c } ∷ changes next t)
      (so_far-more d.changes p c s)
  changes-from d (telling m next) s = changes-from (record d { message = Some m }) next s

  stops-from : (d : Deed) (step : Doing) (s : State) → d.stops ≡ None
      → (deed_of (walk_from d step) s).stops ≡ stop_of (run_part step (so_far d.changes s)).0
  stops-from d (gives x) s none = none
  stops-from d (stopping why) s none = refl
  stops-from d (seeing p next) s none = stops-from d (next (made d.changes p (s p))) s none
  stops-from d (changing p c next) s none =
      stops-from (record d { changes = d.changes ++ record { place = p; change = c } ∷ [] }) next s none
      ∙ ap (λ (t : State). stop_of (run_part next t).0) (so_far-more d.changes p c s)
  stops-from d (telling m next) s none = stops-from (record d { message = Some m }) next s none

  state-from : (d : Deed) (step : Doing) (s : State)
      → so_far (deed_of (walk_from d step) s).changes s ≡ (run_part step (so_far d.changes s)).1
  state-from d (gives x) s = refl
  state-from d (stopping why) s = refl
  state-from d (seeing p next) s = state-from d (next (made d.changes p (s p))) s
  state-from d (changing p c next) s =
      state-from (record d { changes = d.changes ++ record { place = p; change = c } ∷ [] }) next s
      ∙ ap (λ (t : State). (run_part next t).1) (so_far-more d.changes p c s)
  state-from d (telling m next) s = state-from (record d { message = Some m }) next s

  -- nothing is done before a step
  abbrev nothing : Deed
  nothing = record { changes = []; message = None; stops = None }

  pub walked : (step : Doing) (s : State) → IsWalkedAsRun plan step s
  walked step s =
      record {
        looks = looks-from nothing step s;
        changes = changes-from nothing step s;
        state = (λ i p. picked plan (deed_of (walk_from nothing step) s).changes p (s p) i)
            ∙ state-from nothing step s;
        stops = stops-from nothing step s refl;
        looks_told = looks_are_told step s;
        changes_told = changes_are_told step s;
      }
