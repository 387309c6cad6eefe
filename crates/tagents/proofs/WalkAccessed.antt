-- Steps of walkers that clash have accesses that collide; so a run of theirs that passes the check is the only one.
use Rattle.std.proofs.Common.{◌≡◌, refl, sym, ap, Bool, true, ◌||◌, not, map}
use Rattle.std.proofs.Common.{List, [], ◌∷◌, ◌++◌, inl, inr}
use Rattle.std.proofs.lemmas.Bool.{and_parts, or_cases}
use Rattle.std.specs.List.{list_any}
use Rattle.tagents.specs.Certificates.{IsCertified}
use Rattle.tagents.specs.Races.{IsRaceFree, with_leads}
use Rattle.tagents.specs.Clocks.{labels}
use Rattle.tagents.specs.Tables.{Access, HasAccess, Collides, ClashesCollide}
use Rattle.tagents.specs.Walks.{Sight, Alteration, Label, Walkers, are_at_odds, disturbs, agents_of}
use Rattle.tagents.specs.Tidy.{IsOneOf, AreTold}
use Rattle.tagents.specs.WalkAccesses.{Mode, Looks, Changes, accesses_of_step, accesses_of}
use Rattle.tagents.specs.WalkAccesses.{WalkersClashByAccesses, CheckedRunsAreCertificates}
use Rattle.tagents.proofs.Found.{IsFound, found}
use Rattle.tagents.proofs.Completed.{each_run_is_completed, each_end_is_the_end}
use Rattle.tagents.proofs.Checked.{checked_runs_have_no_race}
use Rattle.tagents.proofs.Fewer.{race_free}
use Rattle.tagents.proofs.Walked.{walkers_lawful}

module _ {Place Mode : Type 0} where
  -- an access of one list, or of another after it
  in_first : (xs ys : List (Access Place Mode)) (p : Place) (k : Mode) → HasAccess xs p k → HasAccess (xs ++ ys) p k
  in_first [] ys p k h = absurd h
  in_first (x ∷ xs) ys p k (inl here) = inl here
  in_first (x ∷ xs) ys p k (inr there) = inr (in_first xs ys p k there)

  in_second : (xs ys : List (Access Place Mode)) (p : Place) (k : Mode) → HasAccess ys p k → HasAccess (xs ++ ys) p k
  in_second [] ys p k h = h
  in_second (x ∷ xs) ys p k h = inr (in_second xs ys p k h)

  -- what is made of an element is an access
  made_of : {X : Type 0} (make : X → Access Place Mode) (x : X) (xs : List X) → IsOneOf x xs
      → HasAccess (map make xs) (make x).place (make x).mode
  made_of make x [] one = absurd one
  made_of make x (y ∷ ys) (inl here) =
      inl (ap (λ z. (make z).place) here, ap (λ z. (make z).mode) here)
  made_of make x (y ∷ ys) (inr there) = inr (made_of make x ys there)

module _ {Agent Place Value Change Kind Deed : Type 0} (w : Walkers Agent Place Value Change Kind Deed)
    (told : AreTold w) where
  abbrev Step : Type 0
  Step = Label Agent Place Value Deed

  looks : (e : Step) (x : Sight Place Value) → IsOneOf x e.seen → HasAccess (accesses_of_step w e) x.place Looks
  looks e x one = in_first _ _ x.place Looks (made_of _ x e.seen one)

  changes : (e : Step) (x : Alteration Place Change) → IsOneOf x (w.changes e.deed)
      → HasAccess (accesses_of_step w e) x.place (Changes (w.kind_of x.change))
  changes e x one =
      in_second _ _ x.place (Changes (w.kind_of x.change)) (made_of _ x (w.changes e.deed) one)

  -- a change and a look at one place
  record Disturbs (e f : Step) : Type 0 where
    change : Alteration Place Change
    made : IsOneOf change (w.changes e.deed)
    look : HasAccess (accesses_of_step w f) change.place Looks

  disturbing : (e f : Step) → disturbs w e f ≡ true → Disturbs e f
  disturbing e f h =
      let x : IsFound (λ x. list_any (λ y. w.same_place x.place y.place) f.seen) (w.changes e.deed) = found _ _ h in
      let y : IsFound (λ y. w.same_place x.element.place y.place) f.seen = found _ _ x.passes in
      let there : y.element.place ≡ x.element.place =
      sym (told.is_same_place x.element.place y.element.place y.passes) in
      record {
        change = x.element;
        made = x.within;
        look = rw there at (looks f y.element y.within);
      }

  at_odds : (e f : Step)
      → list_any (λ x. list_any (are_at_odds w x) (w.changes f.deed)) (w.changes e.deed) ≡ true
      → Collides (agents_of w) (accesses_of w) e f
  at_odds e f h =
      let x : IsFound (λ x. list_any (are_at_odds w x) (w.changes f.deed)) (w.changes e.deed) = found _ _ h in
      let y : IsFound (are_at_odds w x.element) (w.changes f.deed) = found _ _ x.passes in
      let k : (w.same_place x.element.place y.element.place ≡ true)
      × (not (w.commute (w.kind_of x.element.change) (w.kind_of y.element.change)) ≡ true) = and_parts _ _ y.passes in
      let there : y.element.place ≡ x.element.place =
      sym (told.is_same_place x.element.place y.element.place k.0) in
      record {
        place = x.element.place;
        one = Changes (w.kind_of x.element.change);
        other = Changes (w.kind_of y.element.change);
        mine = changes e x.element x.within;
        theirs = rw there at (changes f y.element y.within);
        collide = k.1;
      }

  first_disturbs : (e f : Step) → Disturbs e f → Collides (agents_of w) (accesses_of w) e f
  first_disturbs e f d =
      record {
        place = d.change.place;
        one = Changes (w.kind_of d.change.change);
        other = Looks;
        mine = changes e d.change d.made;
        theirs = d.look;
        collide = refl;
      }

  second_disturbs : (e f : Step) → Disturbs f e → Collides (agents_of w) (accesses_of w) e f
  second_disturbs e f d =
      record {
        place = d.change.place;
        one = Looks;
        other = Changes (w.kind_of d.change.change);
        mine = d.look;
        theirs = changes f d.change d.made;
        collide = refl;
      }

  pub collide : ClashesCollide (agents_of w) (accesses_of w)
  collide e f h =
      elim (or_cases (disturbs w e f || disturbs w f e) _ h) as (λ _. Collides (agents_of w) (accesses_of w) e f) [
        | inl d ↦ elim (or_cases (disturbs w e f) (disturbs w f e) d)
            as (λ _. Collides (agents_of w) (accesses_of w) e f) [
              | inl first ↦ first_disturbs e f (disturbing e f first)
              | inr second ↦ second_disturbs e f (disturbing f e second)
            ]
        | inr odds ↦ at_odds e f odds
      ]

  -- whichever steps lead to others
  pub collide_anyway : (leads : Step → Step → Bool) → ClashesCollide (with_leads (agents_of w) leads) (accesses_of w)
  collide_anyway leads e f h =
      let k : Collides (agents_of w) (accesses_of w) e f = collide e f h in
      record {
        place = k.place;
        one = k.one;
        other = k.other;
        mine = k.mine;
        theirs = k.theirs;
        collide = k.collide;
      }

pub walkers_clash_by_accesses : (Agent Place Value Change Kind Deed : Type 0)
    → WalkersClashByAccesses Agent Place Value Change Kind Deed
walkers_clash_by_accesses Agent Place Value Change Kind Deed w told = collide w told

pub checked_runs_are_certificates : (Agent Place Value Change Kind Deed : Type 0)
    → CheckedRunsAreCertificates Agent Place Value Change Kind Deed
checked_runs_are_certificates Agent Place Value Change Kind Deed w start end entries leads tidy run over takes fewer
    checked =
    let State : Type 0 = Place → Value in
    let Step : Type 0 = Label Agent Place Value Deed in
    let free : IsRaceFree (with_leads (agents_of w) leads) (labels entries) =
    checked_runs_have_no_race State Agent Step Place (Mode Kind) (with_leads (agents_of w) leads) (accesses_of w)
    entries (collide_anyway w tidy.told leads) checked in
    let c : IsCertified (agents_of w) start (labels entries) end =
    record {
      lawful = walkers_lawful w start tidy;
      run = run;
      over = over;
      race_free = race_free (agents_of w) leads fewer (labels entries) free;
      takes_nothing = takes;
    } in
    record {
      completed = λ s others r.
          each_run_is_completed State Agent Step (agents_of w) start end s (labels entries) others c r;
      alike = λ s others r o.
          each_end_is_the_end State Agent Step (agents_of w) start end s (labels entries) others c r o;
    }
