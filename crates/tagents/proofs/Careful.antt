-- Careful walkers keep the gates of others open: a change that may shut one is made where one gate of its agent was
-- seen shut.
use Rattle.std.proofs.Common.{◌≡◌, ◌≢◌, refl, sym, ap, ◌∙◌, subst, true, false, List, [], ◌∷◌, map}
use Rattle.std.proofs.Common.{inl, inr, true≢false}
use Rattle.tagents.specs.Walks.{Walk, looking, doing, Sight, Alteration, Label, Walkers, sight, deed_of, value_after}
use Rattle.tagents.specs.Tidy.{HoldsOfEach, IsGate, KeepGates, AreTold, WasShut, OneWasShut, Spares, IsCareful}
use Rattle.tagents.specs.Tidy.{AreCareful, CarefulWalkersKeepGates}
use Rattle.tagents.proofs.Fronted.{test}
use Rattle.tagents.proofs.Found.{at_one, of_each, each_passes, all_pass}
use Rattle.tagents.proofs.Walking.{IsStep, is_step, AreSeen, gates_seen}
use Rattle.tagents.proofs.Apart.{made_at}

module _ {Agent Place Value Change Kind Deed : Type 0} (w : Walkers Agent Place Value Change Kind Deed)
    (told : AreTold w) where
  -- a deed each change of which spares the gates of others, after sights that are so
  record IsSparing (s : Place → Value) (a : Agent) (d : Deed) : Type 0 where
    seen : List (Sight Place Value)
    all : AreSeen w s seen
    spare : HoldsOfEach (Spares w a seen) (w.changes d)

  at_the_end : (s : Place → Value) (a : Agent) (seen : List (Sight Place Value)) (walk : Walk Place Value Deed)
      → AreSeen w s seen → IsCareful w a seen walk → w.stops (deed_of walk s) ≡ false
      → IsSparing s a (deed_of walk s)
  at_the_end s a seen (looking p next) all k stops =
      at_the_end s a (record { place = p; value = s p } ∷ seen) (next (s p)) (refl, all) (k (s p)) stops
  at_the_end s a seen (doing d) all k stops = record { seen = seen; all = all; spare = k stops }

  not_shut : (s : Place → Value) (b : Agent) (p : Place) (seen : List (Sight Place Value)) → AreSeen w s seen
      → w.is_open b p (s p) ≡ true → WasShut w b p seen → ⊥
  not_shut s b p [] all is was = absurd was
  not_shut s b p (x ∷ xs) all is (inl here) =
      true≢false (sym is ∙ ap (w.is_open b p) (sym (all.0 ∙ ap s here.0)) ∙ here.1)
  not_shut s b p (x ∷ xs) all is (inr there) = not_shut s b p xs all.1 is there

  none_shut : (s : Place → Value) (b : Agent) (seen : List (Sight Place Value)) → AreSeen w s seen
      → HoldsOfEach (λ p. w.is_open b p (s p) ≡ true) (w.gates b) → OneWasShut w b seen → ⊥
  none_shut s b seen all each one =
      not_shut s b one.0 seen all (at_one (λ p. w.is_open b p (s p) ≡ true) one.0 (w.gates b) each one.1) one.2

  -- none of these changes shuts a gate
  still_open : (a b : Agent) (p : Place) (seen : List (Sight Place Value)) (xs : List (Alteration Place Change))
      → b ≢ a → IsGate w b p → (OneWasShut w b seen → ⊥) → HoldsOfEach (Spares w a seen) xs → (v : Value)
      → w.is_open b p v ≡ true → w.is_open b p (value_after w (made_at w told p xs) v) ≡ true
  still_open a b p seen [] other gate none spare v is = is
  still_open a b p seen (x ∷ xs) other gate none spare v is =
      elim (test (w.same_place x.place p))
      as (λ _. w.is_open b p (value_after w (made_at w told p (x ∷ xs)) v) ≡ true) [
        | inl k ↦ (let there : x.place ≡ p = told.is_same_place x.place p k in
            let after : w.is_open b p (w.apply x.change v) ≡ true =
            elim spare.0 as (λ _. w.is_open b p (w.apply x.change v) ≡ true) [
              | inl never ↦ never b p v gate is
              | inr shut ↦ absurd (none (shut b other (subst (λ (q : Place). IsGate w b q) (sym there) gate)))
            ] in
            rw k (still_open a b p seen xs other gate none spare.1 (w.apply x.change v) after))
        | inr k ↦ rw k (still_open a b p seen xs other gate none spare.1 v is)
      ]

  pub keep_gates : (start : Place → Value) → AreCareful w → KeepGates w start
  keep_gates start careful s s' e b r d stops other h =
      let k : IsStep w s s' e = is_step w s s' e d in
      let deed : deed_of (w.walk e.agent) s ≡ e.deed = ap (λ (x : Label Agent Place Value Deed). x.deed) k.label in
      let end : IsSparing s e.agent e.deed =
      subst (IsSparing s e.agent) deed
      (at_the_end s e.agent (map (sight s) (w.gates e.agent)) (w.walk e.agent) (gates_seen w s (w.gates e.agent))
      (careful e.agent s k.opened) (ap w.stops deed ∙ stops)) in
      let each : HoldsOfEach (λ p. w.is_open b p (s p) ≡ true) (w.gates b) =
      each_passes (λ p. w.is_open b p (s p)) (w.gates b) h in
      all_pass (λ p. w.is_open b p (s' p)) (w.gates b)
      (of_each (λ p. w.is_open b p (s' p) ≡ true) (w.gates b)
      (λ p gate. ap (λ (x : Place → Value). w.is_open b p (x p)) k.after
      ∙ still_open e.agent b p end.seen (w.changes e.deed) (λ q. other (sym q)) gate
      (none_shut s b end.seen end.all each) end.spare (s p)
      (at_one (λ p. w.is_open b p (s p) ≡ true) p (w.gates b) each gate)))

module _ {Agent Place Value Change Kind Deed : Type 0} (w : Walkers Agent Place Value Change Kind Deed) where
  -- whatever was seen shut by these sights was by those
  abbrev pub ShutBy : (seen more : List (Sight Place Value)) → Type 0
  ShutBy seen more = (b : Agent) (p : Place) → WasShut w b p seen → WasShut w b p more

  -- so a walk that is careful after the first is careful after the others, as after one sight more
  pub careful_after : (a : Agent) (seen more : List (Sight Place Value)) (walk : Walk Place Value Deed)
      → ShutBy seen more → IsCareful w a seen walk → IsCareful w a more walk
  careful_after a seen more (looking p next) by h = λ v.
      careful_after a (saw p v ∷ seen) (saw p v ∷ more) (next v) (one_more p v) (h v)
    where
      saw : Place → Value → Sight Place Value
      saw p v = record { place = p; value = v }

      one_more : (p : Place) (v : Value) → ShutBy (saw p v ∷ seen) (saw p v ∷ more)
      one_more p v b q (inl here) = inl here
      one_more p v b q (inr there) = inr (by b q there)
  careful_after a seen more (doing d) by h = λ stops. each (w.changes d) (h stops)
    where
      each : (xs : List (Alteration Place Change)) → HoldsOfEach (Spares w a seen) xs
          → HoldsOfEach (Spares w a more) xs
      each [] k = tt
      each (x ∷ xs) k = (
        elim k.0 as (λ _. Spares w a more x) [
          | inl never ↦ inl never
          | inr shut ↦ inr (λ b other gate. let one = shut b other gate in (one.0, one.1, by b one.0 one.2))
        ],
        each xs k.1,
      )

pub careful_walkers_keep_gates : (Agent Place Value Change Kind Deed : Type 0)
    → CarefulWalkersKeepGates Agent Place Value Change Kind Deed
careful_walkers_keep_gates Agent Place Value Change Kind Deed w start told careful = keep_gates w told start careful
