-- Tidy walkers are a lawful machine.
use Rattle.std.proofs.Common.{◌≡◌, refl, sym, ap, ◌∙◌, true, false, ◌&&◌, ◌||◌, not}
use Rattle.std.proofs.Common.{List, [], ◌∷◌, inl, inr, true≢false}
use Rattle.std.proofs.lemmas.Bool.{and_parts, or_parts, or_cases, or_left, or_right, not-true}
use Rattle.std.specs.List.{list_any}
use Rattle.tagents.specs.Agents.{Does}
use Rattle.tagents.specs.Certificates.{IsLawful}
use Rattle.tagents.specs.Frames.{Frame, IsFramed, AreQuiet, IsFramedMachine}
use Rattle.tagents.specs.Walks.{Sight, Label, Walkers, changes_at, value_after, state_after, are_at_odds}
use Rattle.tagents.specs.Walks.{disturbs, steps_clash, are_open, label_of, deed_of, was_shut, has_awoken, was_opened}
use Rattle.tagents.specs.Walks.{agents_of}
use Rattle.tagents.specs.Tidy.{HoldsOfEach, IsGate, AreTidy, WalkersAreLawful}
use Rattle.tagents.proofs.Framed.{lawful}
use Rattle.tagents.proofs.Found.{IsFound, found, at_one, each_passes}
use Rattle.tagents.proofs.Walking.{is_step, has_step, all_seen, Agrees, has_it_again}
use Rattle.tagents.proofs.Apart.{same_self, has_seen, leaves, come_to_same}

module _ {Agent Place Value Change Kind Deed : Type 0} (w : Walkers Agent Place Value Change Kind Deed)
    (start : Place → Value) (tidy : AreTidy w start) where
  abbrev State : Type 0
  State = Place → Value

  abbrev Step : Type 0
  Step = Label Agent Place Value Deed

  -- a step looks at what it has seen, and makes its deed's changes
  abbrev frame : Frame Place Value Step
  frame =
      record { looks = has_seen w tidy.told; change = λ e p v. value_after w (changes_at w e.deed p) v }

  agrees : (s t : State) (seen : List (Sight Place Value))
      → ((p : Place) → list_any (λ x. w.same_place x.place p) seen ≡ true → t p ≡ s p) → Agrees w s t seen
  agrees s t [] h = tt
  agrees s t (x ∷ xs) h = (
    h x.place (or_left _ _ (same_self w tidy.told x.place x.place refl)),
    agrees s t xs (λ p k. h p (or_right _ _ k)),
  )

  framed : IsFramed (agents_of w) frame start
  framed =
      record {
        changes = λ s s' e r d. (is_step w s s' e d).after;
        repeats = λ s s' t e r r' d h. has_it_again w s s' t e d (agrees s t e.seen h);
      }

  quiet : (e f : Step) → steps_clash w e f ≡ false → AreQuiet (agents_of w) frame start e f
  quiet e f h =
      let k : ((disturbs w e f || disturbs w f e) ≡ false)
      × (list_any (λ x. list_any (are_at_odds w x) (w.changes f.deed)) (w.changes e.deed) ≡ false) =
      or_parts (disturbs w e f || disturbs w f e) _ h in
      let l : (disturbs w e f ≡ false) × (disturbs w f e ≡ false) = or_parts (disturbs w e f) _ k.0 in
      record {
        first = λ p v see. leaves w tidy.told e f l.0 p v see;
        second = λ p v see. leaves w tidy.told f e l.1 p v see;
        commute = λ p v. come_to_same w tidy.told (λ c d same v. tidy.commute c d v same) p e f k.1 v;
      }

  -- a value that was awoken was shut before
  awoken : (cs : List Change) (v : Value) (b : Agent) (p : Place) → IsGate w b p
      → has_awoken w cs (value_after w cs v) ≡ true → w.is_open b p v ≡ false
  awoken [] v b p gate h = absurd (true≢false (sym h))
  awoken (c ∷ []) v b p gate h = tidy.awaken c b p v gate h
  awoken (c ∷ d ∷ cs) v b p gate h = absurd (true≢false (sym h))

  -- a gate that was seen shut is not open
  was_not_open : (s : State) (b : Agent) (p : Place) (seen : List (Sight Place Value))
      → HoldsOfEach (λ x. x.value ≡ s x.place) seen → was_shut w b p seen ≡ true → w.is_open b p (s p) ≡ false
  was_not_open s b p seen all h =
      let f : IsFound (λ x. w.same_place x.place p && not (w.is_open b p x.value)) seen = found _ seen h in
      let k : (w.same_place f.element.place p ≡ true) × (not (w.is_open b p f.element.value) ≡ true) =
      and_parts _ _ f.passes in
      let value : f.element.value ≡ s f.element.place =
      at_one (λ x. x.value ≡ s x.place) f.element seen all f.within in
      let there : f.element.place ≡ p = tidy.told.is_same_place f.element.place p k.0 in
      ap (w.is_open b p) (sym (value ∙ ap s there)) ∙ not-true _ k.1

  -- a gate that a deed opened was not open before
  was_not_yet_open : (s s1 : State) (d : Deed) (b : Agent) (p : Place) (seen : List (Sight Place Value)) → IsGate w b p
      → s1 ≡ state_after w d s → HoldsOfEach (λ x. x.value ≡ s1 x.place) seen → was_opened w d p seen ≡ true
      → w.is_open b p (s p) ≡ false
  was_not_yet_open s s1 d b p seen gate after all h =
      let f : IsFound (λ x. w.same_place x.place p && has_awoken w (changes_at w d p) x.value) seen = found _ seen h in
      let k : (w.same_place f.element.place p ≡ true) × (has_awoken w (changes_at w d p) f.element.value ≡ true) =
      and_parts _ _ f.passes in
      let value : f.element.value ≡ s1 f.element.place =
      at_one (λ x. x.value ≡ s1 x.place) f.element seen all f.within in
      let there : f.element.place ≡ p = tidy.told.is_same_place f.element.place p k.0 in
      let now : f.element.value ≡ value_after w (changes_at w d p) (s p) =
      value ∙ ap s1 there ∙ ap (λ (x : State). x p) after in
      awoken (changes_at w d p) (s p) b p gate (ap (has_awoken w (changes_at w d p)) (sym now) ∙ k.1)

  -- what a step leads to is of an agent that had none
  had_none : (s s1 s2 s3 : State) (e f g : Step) → Does (agents_of w) s e s1 → Does (agents_of w) s f s2
      → g.agent ≡ f.agent → Does (agents_of w) s1 g s3 → (agents_of w).leads e g ≡ true → ⊥
  had_none s s1 s2 s3 e f g d1 d2 q d3 leads =
      let b : Agent = g.agent in
      let at : IsFound (λ p. was_shut w b p e.seen || was_opened w e.deed p g.seen) (w.gates b) =
      found _ (w.gates b) leads in
      let p : Place = at.element in
      let opened : are_open w b s ≡ true = ap (λ (a : Agent). are_open w a s) q ∙ (is_step w s s2 f d2).opened in
      let is : w.is_open b p (s p) ≡ true =
      at_one (λ p. w.is_open b p (s p) ≡ true) p (w.gates b)
      (each_passes (λ p. w.is_open b p (s p)) (w.gates b) opened) at.within in
      elim (or_cases (was_shut w b p e.seen) (was_opened w e.deed p g.seen) at.passes) as (λ _. ⊥) [
        | inl shut ↦ true≢false (sym is ∙ was_not_open s b p e.seen (all_seen w s s1 e d1) shut)
        | inr now ↦ true≢false (sym is
            ∙ was_not_yet_open s s1 e.deed b p g.seen at.within (is_step w s s1 e d1).after
            (all_seen w s1 s3 g d3) now)
      ]

  machine : IsFramedMachine (agents_of w) frame start
  machine =
      record {
        is_same = tidy.told.is_same;
        not_same = tidy.told.not_same;
        framed = framed;
        quiet = λ e f d c. quiet e f c;
        stays = λ s s1 s2 e f r d d1 d2 stops. record {
          label = label_of w f.agent s1;
          after = state_after w (deed_of (w.walk f.agent) s1) s1;
          same = refl;
          does = has_step w f.agent s1 (tidy.keep s s1 e f.agent r d1 stops d (is_step w s s2 f d2).opened);
        };
        waits = λ s s1 s2 s3 e f g r d d1 d2 stops q d3 leads. had_none s s1 s2 s3 e f g d1 d2 q d3 leads;
      }

  pub walkers_lawful : IsLawful (agents_of w) start
  walkers_lawful = lawful (agents_of w) frame start machine

pub walkers_are_lawful : (Agent Place Value Change Kind Deed : Type 0)
    → WalkersAreLawful Agent Place Value Change Kind Deed
walkers_are_lawful Agent Place Value Change Kind Deed w start tidy = walkers_lawful w start tidy
