-- The steps of walkers: what a label tells of the state, and that it is the same in each state that agrees with what
-- was seen.
use Rattle.std.proofs.Common.{◌≡◌, refl, sym, ap, ◌∙◌, subst, Bool, true, false, Some, None, map}
use Rattle.std.proofs.Common.{List, [], ◌∷◌, ◌++◌, if◌then◌else◌, true≢false}
use Rattle.std.proofs.lemmas.Option.{same_Some}
use Rattle.std.specs.List.{list_all}
use Rattle.tagents.specs.Agents.{Does, IsOver}
use Rattle.tagents.specs.Walks.{Walk, looking, doing, Sight, Label, Walkers, sight, sights_of, deed_of, state_after}
use Rattle.tagents.specs.Walks.{are_open, label_of, next_step, agents_of}
use Rattle.tagents.specs.Tidy.{HoldsOfEach}
use Rattle.tagents.proofs.Found.{both_parts, from_parts}

none_some : {X : Type 0} (x : X) → None ≡ Some x → ⊥
none_some x h = cc

-- what was had under a condition
had : {X : Type 0} (b : Bool) (x y : X) → (if b then Some x else None) ≡ Some y → (b ≡ true) × (x ≡ y)
had true x y h = (refl, same_Some x y h)
had false x y h = absurd (none_some y h)

module _ {Agent Place Value Change Kind Deed : Type 0} (w : Walkers Agent Place Value Change Kind Deed) where
  abbrev State : Type 0
  State = Place → Value

  abbrev Step : Type 0
  Step = Label Agent Place Value Deed

  -- what a step tells of where it is done, and where it leads
  pub record IsStep (s s' : State) (e : Step) : Type 0 where
    pub opened : are_open w e.agent s ≡ true
    pub label : label_of w e.agent s ≡ e
    pub after : s' ≡ state_after w e.deed s

  pub is_step : (s s' : State) (e : Step) → Does (agents_of w) s e s' → IsStep s s' e
  is_step s s' e d =
      let a : Agent = e.agent in
      let now : Step × State = (label_of w a s, state_after w (deed_of (w.walk a) s) s) in
      let then' : Step × State = (e, s') in
      let h : (are_open w a s ≡ true) × (now ≡ then') = had (are_open w a s) now then' d in
      let label : label_of w a s ≡ e = ap (λ (x : Step × State). x.0) h.1 in
      record {
        opened = h.0;
        label = label;
        after = sym (ap (λ (x : Step × State). x.1) h.1) ∙ ap (λ (x : Step). state_after w x.deed s) label;
      }

  -- an agent whose gates are open has its step
  pub has_step : (a : Agent) (s : State) → are_open w a s ≡ true
      → Does (agents_of w) s (label_of w a s) (state_after w (deed_of (w.walk a) s) s)
  has_step a s h = rw h refl

  -- where each agent has a gate that is shut, the run is over
  pub over_where_shut : (s : State) → ((a : Agent) → are_open w a s ≡ false) → IsOver (agents_of w) s
  over_where_shut s shut e s' d = true≢false (sym (is_step s s' e d).opened ∙ shut e.agent)

  -- what was seen is so
  abbrev pub AreSeen : State → List (Sight Place Value) → Type 0
  AreSeen s seen = HoldsOfEach (λ x. x.value ≡ s x.place) seen

  pub gates_seen : (s : State) (ps : List Place) → AreSeen s (map (sight s) ps)
  gates_seen s [] = tt
  gates_seen s (p ∷ ps) = (refl, gates_seen s ps)

  walk_seen : (s : State) (walk : Walk Place Value Deed) → AreSeen s (sights_of walk s)
  walk_seen s (looking p next) = (refl, walk_seen s (next (s p)))
  walk_seen s (doing d) = tt

  pub all_seen : (s s' : State) (e : Step) → Does (agents_of w) s e s' → AreSeen s e.seen
  all_seen s s' e d =
      let k : IsStep s s' e = is_step s s' e d in
      subst (λ (x : Step). AreSeen s x.seen) k.label
      (from_parts (λ x. x.value ≡ s x.place) (map (sight s) (w.gates e.agent)) (sights_of (w.walk e.agent) s)
      (gates_seen s (w.gates e.agent)) (walk_seen s (w.walk e.agent)))

  -- another state has the same values at the places seen
  abbrev pub Agrees : State → State → List (Sight Place Value) → Type 0
  Agrees s t seen = HoldsOfEach (λ x. t x.place ≡ s x.place) seen

  walk_again : (s t : State) (walk : Walk Place Value Deed) → Agrees s t (sights_of walk s)
      → (sights_of walk t ≡ sights_of walk s) × (deed_of walk t ≡ deed_of walk s)
  walk_again s t (looking p next) h =
      let here : t p ≡ s p = h.0 in
      let k : (sights_of (next (s p)) t ≡ sights_of (next (s p)) s)
      × (deed_of (next (s p)) t ≡ deed_of (next (s p)) s) = walk_again s t (next (s p)) h.1 in (
        ap (λ (v : Value). record { place = p; value = v } ∷ sights_of (next v) t) here
            ∙ ap (λ (x : List (Sight Place Value)). sight s p ∷ x) k.0,
        ap (λ (v : Value). deed_of (next v) t) here ∙ k.1,
      )
  walk_again s t (doing d) h = (refl, refl)

  gates_again : (s t : State) (ps : List Place) → Agrees s t (map (sight s) ps)
      → map (sight t) ps ≡ map (sight s) ps
  gates_again s t [] h = refl
  gates_again s t (p ∷ ps) h =
      let here : sight t p ≡ sight s p = ap (λ (v : Value). record { place = p; value = v }) h.0 in
      ap (λ (x : Sight Place Value). x ∷ map (sight t) ps) here
      ∙ ap (λ (x : List (Sight Place Value)). sight s p ∷ x) (gates_again s t ps h.1)

  open_again : (a : Agent) (s t : State) (ps : List Place) → Agrees s t (map (sight s) ps)
      → list_all (λ p. w.is_open a p (t p)) ps ≡ list_all (λ p. w.is_open a p (s p)) ps
  open_again a s t [] h = refl
  open_again a s t (p ∷ ps) h = rw (h.0, open_again a s t ps h.1) refl

  -- so there is a step there too
  pub has_it_again : (s s' t : State) (e : Step) → Does (agents_of w) s e s' → Agrees s t e.seen
      → Does (agents_of w) t e (state_after w e.deed t)
  has_it_again s s' t e d h =
      let a : Agent = e.agent in
      let k : IsStep s s' e = is_step s s' e d in
      let gates : List (Sight Place Value) = map (sight s) (w.gates a) in
      let agree : Agrees s t gates × Agrees s t (sights_of (w.walk a) s) =
      both_parts (λ x. t x.place ≡ s x.place) gates (sights_of (w.walk a) s)
      (subst (λ (x : Step). Agrees s t x.seen) (sym k.label) h) in
      let walk : (sights_of (w.walk a) t ≡ sights_of (w.walk a) s)
      × (deed_of (w.walk a) t ≡ deed_of (w.walk a) s) = walk_again s t (w.walk a) agree.1 in
      let label : label_of w a t ≡ e =
      (λ i. record {
        agent = a;
        seen = gates_again s t (w.gates a) agree.0 i ++ walk.0 i;
        deed = walk.1 i;
      }) ∙ k.label in
      let opened : are_open w a t ≡ true = open_again a s t (w.gates a) agree.0 ∙ k.opened in
      subst (λ (x : Step). next_step w x.agent t ≡ Some (x, state_after w x.deed t)) label (has_step a t opened)
