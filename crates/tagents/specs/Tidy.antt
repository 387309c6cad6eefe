-- What has to be known of walkers, so that one run without races tells of all runs.
-- Source: own choice.
use Rattle.std.specs.Prelude.{◌≡◌, ◌≢◌, ◌⊎◌, true, false, List, [], ◌∷◌, map}
use Rattle.tagents.specs.Agents.{Does}
use Rattle.tagents.specs.Certificates.{IsReached, IsLawful}
use Rattle.tagents.specs.Walks.{Walk, looking, doing, Sight, Alteration, Label, Walkers, sight, are_open, agents_of}

-- it is one of these
abbrev pub IsOneOf : {X : Type 0} → X → List X → Type 0
IsOneOf x [] = ⊥
IsOneOf x (y ∷ ys) = (y ≡ x) ⊎ IsOneOf x ys

-- it holds for each of these
abbrev pub HoldsOfEach : {X : Type 0} → (X → Type 0) → List X → Type 0
HoldsOfEach P [] = Unit {0}
HoldsOfEach P (x ∷ xs) = P x × HoldsOfEach P xs

module _ {Agent Place Value Change Kind Deed : Type 0} (w : Walkers Agent Place Value Change Kind Deed) where
  -- a place is a gate of an agent
  abbrev pub IsGate : Agent → Place → Type 0
  IsGate b p = IsOneOf p (w.gates b)

  -- wherever a run leads, a step that does not stop leaves all gates of another agent open if all were open
  abbrev pub KeepGates : (Place → Value) → Type 0
  KeepGates start =
      (s s' : Place → Value) (e : Label Agent Place Value Deed) (b : Agent) → IsReached (agents_of w) start s
      → Does (agents_of w) s e s' → w.stops e.deed ≡ false → e.agent ≢ b → are_open w b s ≡ true
      → are_open w b s' ≡ true

  -- whether agents or places are the same is told
  pub record AreTold : Type 0 where
    pub is_same : (a b : Agent) → w.same a b ≡ true → a ≡ b
    pub not_same : (a b : Agent) → w.same a b ≡ false → a ≢ b
    pub is_same_place : (p q : Place) → w.same_place p q ≡ true → p ≡ q
    pub not_same_place : (p q : Place) → w.same_place p q ≡ false → p ≢ q

  -- what a machine of walkers has to give
  pub record AreTidy (start : Place → Value) : Type 0 where
    pub told : AreTold
    -- changes of kinds that commute have the same result in both orders
    pub commute : (c d : Change) (v : Value) → w.commute (w.kind_of c) (w.kind_of d) ≡ true
        → w.apply c (w.apply d v) ≡ w.apply d (w.apply c v)
    -- what a change awakens was shut
    pub awaken : (c : Change) (b : Agent) (p : Place) (v : Value) → IsGate b p → w.awakens c (w.apply c v) ≡ true
        → w.is_open b p v ≡ false
    pub keep : KeepGates start

  -- a change shuts no gate
  abbrev pub NeverShuts : Change → Type 0
  NeverShuts c =
      (b : Agent) (p : Place) (v : Value) → IsGate b p → w.is_open b p v ≡ true → w.is_open b p (w.apply c v) ≡ true

  -- a place was seen with a value that does not open it to an agent
  abbrev pub WasShut : Agent → Place → List (Sight Place Value) → Type 0
  WasShut b p [] = ⊥
  WasShut b p (x ∷ xs) = ((x.place ≡ p) × (w.is_open b p x.value ≡ false)) ⊎ WasShut b p xs

  -- one of the gates of an agent was seen shut
  abbrev pub OneWasShut : Agent → List (Sight Place Value) → Type 0
  OneWasShut b seen = (q : Place) × IsGate b q × WasShut b q seen

  -- a change shuts no gate, or one gate was seen shut of each other agent whose gate the place is
  abbrev pub Spares : Agent → List (Sight Place Value) → Alteration Place Change → Type 0
  Spares a seen x = NeverShuts x.change ⊎ ((b : Agent) → b ≢ a → IsGate b x.place → OneWasShut b seen)

  -- a walk, after some sights, ends with a deed that stops, or of which each change spares the gates of others
  abbrev pub IsCareful : Agent → List (Sight Place Value) → Walk Place Value Deed → Type 0
  IsCareful a seen (looking p next) = (v : Value) → IsCareful a (record { place = p; value = v } ∷ seen) (next v)
  IsCareful a seen (doing d) = w.stops d ≡ false → HoldsOfEach (Spares a seen) (w.changes d)

  -- the same holds for the step of each agent, once all its gates were seen open
  abbrev pub AreCareful : Type 0
  AreCareful =
      (a : Agent) (s : Place → Value) → are_open w a s ≡ true → IsCareful a (map (sight s) (w.gates a)) (w.walk a)

-- tidy walkers are a machine of which a run without races is a certificate
abbrev pub WalkersAreLawful : (Agent Place Value Change Kind Deed : Type 0) → Type 0
WalkersAreLawful Agent Place Value Change Kind Deed =
    (w : Walkers Agent Place Value Change Kind Deed) (start : Place → Value) → AreTidy w start
    → IsLawful (agents_of w) start

-- careful walkers keep gates, wherever they start
abbrev pub CarefulWalkersKeepGates : (Agent Place Value Change Kind Deed : Type 0) → Type 0
CarefulWalkersKeepGates Agent Place Value Change Kind Deed =
    (w : Walkers Agent Place Value Change Kind Deed) (start : Place → Value) → AreTold w → AreCareful w
    → KeepGates w start
