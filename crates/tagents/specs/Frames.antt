-- Machines whose steps look at some places and change some: what has to be said of one step at a time.
-- Source: own choice.
use Rattle.std.specs.Prelude.{◌≡◌, ◌≢◌, Bool, true, false}
use Rattle.tagents.specs.Agents.{Agents, Does}
use Rattle.tagents.specs.Certificates.{IsReached, StillDoes, IsLawful}

-- the places that a step looks at, and what it makes of the value at each place
pub record Frame (Place Value Label : Type 0) : Type 0 where
  pub looks : Label → Place → Bool
  pub change : Label → Place → Value → Value

-- the state after it
abbrev pub changed : {Place Value Label : Type 0} → Frame Place Value Label → Label → (Place → Value) → Place → Value
changed frame e s p = frame.change e p (s p)

module _ {Place Value Agent Label : Type 0} (m : Agents (Place → Value) Agent Label) (frame : Frame Place Value Label)
    (start : Place → Value) where
  -- steps keep to their places
  pub record IsFramed : Type 0 where
    -- a step changes what it says
    pub changes : (s s' : Place → Value) (e : Label) → IsReached m start s → Does m s e s' → s' ≡ changed frame e s
    -- and is the same wherever the places that it looks at are
    pub repeats : (s s' t : Place → Value) (e : Label) → IsReached m start s → IsReached m start t → Does m s e s'
        → ((p : Place) → frame.looks e p ≡ true → t p ≡ s p) → Does m t e (changed frame e t)

  -- steps of two agents that do not clash leave alone what the other looks at, and their changes commute
  pub record AreQuiet (e f : Label) : Type 0 where
    pub first : (p : Place) (v : Value) → frame.looks f p ≡ true → frame.change e p v ≡ v
    pub second : (p : Place) (v : Value) → frame.looks e p ≡ true → frame.change f p v ≡ v
    pub commute : (p : Place) (v : Value)
        → frame.change e p (frame.change f p v) ≡ frame.change f p (frame.change e p v)

  -- what is left to say of two steps: who has a step keeps one, and who waits for one had none before
  pub record IsFramedMachine : Type 0 where
    pub is_same : (a b : Agent) → m.same a b ≡ true → a ≡ b
    pub not_same : (a b : Agent) → m.same a b ≡ false → a ≢ b
    pub framed : IsFramed
    pub quiet : (e f : Label) → m.agent_of e ≢ m.agent_of f → m.clash e f ≡ false → AreQuiet e f
    pub stays : (s s1 s2 : Place → Value) (e f : Label) → IsReached m start s → m.agent_of e ≢ m.agent_of f
        → Does m s e s1 → Does m s f s2
        → m.stops e ≡ false → StillDoes m s1 f
    pub waits : (s s1 s2 s3 : Place → Value) (e f g : Label) → IsReached m start s → m.agent_of e ≢ m.agent_of f
        → Does m s e s1 → Does m s f s2
        → m.stops e ≡ false → m.agent_of g ≡ m.agent_of f → Does m s1 g s3 → m.leads e g ≡ true → ⊥

-- so each such machine is one for which a run without races is a certificate
abbrev pub FramedMachinesAreLawful : (Place Value Agent Label : Type 0) → Type 0
FramedMachinesAreLawful Place Value Agent Label =
    (m : Agents (Place → Value) Agent Label) (frame : Frame Place Value Label) (start : Place → Value)
    → IsFramedMachine m frame start → IsLawful m start
