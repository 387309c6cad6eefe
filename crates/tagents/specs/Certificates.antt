-- What one run without races tells of all runs.
-- Source: own choice.
use Rattle.std.specs.Prelude.{◌+◌, ◌≡◌, ◌≢◌, true, false, List, ◌++◌, length}
use Rattle.tagents.specs.Agents.{Agents, Does, IsRun, IsOver, own}
use Rattle.tagents.specs.Races.{IsRaceFree, TakesNothing}

module _ {State Agent Label : Type 0} (m : Agents State Agent Label) where
  -- a run leads there
  pub record IsReached (start s : State) : Type 0 where
    pub steps : List Label
    pub run : IsRun m start steps s

  -- another step of the same agent
  pub record StillDoes (s : State) (f : Label) : Type 0 where
    pub label : Label
    pub after : State
    pub same : m.agent_of label ≡ m.agent_of f
    pub does : Does m s label after

  -- two steps have the same result in both orders
  pub record Meet (s1 s2 : State) (e f : Label) : Type 0 where
    pub both : State
    pub first : Does m s1 f both
    pub second : Does m s2 e both

  -- what clash, leads and stops have to say of the steps e and f of two agents, wherever a run leads
  pub record IsLawful (start : State) : Type 0 where
    -- whether agents are the same is told
    pub is_same : (a b : Agent) → m.same a b ≡ true → a ≡ b
    pub not_same : (a b : Agent) → m.same a b ≡ false → a ≢ b
    -- a step that clashes with none is not changed by another one, and they have the same result in both orders
    pub commutes : (s s1 s2 : State) (e f : Label) → IsReached start s → m.agent_of e ≢ m.agent_of f → Does m s e s1
        → Does m s f s2
        → m.stops e ≡ false → m.clash e f ≡ false → Meet s1 s2 e f
    -- an agent that has a step has one after the step of another, except for a step that stops
    pub stays : (s s1 s2 : State) (e f : Label) → IsReached start s → m.agent_of e ≢ m.agent_of f → Does m s e s1
        → Does m s f s2
        → m.stops e ≡ false → StillDoes s1 f
    -- where its step clashed with the other one, the one that it has now does too
    pub clashes : (s s1 s2 s3 : State) (e f g : Label) → IsReached start s → m.agent_of e ≢ m.agent_of f
        → Does m s e s1 → Does m s f s2
        → m.stops e ≡ false → m.clash e f ≡ true → m.agent_of g ≡ m.agent_of f → Does m s1 g s3 → m.clash e g ≡ true
    -- an agent that does, right after another's step, what that leads to, had no step before it
    pub waits : (s s1 s2 s3 : State) (e f g : Label) → IsReached start s → m.agent_of e ≢ m.agent_of f → Does m s e s1
        → Does m s f s2
        → m.stops e ≡ false → m.agent_of g ≡ m.agent_of f → Does m s1 g s3 → m.leads e g ≡ true → ⊥

  -- a run that is over, without a race
  pub record IsCertified (start : State) (steps : List Label) (end : State) : Type 0 where
    pub lawful : IsLawful start
    pub run : IsRun m start steps end
    pub over : IsOver m end
    pub race_free : IsRaceFree m steps
    pub takes_nothing : TakesNothing m steps

  -- the rest of a run, to the same end, with which each agent does what it did
  pub record IsCompleted (others : List Label) (s : State) (steps : List Label) (end : State) : Type 0 where
    pub rest : List Label
    pub run : IsRun m s rest end
    pub as_long : length others + length rest ≡ length steps
    pub as_each : (a : Agent) → own m a others ++ own m a rest ≡ own m a steps

-- if one run that is over has no race, each other run is the beginning of one to the same end, as long, in which each
-- agent does the same
abbrev pub EachRunIsCompleted : (State Agent Label : Type 0) → Type 0
EachRunIsCompleted State Agent Label =
    (m : Agents State Agent Label) (start end s : State) (steps others : List Label) → IsCertified m start steps end
    → IsRun m start others s → IsCompleted m others s steps end

-- so each run that is over ends there, is as long, and each agent does the same in it
pub record IsAlike {State Agent Label : Type 0} (m : Agents State Agent Label) (others : List Label) (s : State)
    (steps : List Label) (end : State) : Type 0 where
  pub ends : s ≡ end
  pub as_long : length others ≡ length steps
  pub as_each : (a : Agent) → own m a others ≡ own m a steps

abbrev pub EachEndIsTheEnd : (State Agent Label : Type 0) → Type 0
EachEndIsTheEnd State Agent Label =
    (m : Agents State Agent Label) (start end s : State) (steps others : List Label) → IsCertified m start steps end
    → IsRun m start others s → IsOver m s → IsAlike m others s steps end

-- one run tells of all: each other is completed to its end, and each that is over ends there
pub record IsTheOnlyRun {State Agent Label : Type 0} (m : Agents State Agent Label) (start : State)
    (steps : List Label) (end : State) : Type 0 where
  pub completed : (s : State) (others : List Label) → IsRun m start others s → IsCompleted m others s steps end
  pub alike : (s : State) (others : List Label) → IsRun m start others s → IsOver m s → IsAlike m others s steps end
