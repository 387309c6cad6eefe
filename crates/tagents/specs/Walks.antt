-- Machines of walkers. An agent that has a step looks at one place after another, each look deciding the next, and
-- then does a deed, which changes some places. So what a step depends on is in its label. An agent has gates, which
-- are places too, and has a step exactly if all of them are open.
-- Source: own choice.
use Rattle.std.specs.Prelude.{◌&&◌, ◌||◌, not, Bool, false, List, [], ◌∷◌, ◌++◌, Option, Some, None, map, filter}
use Rattle.std.specs.Prelude.{if◌then◌else◌}
use Rattle.std.specs.List.{list_any, list_all}
use Rattle.tagents.specs.Agents.{Agents}

-- what an agent does in one step
pub data Walk (Place Value Deed : Type 0) : Type 0 where
  -- it looks at a place, and goes on by the value there
  looking : Place → (Value → Walk Place Value Deed) → Walk Place Value Deed
  -- it does a deed
  doing : Deed → Walk Place Value Deed

-- a place that was looked at, and the value that was there
pub record Sight (Place Value : Type 0) : Type 0 where
  pub place : Place
  pub value : Value

-- a change that is made at a place
pub record Alteration (Place Change : Type 0) : Type 0 where
  pub place : Place
  pub change : Change

-- a step: whose it is, what was seen on the way, the gates first, and what was done
pub record Label (Agent Place Value Deed : Type 0) : Type 0 where
  pub agent : Agent
  pub seen : List (Sight Place Value)
  pub deed : Deed

-- agents that walk
pub record Walkers (Agent Place Value Change Kind Deed : Type 0) : Type 0 where
  -- whether agents are the same, and whether places are
  pub same : Agent → Agent → Bool
  pub same_place : Place → Place → Bool
  -- the gates of an agent, and the values that open them to it
  pub gates : Agent → List Place
  pub is_open : Agent → Place → Value → Bool
  -- the step of an agent whose gates are open
  pub walk : Agent → Walk Place Value Deed
  -- the changes that a deed makes, in their order, and what a change makes of a value
  pub changes : Deed → List (Alteration Place Change)
  pub apply : Change → Value → Value
  -- the kind of a change, and which kinds have the same result in both orders
  pub kind_of : Change → Kind
  pub commute : Kind → Kind → Bool
  -- whether a change makes this value only of values that open no gate
  pub awakens : Change → Value → Bool
  -- whether the run ends with this deed, and no certificate is given
  pub stops : Deed → Bool

-- what is seen at a place in a state
abbrev pub sight : {Place Value : Type 0} → (Place → Value) → Place → Sight Place Value
sight s p = record { place = p; value = s p }

-- what is seen on a walk through a state
abbrev pub sights_of : {Place Value Deed : Type 0} → Walk Place Value Deed → (Place → Value)
    → List (Sight Place Value)
sights_of (looking p next) s = sight s p ∷ sights_of (next (s p)) s
sights_of (doing d) s = []

-- the deed at its end
abbrev pub deed_of : {Place Value Deed : Type 0} → Walk Place Value Deed → (Place → Value) → Deed
deed_of (looking p next) s = deed_of (next (s p)) s
deed_of (doing d) s = d

module _ {Agent Place Value Change Kind Deed : Type 0} (w : Walkers Agent Place Value Change Kind Deed) where
  -- the changes of a deed at a place, in their order
  abbrev pub changes_at : Deed → Place → List Change
  changes_at d p = map (λ x. x.change) (filter (λ x. w.same_place x.place p) (w.changes d))

  -- a value after changes
  abbrev pub value_after : List Change → Value → Value
  value_after [] v = v
  value_after (c ∷ cs) v = value_after cs (w.apply c v)

  -- a state after a deed
  abbrev pub state_after : Deed → (Place → Value) → Place → Value
  state_after d s p = value_after (changes_at d p) (s p)

  -- all gates of an agent are open
  abbrev pub are_open : Agent → (Place → Value) → Bool
  are_open a s = list_all (λ p. w.is_open a p (s p)) (w.gates a)

  -- the step of an agent in a state
  abbrev pub label_of : Agent → (Place → Value) → Label Agent Place Value Deed
  label_of a s =
      record {
        agent = a;
        seen = map (sight s) (w.gates a) ++ sights_of (w.walk a) s;
        deed = deed_of (w.walk a) s;
      }

  -- there is one where all gates are open
  abbrev pub next_step : Agent → (Place → Value) → Option (Label Agent Place Value Deed × (Place → Value))
  next_step a s = if are_open a s then Some (label_of a s, state_after (deed_of (w.walk a) s) s) else None

  -- the first changes a place that the second has seen
  abbrev pub disturbs : Label Agent Place Value Deed → Label Agent Place Value Deed → Bool
  disturbs e f = list_any (λ x. list_any (λ y. w.same_place x.place y.place) f.seen) (w.changes e.deed)

  -- two changes are at one place, and their order matters
  abbrev pub are_at_odds : Alteration Place Change → Alteration Place Change → Bool
  are_at_odds x y =
      w.same_place x.place y.place && not (w.commute (w.kind_of x.change) (w.kind_of y.change))

  -- two steps clash: one changes what the other has seen, or they change a place in ways whose order matters
  abbrev pub steps_clash : Label Agent Place Value Deed → Label Agent Place Value Deed → Bool
  steps_clash e f =
      disturbs e f || disturbs f e || list_any (λ x. list_any (are_at_odds x) (w.changes f.deed)) (w.changes e.deed)

  -- an agent's gate was seen shut
  abbrev pub was_shut : Agent → Place → List (Sight Place Value) → Bool
  was_shut a p seen = list_any (λ x. w.same_place x.place p && not (w.is_open a p x.value)) seen

  -- one change made a value, and it makes it only of values that open no gate
  abbrev pub has_awoken : List Change → Value → Bool
  has_awoken (c ∷ []) v = w.awakens c v
  has_awoken _ v = false

  -- a deed made a value that was seen at a gate, out of one that does not open it
  abbrev pub was_opened : Deed → Place → List (Sight Place Value) → Bool
  was_opened d p seen = list_any (λ x. w.same_place x.place p && has_awoken (changes_at d p) x.value) seen

  -- a step leads to another: it has seen a gate of the other's agent shut, or it opened one
  abbrev pub step_leads : Label Agent Place Value Deed → Label Agent Place Value Deed → Bool
  step_leads e f = list_any (λ p. was_shut f.agent p e.seen || was_opened e.deed p f.seen) (w.gates f.agent)

  -- the machine
  abbrev pub agents_of : Agents (Place → Value) Agent (Label Agent Place Value Deed)
  agents_of =
      record {
        next = next_step;
        agent_of = λ e. e.agent;
        same = w.same;
        clash = steps_clash;
        leads = step_leads;
        stops = λ e. w.stops e.deed;
      }
