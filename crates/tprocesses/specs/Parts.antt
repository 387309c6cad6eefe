-- What a step does, told part by part: it looks at places, changes some, and may stop.
-- Source: own choice, a way to write steps down.
use Rattle.std.specs.Prelude.{Bool, true, false, List, [], ◌∷◌, ◌++◌, Option, Some, None, if◌then◌else◌}
use Rattle.tword.specs.declared.breaks.Break.{Break}
use Rattle.tword.specs.Stores.{Store}
use Rattle.tprocesses.specs.Places.{Place, same_place}
use Rattle.tprocesses.specs.Values.{Value}
use Rattle.tprocesses.specs.Changes.{Change, apply}
use Rattle.tagents.specs.Walks.{Walk, looking, doing, Alteration}

-- why a step stops: there is no certificate of a run with such a step
pub data Reason : Type 0 where
  -- a usage rule is broken
  Breaks : Break → Reason
  -- the processor halts
  Halts : Reason
  -- a register or a byte decides that the scheduler may have changed
  SawTheScheduler : Reason
  -- the scheduler, or the timing of links, decides which of several channels an alternative chooses
  SeveralReady : Reason
  -- a word is touched that is in use as a channel, as a count or for an alternative
  WordInUse : Reason
  -- a sink has no room for the message
  FullSink : Reason
  -- the action is none of an instruction
  NotLocal : Reason
  -- the agent has no step here
  HasNoStep : Reason

-- a place and how it changes
abbrev pub Changed : Type 0
Changed = Alteration Place Change

-- what a step does in the end: its changes in their order, the message that it hands over, and why it stops, if it does
pub record Deed : Type 0 where
  pub changes : List Changed
  pub message : Option Store
  pub stops : Option Reason

-- a part of a step that answers an A
pub data Part (A : Type 0) : Type 0 where
  gives : A → Part A
  stopping : Reason → Part A
  -- a look at a place. What is seen has the changes that the step has made so far
  seeing : Place → (Value → Part A) → Part A
  changing : Place → Change → Part A → Part A
  -- a message is handed over
  telling : Store → Part A → Part A

-- one part, and then one that takes its answer
infixl 10 ◌>>=◌
abbrev pub ◌>>=◌ : {A B : Type 0} → Part A → (A → Part B) → Part B
(gives x) >>= f = f x
(stopping why) >>= f = stopping why
(seeing p next) >>= f = seeing p (λ v. next v >>= f)
(changing p c next) >>= f = changing p c (next >>= f)
(telling m next) >>= f = telling m (next >>= f)

-- one part and then another
infixl 10 ◌>>◌
abbrev pub ◌>>◌ : {A B : Type 0} → Part A → Part B → Part B
a >> b = a >>= (λ _. b)

-- a part that is done only for its effect
abbrev pub Doing : Type 0
Doing = Part (Unit {0})

-- nothing is done
abbrev pub done : Doing
done = gives tt

-- a value is seen
abbrev pub see : Place → Part Value
see p = seeing p gives

-- a place changes
abbrev pub change : Place → Change → Doing
change p c = changing p c done

-- a condition has to hold
abbrev pub require : Bool → Reason → Doing
require true why = done
require false why = stopping why

-- no check names a break
abbrev pub unless : Option Break → Doing
unless None = done
unless (Some b) = stopping (Breaks b)

-- what changes make of the value at a place, one after another
abbrev pub made : List Changed → Place → Value → Value
made [] p v = v
made (x ∷ rest) p v = made rest p (if same_place x.place p then apply x.change v else v)

-- the walk of a step of which this was done so far
abbrev pub walk_from : Deed → Doing → Walk Place Value Deed
walk_from d (gives x) = doing d
walk_from d (stopping why) = doing (record d { stops = Some why })
walk_from d (seeing p next) = looking p (λ v. walk_from d (next (made d.changes p v)))
walk_from d (changing p c next) =
    walk_from (record d { changes = d.changes ++ record { place = p; change = c } ∷ [] }) next
walk_from d (telling m next) = walk_from (record d { message = Some m }) next

-- the walk of a step
abbrev pub walk_of : Doing → Walk Place Value Deed
walk_of step = walk_from (record { changes = []; message = None; stops = None }) step
