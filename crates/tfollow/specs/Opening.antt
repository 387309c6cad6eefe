-- When an agent has a step, and to whose steps a step leads, by what stands at places of each kind.
-- Source: own choice.
use Rattle.std.specs.Prelude.{ℕ, ◌≡◌, ◌&&◌, false, Contains, Some, None}
use Rattle.tproc.specs.declared.channels.Side.{Side}
use Rattle.tproc.specs.declared.channels.Side.TheVariants.{Input, Output}
use Rattle.tplan.specs.declared.plan.End.{End}
use Rattle.tplan.specs.declared.plan.Plan.{Plan}
use Rattle.tagents.specs.Walks.{are_open}
use Rattle.tprocesses.specs.Places.{Name, WordAt, Standing, Half, LinkHalf}
use Rattle.tprocesses.specs.Values.{Value, Word, IsWord, stand_in, half_in, link_in}
use Rattle.tprocesses.specs.Changes.{Decrement}
use Rattle.tprocesses.specs.Machine.{Agent, Process, Channel, Wire, Successor, Processor, role_at, offer_place}
use Rattle.tprocesses.specs.Machine.{take_place}
use Rattle.tprocesses.specs.Machine.{sender_to, is_ready, is_due_at, is_met_at, is_passable, awaits_successor, step_of}
use Rattle.tprocesses.specs.Machine.{process_machine}
use Rattle.tcertify.specs.Running.{State}
use Rattle.tcertify.specs.Seeing.{sights}
use Rattle.tcertify.specs.Walked.{changes}
use Rattle.tfollow.specs.Leading.{RunLeads}

-- when each agent has a step in a state
pub record AreOpenBy (plan : Plan) (s : State) : Type 0 where
  -- a process: it is ready
  pub process : (x : Name) → are_open (process_machine plan) (Process x) s ≡ is_ready (stand_in (s (Standing x)))
  -- a channel: its output is taken, and its input is taken or awaited
  pub channel : (n c : ℕ) → are_open (process_machine plan) (Channel n c) s
      ≡ (is_met_at (Half n c Input) (half_in (s (Half n c Input)))
      && is_met_at (Half n c Output) (half_in (s (Half n c Output))))
  -- a wire: there is a message at the one end, and somebody waits for it at the other
  pub wire : (e f : End) → sender_to plan e ≡ Some f → are_open (process_machine plan) (Wire e) s
      ≡ (is_passable (offer_place (role_at plan f.node) f) (s (offer_place (role_at plan f.node) f))
      && is_passable (take_place (role_at plan e.node) e) (s (take_place (role_at plan e.node) e)))
  -- an end to which nobody sends: never
  pub no_wire : (e : End) → sender_to plan e ≡ None → are_open (process_machine plan) (Wire e) s ≡ false
  -- a successor: the last of those that it waits for has ended, or the word is spoilt
  pub successor : (n k : ℕ) (word : Word) → s (WordAt n k) ≡ IsWord word
      → are_open (process_machine plan) (Successor n k) s ≡ awaits_successor word.used

-- the same holds in all states
abbrev pub AgentsAreOpenBy : Type 0
AgentsAreOpenBy = (plan : Plan) (s : State) → AreOpenBy plan s

-- to whose steps the step of an agent in a state leads
pub record LeadsBy (plan : Plan) (a : Agent) (s : State) : Type 0 where
  -- a process that is seen and is not ready
  pub process : (x : Name) (v : Value)
      → Contains (sights (step_of plan a) s) (record { place = Standing x; value = v })
      → is_ready (stand_in v) ≡ false → RunLeads plan a s (Process x)
  -- a channel of which a half is seen at which it may not go on
  pub channel : (n c : ℕ) (side : Side) (v : Value)
      → Contains (sights (step_of plan a) s) (record { place = Half n c side; value = v })
      → is_met_at (Half n c side) (half_in v) ≡ false → RunLeads plan a s (Channel n c)
  -- a wire of which an end is seen at which nobody waits for a message, alone or among others
  pub input : (e : End) (v : Value) → role_at plan e.node ≡ Processor
      → Contains (sights (step_of plan a) s) (record { place = LinkHalf e Input; value = v })
      → is_due_at Input (link_in v) ≡ false → RunLeads plan a s (Wire e)
  -- or at which nobody offers one
  pub output : (e f : End) (v : Value) → sender_to plan e ≡ Some f → role_at plan f.node ≡ Processor
      → Contains (sights (step_of plan a) s) (record { place = LinkHalf f Output; value = v })
      → is_due_at Output (link_in v) ≡ false → RunLeads plan a s (Wire e)
  -- a successor whose count is counted down
  pub count : (n k p : ℕ)
      → Contains (changes (step_of plan a) s) (record { place = WordAt n k; change = Decrement p })
      → RunLeads plan a s (Successor n k)

-- the same holds for each agent in all states
abbrev pub StepsLeadBy : Type 0
StepsLeadBy = (plan : Plan) (a : Agent) (s : State) → LeadsBy plan a s
