-- How the events of a step are found, one after another.
-- Source: own choice.
use Rattle.std.specs.Prelude.{ℕ, ◌≡◌, ◌⊎◌, Bool, true, false, not, ◌==◌, List, [], ◌∷◌, Option, Some, None, is_some}
use Rattle.std.specs.Prelude.{Result, Ok, Err, find}
use Rattle.tword.specs.declared.breaks.Break.{Break}
use Rattle.tword.specs.declared.breaks.Break.TheVariants.{LengthMismatch}
use Rattle.tproc.specs.Steps.{step}
use Rattle.tlink.specs.Node.{NodeState, counts_at, due_at}
use Rattle.tlink.specs.declared.event.Emitted.{Emitted}
use Rattle.tlink.specs.declared.event.Mark.{Mark}
use Rattle.tlink.specs.declared.event.Mark.TheVariants.{Completed}
use Rattle.tlink.specs.declared.event.StepFault.{StepFault}
use Rattle.tplan.specs.declared.event.Act.{Act}
use Rattle.tplan.specs.declared.event.Act.TheVariants.{Run, Send, Data, Take, Ack}
use Rattle.tplan.specs.declared.event.Event.{Event}
use Rattle.tplan.specs.declared.plan.End.{End}
use Rattle.tplan.specs.Wires.{far_end}
use Rattle.tnet.specs.Net.{NetState}
use Rattle.tnet.specs.Packets.{is_enabled}
use Rattle.tnet.specs.Rendezvous.{Node, Configuration, Step, Local, Notice, Copy, Wake, Freeze_at, node_of, IsMismatch}
use Rattle.tnet.specs.Rendezvous.{Lawful}
use Rattle.treduction.specs.Quiet.{TakesFrozen}
use Rattle.tevents.specs.declared.moves.Move.{Move}
use Rattle.tevents.specs.declared.moves.Move.TheVariants as moves

-- the own step of a node would be this break
pub record Breaks (w : Configuration) (n : ℕ) (b : Break) : Type 0 where
  pub node : Node
  pub here : node_of w n ≡ Some node
  pub breaks : step node.machine ≡ Err b

-- the step that a move is
abbrev pub IsMove : Configuration → Move → Step → Type 0
IsMove w (moves.Own n) s = (s ≡ Local n) ⊎ ((b : Break) × (s ≡ Freeze_at n b) × Breaks w n b)
IsMove w (moves.Notice e) s = s ≡ Notice e
IsMove w (moves.Copy e) s = (f : End) × (s ≡ Copy f e)
IsMove w (moves.Wake f) s = s ≡ Wake f
IsMove w (moves.Mismatch e) s = (s ≡ Freeze_at e.node LengthMismatch) × (m : IsMismatch w e.node) × (m.link ≡ e.link)

-- a move is lawful, and takes no offer of a frozen node
pub record CanMove (w : Configuration) (m : Move) : Type 0 where
  pub step : Step
  pub next : Configuration
  pub is : IsMove w m step
  pub lawful : Lawful w step next
  pub free : TakesFrozen w step → ⊥

-- the first event of a list that is enabled
abbrev pub first_enabled : List Event → NetState → Option Event
first_enabled events net = find (λ e. is_enabled net e) events

-- the events of a wire that carry a message from one end to the other, from the last one in the life of a byte to the
-- first
abbrev pub wire_events : (from to : End) → List Event
wire_events from to =
    record { node = to.node; act = Take to.link } ∷ record { node = to.node; act = Data to.link }
    ∷ record { node = from.node; act = Ack from.link } ∷ record { node = from.node; act = Send from.link } ∷ []

-- the events of the wire of an end
abbrev pub events_between : Option End → End → List Event
events_between None to = []
events_between (Some from) to = wire_events from to

-- the events that may come next for a move
abbrev pub events_for : Move → NetState → List Event
events_for (moves.Own n) net = record { node = n; act = Run } ∷ []
events_for (moves.Notice e) net = events_between (far_end net.wires e) e
events_for (moves.Copy e) net = events_between (far_end net.wires e) e
events_for (moves.Wake f) net = record { node = f.node; act = Ack f.link } ∷ []
events_for (moves.Mismatch e) net = events_between (far_end net.wires e) e

-- the event that comes next for a move
abbrev pub next_event : Move → NetState → Option Event
next_event m net = first_enabled (events_for m net) net

-- the answer to a byte that was taken says that it was the last, or was marked wrongly
abbrev pub is_completed : Mark → Bool
is_completed (Completed l) = true
is_completed _ = false

abbrev pub ends_message : Result Emitted StepFault → Bool
ends_message (Ok e) = is_completed e.mark
ends_message (Err f) = true

-- whether an input is pending where an event brings a byte
abbrev pub asks_at : Option NodeState → Act → Bool
asks_at (Some node) (Data l) = is_some (due_at node l)
asks_at _ act = false

-- how many bytes are acknowledged where an event brought an acknowledge
abbrev pub acked_at : Option NodeState → Act → ℕ
acked_at (Some node) (Ack l) = (counts_at node l).acked
acked_at _ act = 0

-- whether something is seen of an act that was done: by whether an input was pending there before, the answer, and how
-- many bytes are acknowledged there after it
abbrev pub is_seen : Act → (asked : Bool) → Result Emitted StepFault → (acked : ℕ) → Bool
is_seen Run asked told acked = true
is_seen (Send l) asked told acked = false
is_seen (Data l) asked told acked = not asked
is_seen (Take l) asked told acked = ends_message told
is_seen (Ack l) asked told acked = acked == 0

-- whether an act that was done for a move, with this answer, ends it
abbrev pub ends : Move → Act → Result Emitted StepFault → Bool
ends (moves.Own n) act told = true
ends (moves.Wake f) act told = true
ends (moves.Notice e) (Data l) told = true
ends (moves.Copy e) (Take l) told = ends_message told
ends (moves.Mismatch e) (Take l) told = ends_message told
ends _ act told = false
