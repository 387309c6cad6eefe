-- The process machine: its agents and their steps.
-- Source: own choice.
use Rattle.std.specs.Prelude.{ℕ, ◌==◌, ◌&&◌, ◌||◌, ◌+◌, nat_lt, Bool, true, false, not, List, [], ◌∷◌, length, Option}
use Rattle.std.specs.Prelude.{Some, None, slice_get, is_some, if◌then◌else◌}
use Rattle.tword.specs.Stores.{Store}
use Rattle.tproc.specs.declared.channels.Side.{Side}
use Rattle.tproc.specs.declared.channels.Side.TheVariants.{Input, Output}
use Rattle.tproc.specs.LinkChannels.{link_of}
use Rattle.tplan.specs.declared.plan.End.{End}
use Rattle.tplan.specs.declared.plan.NodePlan.{NodePlan}
use Rattle.tplan.specs.declared.plan.Plan.{Plan}
use Rattle.tagents.specs.Walks.{Walkers}
use Rattle.tplan.specs.Wires.{end_at, same_end, far_end}
use Rattle.tplan.specs.Wires.{all_wires}
use Rattle.tprocesses.specs.Places.{Place, Name, WordAt, Standing, Half, LinkHalf, Messages, Kept, same_name}
use Rattle.tprocesses.specs.Places.{same_place}
use Rattle.tprocesses.specs.Values.{Value, Use, Last, Spoilt, Context, Stand, Rests, Runs, Chosen, Listens, Holder}
use Rattle.tprocesses.specs.Values.{Link, Offered, Awaited, IsWord, IsStand, IsHalf, IsLink, AreMessages, AreKept}
use Rattle.tprocesses.specs.Values.{stand_in, link_in}
use Rattle.tprocesses.specs.Changes.{Change, ChangeKind, apply, kind_of, commute, awakens}
use Rattle.tprocesses.specs.Parts.{Part, gives, Doing, stopping, telling, done, see, require, Deed, walk_of}
use Rattle.tprocesses.specs.Parts.{HasNoStep, SeveralReady, ◌>>=◌, ◌>>◌}
use Rattle.tprocesses.specs.Touching.{Site}
use Rattle.tprocesses.specs.Standing.{resumes}
use Rattle.tprocesses.specs.ChannelMessages.{channel_step}
use Rattle.tprocesses.specs.Choosing.{goes_on_chosen, goes_on_unfired, fires, is_taken, is_awaited}
use Rattle.tprocesses.specs.LinkMessages.{node_sends, source_sends, node_receives, sink_receives}
use Rattle.tprocesses.specs.Scheduling.{successor_step}
use Rattle.tprocesses.specs.Instructions.{runs}

-- who has steps
pub data Agent : Type 0 where
  Process : Name → Agent
  -- an internal channel, by its node and its address
  Channel : (node channel : ℕ) → Agent
  -- a wire in one direction, by the end that receives
  Wire : End → Agent
  -- a process that goes on where others have ended, by its node and the number of the word that counted them
  Successor : (node count : ℕ) → Agent

-- two agents are the same
abbrev pub same_agent : Agent → Agent → Bool
same_agent (Process x) (Process y) = same_name x y
same_agent (Channel n c) (Channel m d) = (n == m) && (c == d)
same_agent (Wire e) (Wire f) = same_end e f
same_agent (Successor n k) (Successor m l) = (n == m) && (k == l)
same_agent _ _ = false

-- what stands at an end, by the number of its node: the nodes are numbered first, then the sources, then the sinks
pub data Role : Type 0 where
  Processor Source Sink Nothing : Role

abbrev pub role_at : Plan → ℕ → Role
role_at p n =
    if nat_lt n (length p.nodes) then Processor
    else if nat_lt n (length p.nodes + length p.sources) then Source
    else if nat_lt n (length p.nodes + length p.sources + length p.sinks) then Sink
    else Nothing

-- a node of the plan
abbrev pub site_of : ℕ → NodePlan → Site
site_of n plan = record { number = n; size = plan.memory; kind = plan.kind }

-- the step of a node that the plan has
abbrev pub at_site : {A : Type 0} → Plan → ℕ → (Site → Part A) → Part A
at_site p n step = elim (slice_get p.nodes n) [ Some plan ↦ step (site_of n plan) | None ↦ stopping HasNoStep ]

-- the place at which an end offers messages, and that at which it takes them
abbrev pub offer_place : Role → End → Place
offer_place Source e = Messages e
offer_place _ e = LinkHalf e Output

abbrev pub take_place : Role → End → Place
take_place Sink e = Kept e
take_place _ e = LinkHalf e Input

-- the sender f, if its own far end is e
abbrev pub if_joined : (e f : End) → Option End → Option End
if_joined e f (Some back) = if same_end back e then Some f else None
if_joined e f None = None

-- the far end of e, if its own far end is e
abbrev pub joined_to : Plan → End → Option End → Option End
joined_to p e (Some f) = if_joined e f (far_end (all_wires p) f)
joined_to p e None = None

-- the end that sends to an end, over a wire that joins the two
abbrev pub sender_to : Plan → End → Option End
sender_to p e = joined_to p e (far_end (all_wires p) e)

-- the places at which a wire waits, by the end that sends
abbrev pub gates_between : Plan → End → Option End → List Place
gates_between p e (Some f) = offer_place (role_at p f.node) f ∷ take_place (role_at p e.node) e ∷ []
gates_between p e None = LinkHalf e Input ∷ []

-- the places at which an agent waits
abbrev pub gates : Plan → Agent → List Place
gates p (Process x) = Standing x ∷ []
gates p (Channel n c) = Half n c Input ∷ Half n c Output ∷ []
gates p (Wire e) = gates_between p e (sender_to p e)
gates p (Successor n k) = WordAt n k ∷ []

-- a process that stands there is ready
abbrev pub is_ready : Stand → Bool
is_ready (Rests c) = true
is_ready (Runs c) = true
is_ready (Chosen c) = true
is_ready (Listens channel c) = true
is_ready _ = false

-- a half of a link has a process that waits for a message
abbrev pub is_offered : Link → Bool
is_offered (Offered request) = true
is_offered _ = false

-- there are messages
abbrev pub has_messages : List (List ℕ) → Bool
has_messages [] = false
has_messages (m ∷ rest) = true

-- a channel may go on at a half with this holder: a process waits for a message, or to the input also for several ones
abbrev pub is_met_at : Place → Holder → Bool
is_met_at (Half n c Input) h = is_taken h || is_awaited h
is_met_at q h = is_taken h

-- the count of a word awaits a successor, or the word is spoilt
abbrev pub awaits_successor : Use → Bool
awaits_successor (Last p) = true
awaits_successor Spoilt = true
awaits_successor _ = false

-- who waits for the input of a link and for others
abbrev pub awaiting : Link → Option Name
awaiting (Awaited x) = Some x
awaiting _ = None

-- a wire may go on at a half of a link: a process waits for a message, or at the input also for several ones
abbrev pub is_due_at : Side → Link → Bool
is_due_at Input l = is_offered l || is_some (awaiting l)
is_due_at Output l = is_offered l

-- a wire may go on at a place with this value
abbrev pub is_passable : Place → Value → Bool
is_passable (LinkHalf e side) (IsLink l) = is_due_at side l
is_passable (Messages e) (AreMessages messages) = has_messages messages
is_passable (Kept e) (AreKept room messages) = true
is_passable _ _ = false

-- an agent may go on at a gate with this value; a wire that joins no two ends never
abbrev pub is_open : Plan → Agent → Place → Value → Bool
is_open p (Process x) q (IsStand s) = is_ready s
is_open p (Channel n c) q (IsHalf h) = is_met_at q h
is_open p (Wire e) q v = is_some (sender_to p e) && is_passable q v
is_open p (Successor n k) q (IsWord v) = awaits_successor v.used
is_open p _ q _ = false

-- the step of a process where it stands, if it is one of its node alone
abbrev pub process_step : Name → Stand → Site → Doing
process_step x (Rests c) s = resumes s x c
process_step x (Runs c) s = runs s x c
process_step x (Chosen c) s = goes_on_chosen s x c
process_step x _ s = stopping HasNoStep

-- the message that goes over from an end
abbrev pub sends : Plan → Role → End → Part Store
sends p Processor f = at_site p f.node (node_sends f)
sends p Source f = source_sends f
sends p _ f = stopping HasNoStep

-- a message comes in at an end
abbrev pub receives : Plan → Role → End → Store → Doing
receives p Processor e message = at_site p e.node (node_receives message e)
receives p Sink e message = sink_receives message e
receives p _ e message = stopping HasNoStep

-- the process at an end that waits for its input and for others, if there is one
abbrev pub asks : Role → End → Part (Option Name)
asks Processor e = do
  half ← see (LinkHalf e Input)
  gives (awaiting (link_in half))
asks _ e = gives None

-- whether a message is offered at an end
abbrev pub offers : Plan → End → Part Bool
offers p f = do
  offered ← see (offer_place (role_at p f.node) f)
  gives (is_passable (offer_place (role_at p f.node) f) offered)

-- a message goes over, or, if a process waits for it and for others, it makes the process go on
abbrev pub crosses : Plan → (from to : End) → Option Name → Doing
crosses p f e None = do
  message ← sends p (role_at p f.node) f
  receives p (role_at p e.node) e message
  telling message done
crosses p f e (Some x) = do
  offered ← offers p f
  require offered HasNoStep
  fires e x

-- the step of a wire
abbrev pub passes : Plan → Option End → End → Doing
passes p (Some f) e = do
  asked ← asks (role_at p e.node) e
  crosses p f e asked
passes p None e = stopping HasNoStep

-- nobody sends to an end
abbrev pub requires_no_sender : Plan → Option End → Doing
requires_no_sender p (Some f) = do
  offered ← offers p f
  require (not offered) SeveralReady
requires_no_sender p None = done

-- a process listens, and goes on where nobody sends to the input of its link
abbrev pub listens : Plan → Name → (channel : ℕ) → Context → Site → Doing
listens p x channel c s = do
  requires_no_sender p (sender_to p (end_at x.node (link_of Input channel)))
  goes_on_unfired s x channel c

-- the step of a process where it stands
abbrev pub stepped : Plan → Name → Stand → Site → Doing
stepped p x (Listens channel c) s = listens p x channel c s
stepped p x stood s = process_step x stood s

-- the step of an agent
abbrev pub step_of : Plan → Agent → Doing
step_of p (Process x) = do
  stood ← see (Standing x)
  at_site p x.node (stepped p x (stand_in stood))
step_of p (Channel n c) = at_site p n (channel_step c)
step_of p (Wire e) = passes p (sender_to p e) e
step_of p (Successor n k) = at_site p n (successor_step k)

-- the process machine of a plan
abbrev pub process_machine : Plan → Walkers Agent Place Value Change ChangeKind Deed
process_machine p =
    record {
      same = same_agent;
      same_place = same_place;
      gates = gates p;
      is_open = is_open p;
      walk = λ a. walk_of (step_of p a);
      changes = λ d. d.changes;
      apply = apply;
      kind_of = kind_of;
      commute = commute;
      stops = λ d. is_some d.stops;
      awakens = awakens;
    }
