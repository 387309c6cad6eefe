-- Which operations of alternatives are seen as which steps. Each case has the premise that the steps of the process
-- machine do not stop, as none of a certified run does.
-- Source: own choice.
use Rattle.std.specs.Prelude.{ℕ, ◌≡◌, ◌⊎◌, Bool, true, false, Some, if◌then◌else◌}
use Rattle.tcode.specs.declared.instruction.Operation.{Operation}
use Rattle.tcode.specs.declared.instruction.Operation.TheVariants.{Alt, Enbc, Enbs, Altwt, Disc, Diss, Altend}
use Rattle.tcpu.specs.declared.registers.Next.TheVariants.{Schedule}
use Rattle.tproc.specs.declared.channels.Side.TheVariants.{Input}
use Rattle.tproc.specs.LinkChannels.{is_link, link_of}
use Rattle.tplan.specs.declared.plan.Plan.{Plan}
use Rattle.tplan.specs.Wires.{end_at}
use Rattle.tnet.specs.Rendezvous.{Configuration}
use Rattle.tprocesses.specs.Places.{Place, Name, Standing}
use Rattle.tprocesses.specs.Values.{Value, Stand, Listens, stand_in}
use Rattle.tprocesses.specs.Machine.{Agent, Process, Channel, Wire}
use Rattle.tseen.specs.Choices.{enables, enabler_at}
use Rattle.tseen.specs.Steps.{IsCurrent, Makes, LeadsTo, next_of}
use Rattle.tseen.specs.AgentSteps.{AgentMakes, HasStep, HandsNone, NothingStops}
use Rattle.tseen.specs.Messages.{Communicates, channel_of}

-- an operation of an alternative
abbrev pub is_choice : Operation → Bool
is_choice Alt = true
is_choice Enbc = true
is_choice Enbs = true
is_choice Altwt = true
is_choice Disc = true
is_choice Diss = true
is_choice Altend = true
is_choice _ = false

-- an operation is seen as the step of its process
abbrev pub IsSeenAtOnce : Operation → Type 0
IsSeenAtOnce o =
    (p : Plan) (c : Configuration) (s s' : Place → Value) (n : ℕ) (x : Name) → (k : IsCurrent p c s n x)
    → next_of k.node.machine ≡ Some (Schedule o) → Makes p x s s' → NothingStops p s' → LeadsTo p c n s'

-- one more step of the process follows
abbrev pub FollowsOnce : Plan → Configuration → ℕ → Name → (Place → Value) → Type 0
FollowsOnce p c n x s = HasStep p (Process x) s × ((t : Place → Value) → Makes p x s t → LeadsTo p c n t)

-- who carries messages to a channel word: the internal channel, or the wire to its link
abbrev pub carrier_of : (node channel : ℕ) → Agent
carrier_of n channel = if is_link channel then Wire (end_at n (link_of Input channel)) else Channel n channel

-- the step of who carries to a channel that is enabled follows, which hands over no message, and one of the process
abbrev pub FollowsTwice : Plan → Configuration → ℕ → Name → (Place → Value) → Type 0
FollowsTwice p c n x s =
    (channel : ℕ) × (enables s n x channel ≡ true) × HasStep p (carrier_of n channel) s
    × ((t : Place → Value) → (m : AgentMakes p (carrier_of n channel) s t) → HandsNone m × FollowsOnce p c n x t)

-- by where the process stands: if it listens, one more step of it follows, and if not, none
abbrev pub LeadsOrListens : Stand → Plan → Configuration → ℕ → Name → (Place → Value) → Type 0
LeadsOrListens (Listens channel k) p c n x s = FollowsOnce p c n x s
LeadsOrListens _ p c n x s = LeadsTo p c n s

-- `disc` is seen as its instruction, and, if its process listens after it, also as that the process goes on
abbrev pub DisabledChannelsAreSeen : Type 0
DisabledChannelsAreSeen =
    (p : Plan) (c : Configuration) (s s' : Place → Value) (n : ℕ) (x : Name) → (k : IsCurrent p c s n x)
    → next_of k.node.machine ≡ Some (Schedule Disc) → Makes p x s s'
    → LeadsOrListens (stand_in (s' (Standing x))) p c n x s'

-- `altwt` is seen as its instruction, and where a sender was there before, also as the step of the channel or the wire
-- and that the process goes on
abbrev pub AwaitsAreSeen : Type 0
AwaitsAreSeen =
    (p : Plan) (c : Configuration) (s s' : Place → Value) (n : ℕ) (x : Name) → (k : IsCurrent p c s n x)
    → next_of k.node.machine ≡ Some (Schedule Altwt) → Makes p x s s' → NothingStops p s'
    → LeadsTo p c n s' ⊎ FollowsTwice p c n x s'

-- a communication on a channel that is enabled is seen as its instruction, and where the process waits that has enabled
-- it, also as the step of the channel
abbrev pub EnabledMessagesAreSeen : Type 0
EnabledMessagesAreSeen =
    (p : Plan) (c : Configuration) (s s' : Place → Value) (n : ℕ) (x y : Name) → (k : Communicates p c s s' n x)
    → enabler_at s n (channel_of k) ≡ Some y
    → LeadsTo p c n s' ⊎ (HasStep p (Channel n (channel_of k)) s'
    × ((t : Place → Value) → AgentMakes p (Channel n (channel_of k)) s' t → LeadsTo p c n t))
