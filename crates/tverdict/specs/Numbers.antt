-- The numbers of the places of the whole machine.
-- Source: own choice.
use Rattle.std.specs.Prelude.{ℕ, ◌≡◌, ◌+◌, ◌^◌, ◌==◌, List, find, Option, Some, None, slice_get}
use Rattle.tproc.specs.declared.channels.Side.{Side}
use Rattle.tproc.specs.declared.channels.Side.TheVariants.{Input, Output}
use Rattle.tprocesses.specs.Places as place
use Rattle.tprocesses.specs.Places.{Place, Name, same_name}
use Rattle.tcertify.specs.declared.channel.Channel.{Channel}
use Rattle.tcertify.specs.declared.node.Node.{Node}
use Rattle.tcertify.specs.Nodes.{NumbersNode}
use Rattle.tcertify.specs.Processes.{name_of}
use Rattle.tfollow.specs.Numbering.{Places}

-- the number of what has none yet: it is beyond all
abbrev pub beyond : ℕ
beyond = 2 ^ 32

-- a number of something that a node may have
abbrev pub or_beyond : {X : Type 0} → (X → ℕ) → Option X → ℕ
or_beyond number (Some x) = number x
or_beyond number None = beyond

-- the place of a half of a channel
abbrev pub half_place : Side → Channel → ℕ
half_place Input c = c.input.place
half_place Output c = c.output.place

-- the place of a half of a link, by the first of the places that a node has besides its words
abbrev pub link_number : ℕ → Side → ℕ → ℕ
link_number first Input k = first + 6 + k
link_number first Output k = first + 10 + k

-- the number of the places of a process: of where it stands, and of the channels that it has enabled
abbrev pub process_number : Node → Name → ℕ
process_number n x =
    or_beyond (λ p. p.place) (find (λ p. same_name (name_of n.words.number p) x) n.processes.items.items)

-- the number that a node has for a place of its own
abbrev pub number_at : Node → Place → ℕ
number_at n (place.WordAt m k) = n.words.first_place + k
number_at n (place.Sending m k) = n.words.first_place + k
number_at n (place.Standing x) = process_number n x
number_at n (place.Ports x) = process_number n x
number_at n (place.Half m c side) = or_beyond (half_place side) (find (λ h. h.address == c) n.channels.items.items)
number_at n (place.LinkHalf e side) = link_number n.fixed_place side e.link
number_at n (place.Unfinished e) = n.fixed_place + 14 + e.link
number_at n (place.Error m) = n.fixed_place
number_at n (place.HaltOnError m) = n.fixed_place + 1
number_at n (place.FlagChanged m) = n.fixed_place + 2
number_at n (place.Population m) = n.fixed_place + 3
number_at n (place.HasRun m p) = n.fixed_place + 4 + p
number_at n (place.Life m w) = or_beyond (λ l. l.count_place) (find (λ l. l.workspace == w) n.lives.items.items)
number_at n (place.Successions m w) =
    or_beyond (λ l. l.successors_place) (find (λ l. l.workspace == w) n.lives.items.items)
number_at n (place.Messages e) = beyond
number_at n (place.Kept e) = beyond

-- the node of a place, by its number; a source and a sink have one beyond those of the nodes
abbrev pub node_in : Place → ℕ
node_in (place.WordAt n k) = n
node_in (place.Sending n k) = n
node_in (place.Standing x) = x.node
node_in (place.Ports x) = x.node
node_in (place.Half n c side) = n
node_in (place.LinkHalf e side) = e.node
node_in (place.Unfinished e) = e.node
node_in (place.Error n) = n
node_in (place.HaltOnError n) = n
node_in (place.FlagChanged n) = n
node_in (place.Population n) = n
node_in (place.HasRun n p) = n
node_in (place.Life n w) = n
node_in (place.Successions n w) = n
node_in (place.Messages e) = e.node
node_in (place.Kept e) = e.node

-- the number that one of these nodes has for a place
abbrev pub number_among : List Node → Place → ℕ
number_among nodes p = or_beyond (λ n. number_at n p) (slice_get nodes (node_in p))

-- the number that a node has for a half of a link. At an end of no node nothing is ever offered, and all such halves
-- are one place
abbrev pub half_or : (first : ℕ) → Side → (link : ℕ) → Option Node → ℕ
half_or first side link (Some n) = link_number n.fixed_place side link
half_or first side link None = first

-- the numbers of all places: those of sources and sinks go on from the first one of these, by their nodes
abbrev pub numbering : List Node → ℕ → Places
numbering nodes first (place.LinkHalf e side) = half_or first side e.link (slice_get nodes e.node)
numbering nodes first (place.Messages e) = first + e.node
numbering nodes first (place.Kept e) = first + e.node
numbering nodes first p = number_among nodes p

-- the numbers are those that notes of the nodes have
abbrev pub PlacesAreNumbered : Type 0
PlacesAreNumbered =
    (nodes : List Node) (first k : ℕ) (node : Node) → slice_get nodes k ≡ Some node → node.words.number ≡ k
    → NumbersNode (numbering nodes first) node
