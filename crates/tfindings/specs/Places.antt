-- Places of the process machine, as they are printed.
-- Source: own choice, a format of this program.
use Rattle.std.specs.Prelude.{ℕ, ◌<◌, ◌-◌, ◌==◌, ◌&&◌, nat_le, nat_lt, Bool, List, [], ◌++◌, length, position, codes}
use Rattle.std.specs.Prelude.{decimal, Option, Some, None, option_map, is_some, slice_get, if◌then◌else◌}
use Rattle.tproc.specs.declared.channels.Side.{Side}
use Rattle.tproc.specs.declared.channels.Side.TheVariants.{Input, Output}
use Rattle.tplan.specs.Wires.{end_at}
use Rattle.twhere.specs.Standing.{word_text}
use Rattle.tclocks.specs.declared.mode.Mode.{Mode}
use Rattle.tclocks.specs.declared.mode.Mode.TheVariants as mode
use Rattle.tprocesses.specs.Places as place
use Rattle.tprocesses.specs.Places.{Place}
use Rattle.tcertify.specs.declared.channel.Channel.{Channel}
use Rattle.tcertify.specs.declared.life.Life.{Life}
use Rattle.tcertify.specs.declared.node.Node.{Node}
use Rattle.tcertify.specs.Nodes.{address_at, name_at, workspace_at}
use Rattle.tfindings.specs.declared.places.Part.{Part}
use Rattle.tfindings.specs.declared.places.Part.TheVariants as part
use Rattle.tfindings.specs.Agents.{at_node, name_text, word_address}

-- what an access does
abbrev pub verb_text : Mode → List ℕ
verb_text mode.Looks = codes "reads"
verb_text mode.Checks = codes "claims"
verb_text mode.Claims = codes "claims"
verb_text mode.Puts = codes "writes"
verb_text mode.Lends = codes "sends"
verb_text (mode.Commutes kind) = codes "changes"

-- a half of a channel or a link
abbrev pub side_text : Side → List ℕ
side_text Input = codes "input"
side_text Output = codes "output"

-- a place of a node. The channels that a process has enabled are named as where it stands: both have one number. That
-- an output of a link is unfinished is named as the output
abbrev pub place_text : Place → List ℕ
place_text (place.WordAt n k) = at_node n (codes "word") (word_address k)
place_text (place.Sending n k) = at_node n (codes "word") (word_address k)
place_text (place.Standing x) = at_node x.node (codes "process") (name_text x)
place_text (place.Ports x) = at_node x.node (codes "process") (name_text x)
place_text (place.Half n c side) = at_node n (side_text side ++ codes " of channel") (word_text c)
place_text (place.LinkHalf e side) = at_node e.node (side_text side ++ codes " of link") (decimal e.link)
place_text (place.Unfinished e) = at_node e.node (codes "output of link") (decimal e.link)
place_text (place.Error n) = at_node n (codes "flag") (codes "Error")
place_text (place.HaltOnError n) = at_node n (codes "flag") (codes "HaltOnError")
place_text (place.Life n w) = at_node n (codes "workspace") (word_text w)
place_text (place.Successions n w) = at_node n (codes "successors at") (word_text w)
place_text (place.Messages e) = codes "source " ++ decimal e.node
place_text (place.Kept e) = codes "sink " ++ decimal e.node
place_text (place.Population n) = at_node n (codes "number of") (codes "processes")
place_text (place.HasRun n p) = at_node n (codes "priority") (decimal p)
place_text (place.FlagChanged n) = at_node n (codes "changes of") (codes "flags")

-- the places that each node has besides words, processes, channels and workspaces, by their order
abbrev pub fixed_at : (n k : ℕ) → Place
fixed_at n k =
    if k == 0 then place.Error n
    else if k == 1 then place.HaltOnError n
    else if k == 2 then place.FlagChanged n
    else if k == 3 then place.Population n
    else if nat_lt k 6 then place.HasRun n (k - 4)
    else if nat_lt k 10 then place.LinkHalf (end_at n (k - 6)) Input
    else if nat_lt k 14 then place.LinkHalf (end_at n (k - 10)) Output
    else place.Unfinished (end_at n (k - 14))

-- the place of a part of a node
abbrev pub place_of : Node → Part → Place
place_of n (part.Word k) = place.WordAt n.words.number k
place_of n (part.Fixed k) = fixed_at n.words.number k
place_of n (part.Process k) = place.Standing (name_at n k)
place_of n (part.Input k) = place.Half n.words.number (address_at n k) Input
place_of n (part.Output k) = place.Half n.words.number (address_at n k) Output
place_of n (part.Count k) = place.Life n.words.number (workspace_at n k)
place_of n (part.Successors k) = place.Successions n.words.number (workspace_at n k)

-- the first, or else the second
abbrev pub or_else : {X : Type 0} → Option X → Option X → Option X
or_else (Some x) y = Some x
or_else None y = y

-- the number of the word whose place has a number
abbrev pub word_with : ℕ → Node → Option ℕ
word_with number n =
    if nat_le n.words.first_place number && nat_lt (number - n.words.first_place) (length n.words.items.items)
    then Some (number - n.words.first_place) else None

-- the number of the place among those that each node has besides
abbrev pub fixed_with : ℕ → Node → Option ℕ
fixed_with number n =
    if nat_le n.fixed_place number && nat_lt (number - n.fixed_place) 18 then Some (number - n.fixed_place) else None

-- the count of a workspace whose place has a number
abbrev pub counted_with : ℕ → List Life → Option Part
counted_with number lives =
    or_else (option_map part.Count (position (λ l. l.count_place == number) lives))
    (option_map part.Successors (position (λ l. l.successors_place == number) lives))

-- the half of a channel whose place has a number
abbrev pub half_with : ℕ → List Channel → Option Part
half_with number channels =
    or_else (option_map part.Input (position (λ c. c.input.place == number) channels))
    (option_map part.Output (position (λ c. c.output.place == number) channels))

-- the half of a channel, or the count of a workspace whose place has a number
abbrev pub table_with : ℕ → Node → Option Part
table_with number n = or_else (half_with number n.channels.items.items) (counted_with number n.lives.items.items)

-- the process, the half of a channel, or the count of a workspace whose place has a number
abbrev pub listed_with : ℕ → Node → Option Part
listed_with number n =
    or_else (option_map part.Process (position (λ p. p.place == number) n.processes.items.items)) (table_with number n)

-- the part of a node whose place has a number, if one has
abbrev pub part_with : ℕ → Node → Option Part
part_with number n =
    or_else (option_map part.Word (word_with number n))
    (or_else (option_map part.Fixed (fixed_with number n)) (listed_with number n))

-- it has one
abbrev pub has_part : ℕ → Node → Bool
has_part number n = is_some (part_with number n)

-- the place of the part, if there is one
abbrev pub part_text : Node → Option Part → List ℕ
part_text n (Some p) = place_text (place_of n p)
part_text n None = []

-- the place of a number among those of a node
abbrev pub there_text : ℕ → Option Node → List ℕ
there_text number (Some n) = part_text n (part_with number n)
there_text number None = []

-- a source or a sink, by the number of its node
abbrev pub script_text : ℕ → List ℕ
script_text node = codes "node " ++ decimal node

-- the place of a number: of the first of these nodes that has it, or else of a source or sink
abbrev pub found_text : List Node → (first number : ℕ) → Option ℕ → List ℕ
found_text nodes first number (Some k) = there_text number (slice_get nodes k)
found_text nodes first number None = script_text (number - first)

abbrev pub numbered_text : List Node → (first number : ℕ) → List ℕ
numbered_text nodes first number = found_text nodes first number (position (has_part number) nodes)

-- an access
abbrev pub access_text : List Node → (first place : ℕ) → Mode → List ℕ
access_text nodes first place how = verb_text how ++ (codes " " ++ numbered_text nodes first place)

-- a node has a part of this number
abbrev pub HasPart : Node → Part → Type 0
HasPart n (part.Word k) = k < length n.words.items.items
HasPart n (part.Fixed k) = Unit {0}
HasPart n (part.Process k) = k < length n.processes.items.items
HasPart n (part.Input k) = k < length n.channels.items.items
HasPart n (part.Output k) = k < length n.channels.items.items
HasPart n (part.Count k) = k < length n.lives.items.items
HasPart n (part.Successors k) = k < length n.lives.items.items
