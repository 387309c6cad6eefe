-- What is told of what is wrong: a line each, the place first.
-- Source: own choice, a format of this program.
use Rattle.std.specs.Prelude.{ℕ, List, [], ◌++◌, flat_map, Option, Some, None, codes, decimal, slice_get}
use Rattle.tword.specs.declared.breaks.Break.{Break}
use Rattle.tword.specs.declared.breaks.Break.TheVariants as break
use Rattle.tword.specs.declared.kind.Kind.{Kind}
use Rattle.tword.specs.Words.{most_neg, plus}
use Rattle.tword.specs.Limits.{largest_memory}
use Rattle.tplan.specs.declared.wiring.WiringNode.{WiringNode}
use Rattle.tplan.specs.declared.plan.End.{End}
use Rattle.tfiles.specs.declared.image.ImageFault.{ImageFault}
use Rattle.tfiles.specs.declared.image.ImageFault.TheVariants as image
use Rattle.tfiles.specs.Logs.{line}
use Rattle.tfiles.specs.Texts.{break_name, end_text}
use Rattle.tnames.specs.Escapes.{escaped_text}
use Rattle.twhere.specs.Standing.{word_text}
use Rattle.tcheck.specs.declared.flaws.Place.{Place}
use Rattle.tcheck.specs.declared.flaws.Place.TheVariants as place
use Rattle.tcheck.specs.declared.flaws.Plenty.{Plenty}
use Rattle.tcheck.specs.declared.flaws.Plenty.TheVariants as plenty
use Rattle.tcheck.specs.declared.flaws.Flaw.{Flaw}
use Rattle.tcheck.specs.declared.flaws.Flaw.TheVariants as flaw
use Rattle.tcheck.specs.declared.flaws.Wrong.{Wrong}

-- ---- names of files

-- the name of the image of a node that is looked up
abbrev pub name_of : Option WiringNode → List ℕ
name_of None = []
name_of (Some n) = n.image

-- the name of the image at a place, which is that of a node
abbrev pub image_name : List WiringNode → Place → List ℕ
image_name nodes (place.Node n) = name_of (slice_get nodes n)
image_name nodes p = []

-- ---- places

-- a place with its number
abbrev pub numbered : List ℕ → ℕ → List ℕ
numbered name n = name ++ decimal n

-- where something is wrong
abbrev pub place_text : Place → List ℕ
place_text place.Net = codes "net"
place_text (place.Node n) = numbered (codes "node ") n
place_text (place.Wire n) = numbered (codes "wire ") n
place_text (place.Source n) = numbered (codes "source ") n
place_text (place.Sink n) = numbered (codes "sink ") n
place_text (place.Hold n) = numbered (codes "hold ") n

-- ---- flaws

-- of what there are too many, and how many there may be
abbrev pub plenty_text : Plenty → List ℕ
plenty_text plenty.Wires = codes " wires; at most 128 may be"
plenty_text plenty.Holds = codes " holds; at most 256 may be"
plenty_text plenty.Segments = codes " segments in the image; at most 4096 may be"
plenty_text plenty.Processes = codes " processes in the image; at most 512 may be"
plenty_text plenty.Messages = codes " messages; at most 256 may be"

-- why a file is no image
abbrev pub image_text : ImageFault → List ℕ
image_text image.BadMagic = codes " does not begin with TEMUIMG1"
image_text image.TooMany = codes " has over 4096 segments or over 512 processes"
image_text image.Truncated = codes " ends too soon"
image_text image.Trailing = codes " has bytes behind its last process"
image_text image.OutOfMemory = codes " is too large for the memory that there is"

-- why a process is refused, by the rule that adding it would break
abbrev pub refusal_text : Break → List ℕ
refusal_text break.Unaligned = codes ": its workspace is no multiple of 4"
refusal_text break.AlreadyLive = codes ": a process before it has this workspace"
refusal_text break.TooManyProcesses = codes ": there are 512 processes already"
refusal_text break.BadAddress = codes ": the three words below its workspace do not lie in the memory"
refusal_text break.Reserved = codes ": the three words below its workspace touch the closed area"
refusal_text break.SavedWord = codes ": the three words below its workspace touch those of a process before it"
refusal_text b = []

-- a memory of a size that none of a node of this kind may have
abbrev pub size_text : ℕ → Kind → List ℕ
size_text memory kind =
    codes "the memory has " ++ (decimal memory ++ (codes " bytes; it has to have a multiple of 4, from 2048 to "
    ++ decimal (largest_memory kind)))

-- a segment that does not lie in the memory that programs may use
abbrev pub segment_text : (segment address size memory : ℕ) → List ℕ
segment_text segment address size memory =
    numbered (codes "segment ") segment ++ (codes " has " ++ (decimal size ++ (codes " bytes at "
    ++ (word_text address
    ++ (codes "; programs may use #80000048 on, up to below " ++ word_text (plus most_neg memory))))))

-- a process that is refused
abbrev pub process_text : (process descriptor : ℕ) → Break → List ℕ
process_text process descriptor b =
    numbered (codes "process ") process ++ (codes ", " ++ (word_text descriptor ++ (codes ", is refused with "
    ++ (break_name b ++ refusal_text b))))

-- a message of no byte, or of too many
abbrev pub message_text : (message size : ℕ) → List ℕ
message_text message size =
    numbered (codes "message ") message ++ (codes " has " ++ (decimal size ++ codes " bytes; it has to have 1 to 4096"))

-- an end that an earlier wire or source has
abbrev pub shared_text : End → Place → List ℕ
shared_text e earlier = end_text e ++ (codes " is an end of " ++ (place_text earlier ++ codes " already"))

-- a hold that begins behind its end
abbrev pub early_text : (from until : ℕ) → List ℕ
early_text from until =
    codes "it begins with round " ++ (decimal from ++ (codes " and ends with round " ++ decimal until))

-- a number that is none of those that may be
abbrev pub range_text : List ℕ → ℕ → List ℕ → List ℕ
range_text what n may = what ++ (decimal n ++ may)

-- what is wrong with an image, by its name
abbrev pub named_image : (name wrong : List ℕ) → List ℕ
named_image name wrong = codes "the image " ++ (escaped_text name ++ wrong)

-- an end that is no link of a node
abbrev pub bad_end_text : End → List ℕ
bad_end_text e = end_text e ++ codes " is no link of a node"

-- an end behind some words
abbrev pub end_behind : List ℕ → End → List ℕ
end_behind words e = words ++ end_text e

-- what is wrong, where the image has this name
abbrev pub flaw_text : List ℕ → Flaw → List ℕ
flaw_text name flaw.TooManyNodes = codes "there are more than 64 nodes, sources and sinks"
flaw_text name (flaw.TooMany what n) = range_text (codes "there are ") n (plenty_text what)
flaw_text name (flaw.BadTimeslice t) = range_text (codes "the timeslice is ") t (codes "; it has to be 1 to 65536")
flaw_text name flaw.NoFile = named_image name (codes " cannot be read")
flaw_text name (flaw.BadImage f) = named_image name (image_text f)
flaw_text name (flaw.BadSize memory kind) = size_text memory kind
flaw_text name (flaw.BadSegment segment address size memory) = segment_text segment address size memory
flaw_text name (flaw.BadProcess process descriptor b) = process_text process descriptor b
flaw_text name (flaw.BadMessage message size) = message_text message size
flaw_text name (flaw.BadEnd e) = bad_end_text e
flaw_text name (flaw.SameEnd e) = end_behind (codes "both ends are ") e
flaw_text name (flaw.SharedEnd e earlier) = shared_text e earlier
flaw_text name (flaw.BadCapacity c) = range_text (codes "it takes ") c (codes " bytes; it has to take 1 to 65536")
flaw_text name (flaw.NoWire e) = end_behind (codes "no wire is at ") e
flaw_text name (flaw.EndsEarly from until) = early_text from until

-- something that is wrong, with the nodes that name the images
abbrev pub wrong_text : List WiringNode → Wrong → List ℕ
wrong_text nodes w = place_text w.place ++ (codes ": " ++ flaw_text (image_name nodes w.place) w.flaw)

-- all that is wrong
abbrev pub wrongs_text : List WiringNode → List Wrong → List ℕ
wrongs_text nodes ws = flat_map (λ w. line (wrong_text nodes w)) ws
