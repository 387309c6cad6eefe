-- The line by which the program tells why it printed nothing, or not all.
-- Source: own choice.
use Rattle.std.specs.Prelude.{ℕ, List, [], ◌∷◌, ◌++◌, codes, decimal}
use Rattle.tplan.specs.declared.plan.BuildFault.{BuildFault}
use Rattle.tplan.specs.declared.plan.BuildFault.TheVariants as build
use Rattle.trounds.specs.declared.report.NetFault.{NetFault}
use Rattle.trounds.specs.declared.report.NetFault.TheVariants as rounds
use Rattle.trounds.specs.declared.replays.ReplayFault.{ReplayFault}
use Rattle.trounds.specs.declared.replays.ReplayFault.TheVariants as replays
use Rattle.tfiles.specs.declared.image.ImageFault.{ImageFault}
use Rattle.tfiles.specs.declared.image.ImageFault.TheVariants as image
use Rattle.tplan.specs.declared.wiring.WiringFault.{WiringFault}
use Rattle.tplan.specs.declared.wiring.WiringFault.TheVariants as wiring
use Rattle.tfiles.specs.declared.log_reading.LogFault.{LogFault}
use Rattle.tfiles.specs.declared.log_reading.LogFault.TheVariants as log
use Rattle.tnames.specs.Escapes.{escaped_text}
use Rattle.tnames.specs.declared.reading.NamesFault.{NamesFault}
use Rattle.tnames.specs.declared.reading.NamesFault.TheVariants as names
use Rattle.topening.specs.declared.fault.Fault.{Fault}
use Rattle.topening.specs.declared.fault.Fault.TheVariants as fault
use Rattle.tfiles.specs.Logs.{line}
use Rattle.tfiles.specs.Texts.{break_name, words}
use Rattle.twhere.specs.Standing.{word_text}

-- lack of memory has the same line wherever it showed
abbrev pub memory_words : List (List ℕ)
memory_words = codes "memory" ∷ []

-- a fault of the image of a node
abbrev pub image_words : ℕ → ImageFault → List (List ℕ)
image_words n image.BadMagic = codes "image" ∷ decimal n ∷ codes "I1 BadMagic" ∷ []
image_words n image.TooMany = codes "image" ∷ decimal n ∷ codes "I2 TooMany" ∷ []
image_words n image.Truncated = codes "image" ∷ decimal n ∷ codes "I3 Truncated" ∷ []
image_words n image.Trailing = codes "image" ∷ decimal n ∷ codes "I4 Trailing" ∷ []
image_words n image.OutOfMemory = memory_words

-- a fault of a wiring
abbrev pub wiring_words : WiringFault → List (List ℕ)
wiring_words wiring.Syntax = codes "wiring L1 Syntax" ∷ []
wiring_words wiring.UnknownKey = codes "wiring L2 UnknownKey" ∷ []
wiring_words wiring.MissingKey = codes "wiring L3 MissingKey" ∷ []
wiring_words wiring.WrongType = codes "wiring L4 WrongType" ∷ []
wiring_words wiring.BadVersion = codes "wiring L5 BadVersion" ∷ []
wiring_words wiring.BadNumber = codes "wiring L6 BadNumber" ∷ []
wiring_words wiring.BadMessage = codes "wiring L7 BadMessage" ∷ []
wiring_words wiring.BadKind = codes "wiring L8 BadKind" ∷ []
wiring_words wiring.OutOfMemory = memory_words

-- a fault of a plan, with its places
abbrev pub net_words : BuildFault → List (List ℕ)
net_words build.TooMany = codes "net N1 TooMany" ∷ []
net_words (build.BadSize n) = codes "net N2 BadSize" ∷ decimal n ∷ []
net_words build.BadTimeslice = codes "net N3 BadTimeslice" ∷ []
net_words (build.BadEnd w) = codes "net N4 BadEnd" ∷ decimal w ∷ []
net_words (build.SameEnd w) = codes "net N5 SameEnd" ∷ decimal w ∷ []
net_words (build.EndTwice w) = codes "net N6 EndTwice" ∷ decimal w ∷ []
net_words (build.BadSegment n s) = codes "net N7 BadSegment" ∷ decimal n ∷ decimal s ∷ []
net_words (build.BadProcess n p b) = codes "net N8 BadProcess" ∷ decimal n ∷ decimal p ∷ break_name b ∷ []
net_words (build.BadCapacity s) = codes "net N9 BadCapacity" ∷ decimal s ∷ []
net_words build.OutOfMemory = memory_words

-- a fault of rounds
abbrev pub rounds_words : NetFault → List (List ℕ)
rounds_words rounds.BadWorkers = codes "rounds BadWorkers" ∷ []
rounds_words (rounds.BadHold h) = codes "rounds BadHold" ∷ decimal h ∷ []
rounds_words rounds.OutOfMemory = memory_words

-- a fault of a log
abbrev pub log_words : LogFault → List (List ℕ)
log_words (log.BadLine n) = codes "log line" ∷ decimal n ∷ []
log_words log.OutOfMemory = memory_words

-- a fault of a file of names
abbrev pub names_words : NamesFault → List (List ℕ)
names_words (names.BadLine n) = codes "names line" ∷ decimal n ∷ []
names_words names.OutOfMemory = memory_words

-- a fault of a replay
abbrev pub replay_words : ReplayFault → List (List ℕ)
replay_words (replays.NotEnabled place) = codes "replay event" ∷ decimal place ∷ []
replay_words replays.OutOfMemory = memory_words

-- a node has no memory at an address
abbrev pub no_memory_words : ℕ → List (List ℕ)
no_memory_words address = codes "no memory at" ∷ word_text address ∷ []

-- what is told of a fault
abbrev pub fault_words : Fault → List (List ℕ)
fault_words (fault.File name) = codes "file" ∷ escaped_text name.bytes.items ∷ []
fault_words (fault.Wiring f) = wiring_words f
fault_words (fault.Image n f) = image_words n f
fault_words (fault.Net f) = net_words f
fault_words (fault.Rounds f) = rounds_words f
fault_words (fault.Log f) = log_words f
fault_words (fault.Names f) = names_words f
fault_words (fault.Replay f) = replay_words f
fault_words (fault.NoNode n) = codes "no node" ∷ decimal n ∷ []
fault_words (fault.NoMemory address) = no_memory_words address
fault_words (fault.Output f) = codes "output" ∷ []
fault_words fault.NoLog = codes "no log" ∷ []
fault_words fault.Memory = memory_words

-- the line of a fault
abbrev pub fault_line : Fault → List ℕ
fault_line f = line (codes "temu: " ++ words (fault_words f))
