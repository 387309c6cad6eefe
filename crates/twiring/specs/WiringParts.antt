-- A wiring by its parts: what a key or a table stands for, or the lowest fault in it.
-- Source: own choice.
use Rattle.std.specs.Prelude.{ℕ, ℤ, pos, negsuc, Bool, ◌^◌, ◌==◌, ◌||◌, nat_lt, List, [], ◌∷◌, ◌++◌, Option, Some, None}
use Rattle.std.specs.Prelude.{Result, Ok, Err, codes, bytes_eq, if◌then◌else◌}
use Rattle.toml.specs.Data.{Data, string, integer, array, table, Items, no_items, item, Members, get_member}
use Rattle.tplan.specs.declared.plan.End.{End}
use Rattle.tplan.specs.declared.plan.Wire.{Wire}
use Rattle.tplan.specs.declared.plan.SourcePlan.{SourcePlan}
use Rattle.tplan.specs.declared.plan.SinkPlan.{SinkPlan}
use Rattle.tplan.specs.declared.event.PacketKind.{PacketKind}
use Rattle.tplan.specs.declared.event.PacketKind.TheVariants as kind
use Rattle.tplan.specs.declared.event.Hold.{Hold}
use Rattle.tplan.specs.declared.wiring.WiringFault.{WiringFault}
use Rattle.tplan.specs.declared.wiring.WiringFault.TheVariants.{OutOfMemory, Syntax, UnknownKey, MissingKey, WrongType}
use Rattle.tplan.specs.declared.wiring.WiringFault.TheVariants.{BadVersion, BadNumber, BadMessage, BadKind}
use Rattle.tplan.specs.declared.wiring.Wiring.{Wiring}
use Rattle.tplan.specs.declared.wiring.WiringNode.{WiringNode}
use Rattle.tword.specs.declared.kind.Kind.{Kind}
use Rattle.tword.specs.declared.kind.Kind.TheVariants.{One, Two}
use Rattle.twiring.specs.Messages.{message_of}
use Rattle.twiring.specs.Wirings.{Names, has_unknown, is_first_in, root_keys, node_keys, wire_keys, source_keys}
use Rattle.twiring.specs.Wirings.{sink_keys, hold_keys, default_timeslice}

-- what a part stands for, or its lowest fault
abbrev pub Reading : Type 0 → Type 0
Reading A = Result A WiringFault

-- the place of a fault in the order in which faults are told
abbrev pub rank : WiringFault → ℕ
rank OutOfMemory = 0
rank Syntax = 1
rank UnknownKey = 2
rank MissingKey = 3
rank WrongType = 4
rank BadVersion = 5
rank BadNumber = 6
rank BadMessage = 7
rank BadKind = 8

-- the lower of two faults
abbrev pub lower : WiringFault → WiringFault → WiringFault
lower f g = if nat_lt (rank g) (rank f) then g else f

-- two parts, or the lower of their faults
abbrev pub both : {A B : Type 0} → Reading A → Reading B → Reading (A × B)
both (Ok a) (Ok b) = Ok (a, b)
both (Ok a) (Err f) = Err f
both (Err f) (Ok b) = Err f
both (Err f) (Err g) = Err (lower f g)

-- what is made of a part
abbrev pub made : {A B : Type 0} → (A → B) → Reading A → Reading B
made f (Ok a) = Ok (f a)
made f (Err e) = Err e

-- a table whose keys are all listed
abbrev pub known : {A : Type 0} → Names → Members → Reading A → Reading A
known names t p = if has_unknown names t then Err UnknownKey else p

-- a value that is there, or what its absence means
abbrev pub value_or : {A : Type 0} → Reading A → (Data → Reading A) → Option Data → Reading A
value_or absent f None = absent
value_or absent f (Some d) = f d

-- a value that has to be there
abbrev pub required : {A : Type 0} → (Data → Reading A) → List ℕ → Members → Reading A
required f key t = value_or (Err MissingKey) f (get_member key t)

-- the number that an integer is, if it has 32 bits
abbrev pub number : ℤ → Reading ℕ
number (pos n) = if nat_lt n (2 ^ 32) then Ok n else Err BadNumber
number (negsuc n) = Err BadNumber

-- the number of 32 bits that a value is
abbrev pub number_in : Data → Reading ℕ
number_in (integer z) = number z
number_in _ = Err WrongType

-- a text
abbrev pub text_in : Data → Reading (List ℕ)
text_in (string s) = Ok s
text_in _ = Err WrongType

-- an end: its node and its link
abbrev pub end_in : Data → Reading End
end_in (array (item n (item l no_items))) =
    made (λ p. record { node = p.0; link = p.1 }) (both (number_in n) (number_in l))
end_in _ = Err WrongType

-- the kind of nodes of a number
abbrev pub node_kind : Reading ℕ → Reading Kind
node_kind (Ok n) = if n == 2 then Ok Two else if n == 1 then Ok One else Err BadKind
node_kind (Err f) = Err f

-- the kind of nodes that a value names
abbrev pub node_kind_in : Data → Reading Kind
node_kind_in d = node_kind (number_in d)

-- the kind of packets of a text
abbrev pub kind_of_text : List ℕ → Reading PacketKind
kind_of_text s =
    if bytes_eq s (codes "ack") then Ok kind.Ack else if bytes_eq s (codes "data") then Ok kind.Data else Err WrongType

-- the kind of packets that a value names
abbrev pub kind_in : Data → Reading PacketKind
kind_in (string s) = kind_of_text s
kind_in _ = Err WrongType

-- the bytes of a message, if they are ones
abbrev pub message : Option (List ℕ) → Reading (List ℕ)
message (Some bytes) = Ok bytes
message None = Err BadMessage

-- the message that a value is
abbrev pub message_in : Data → Reading (List ℕ)
message_in (string s) = message (message_of s)
message_in _ = Err WrongType

-- a version, which has to be 1 or 2
abbrev pub version : ℤ → Reading (Unit {0})
version (pos n) = if n == 1 || n == 2 then Ok tt else Err BadVersion
version (negsuc n) = Err BadVersion

-- a value that has to be a version
abbrev pub version_in : Data → Reading (Unit {0})
version_in (integer z) = version z
version_in _ = Err WrongType

-- a table of an array
abbrev pub table_in : {A : Type 0} → (Members → Reading A) → Data → Reading A
table_in part (table t) = part t
table_in part _ = Err WrongType

-- the parts that were read, with the next one behind them
abbrev pub one_more : {A : Type 0} → Reading (List A) → Reading A → Reading (List A)
one_more found next = made (λ p. p.0 ++ p.1 ∷ []) (both found next)

-- the items of an array behind those before it
abbrev pub more_in : {A : Type 0} → (Data → Reading A) → Reading (List A) → Items → Reading (List A)
more_in part found no_items = found
more_in part found (item d rest) = more_in part (one_more found (part d)) rest

-- an array
abbrev pub array_in : {A : Type 0} → (Data → Reading A) → Data → Reading (List A)
array_in part (array items) = more_in part (Ok []) items
array_in part _ = Err WrongType

-- the tables at a key, none where it is absent
abbrev pub array_at : {A : Type 0} → (Members → Reading A) → List ℕ → Members → Reading (List A)
array_at part key t = value_or (Ok []) (array_in (table_in part)) (get_member key t)

-- the kind of a node, which is 1 where none is named
abbrev pub node_kind_at : Members → Reading Kind
node_kind_at t = value_or (Ok One) node_kind_in (get_member (codes "kind") t)

-- a node, where the version is 1 and where not
abbrev pub node_in : Bool → Members → Reading WiringNode
node_in first t =
    known (node_keys first) t (made (λ p. record { memory = p.0; kind = p.1.0; image = p.1.1 })
    (both (required number_in (codes "memory") t) (both (node_kind_at t) (required text_in (codes "image") t))))

-- a wire
abbrev pub wire_in : Members → Reading Wire
wire_in t =
    known wire_keys t (made (λ p. record { a = p.0; b = p.1 })
    (both (required end_in (codes "a") t) (required end_in (codes "b") t)))

-- a source
abbrev pub source_in : Members → Reading SourcePlan
source_in t =
    known source_keys t (made (λ p. record { «end» = p.0; messages = p.1 })
    (both (required end_in (codes "end") t) (required (array_in message_in) (codes "messages") t)))

-- a sink
abbrev pub sink_in : Members → Reading SinkPlan
sink_in t =
    known sink_keys t (made (λ p. record { «end» = p.0; capacity = p.1 })
    (both (required end_in (codes "end") t) (required number_in (codes "capacity") t)))

-- where packets are held, and for which rounds
abbrev pub held_in : Members → Reading ((End × PacketKind) × (ℕ × ℕ))
held_in t =
    both (both (required end_in (codes "end") t) (required kind_in (codes "kind") t))
    (both (required number_in (codes "from") t) (required number_in (codes "until") t))

-- a hold
abbrev pub hold_in : Members → Reading Hold
hold_in t =
    known hold_keys t
    (made (λ p. record { «end» = p.0.0; kind = p.0.1; from = p.1.0; until = p.1.1 }) (held_in t))

-- the version and the timeslice
abbrev pub head_in : Members → Reading ℕ
head_in t =
    made (λ p. p.1)
    (both (required version_in (codes "version") t)
    (value_or (Ok default_timeslice) number_in (get_member (codes "timeslice") t)))

-- what stands at the ends of links
abbrev pub ends_in : Members → Reading (List SourcePlan × List SinkPlan)
ends_in t = both (array_at source_in (codes "source") t) (array_at sink_in (codes "sink") t)

-- what the arrays of a wiring are: nodes, wires, sources, sinks and holds
abbrev pub Arrays : Type 0
Arrays = (List WiringNode × List Wire) × ((List SourcePlan × List SinkPlan) × List Hold)

-- the arrays of a wiring
abbrev pub arrays_in : Members → Reading Arrays
arrays_in t =
    both (both (array_at (node_in (is_first_in t)) (codes "node") t) (array_at wire_in (codes "wire") t))
    (both (ends_in t) (array_at hold_in (codes "hold") t))

-- a wiring
abbrev pub wiring_in : Members → Reading Wiring
wiring_in t =
    known (root_keys t) t
    (made (λ p. record {
      timeslice = p.0;
      nodes = p.1.0.0;
      wires = p.1.0.1;
      sources = p.1.1.0.0;
      sinks = p.1.1.0.1;
      holds = p.1.1.1;
    })
    (both (head_in t) (arrays_in t)))
