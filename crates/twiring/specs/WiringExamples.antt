-- Wirings that the definitions compute.
use Rattle.std.specs.Prelude.{ℕ, ◌≡◌, pos, negsuc, List, [], ◌∷◌, ◌++◌, Ok, Err, Some, None, refl, codes, replicate}
use Rattle.toml.specs.Data.{string, integer, array, table, no_items, item, Data, Members, no_members, member}
use Rattle.toml.proofs.OnLiterals.{toml_on_literals}
use Rattle.tplan.specs.declared.event.PacketKind.TheVariants as kind
use Rattle.tplan.specs.declared.wiring.WiringFault.TheVariants.{Syntax, UnknownKey, MissingKey, WrongType, BadVersion}
use Rattle.tplan.specs.declared.wiring.WiringFault.TheVariants.{BadNumber, BadMessage, BadKind}
use Rattle.tword.specs.declared.kind.Kind.TheVariants.{One, Two}
use Rattle.twiring.specs.Messages.{message_of}
use Rattle.twiring.specs.Wirings.{wiring_of, wiring_of_text}

-- lines of a text
abbrev lines : List (List ℕ) → List ℕ
lines [] = []
lines (l ∷ ls) = l ++ 10 ∷ lines ls

-- a wiring with each key
abbrev whole : List ℕ
whole =
    lines (codes "version = 1" ∷ codes "timeslice = 512" ∷ codes "[[node]]" ∷ codes "memory = 2048"
    ∷ codes "image = 'a.img'" ∷ codes "[[wire]]" ∷ codes "a = [0, 1]" ∷ codes "b = [1, 2]"
    ∷ codes "[[hold]]" ∷ codes "end = [1, 2]" ∷ codes "kind = 'data'" ∷ codes "from = 1" ∷ codes "until = 5" ∷ [])

whole-read : wiring_of_text whole
    ≡ Ok (record {
      timeslice = 512;
      nodes = record { memory = 2048; kind = One; image = codes "a.img" } ∷ [];
      wires = record { a = record { node = 0; link = 1 }; b = record { node = 1; link = 2 } } ∷ [];
      sources = [];
      sinks = [];
      holds = record { «end» = record { node = 1; link = 2 }; kind = kind.Data; from = 1; until = 5 } ∷ [];
    })
unfolding toml_on_literals wiring_of
whole-read = refl

-- a wiring with sources and sinks
abbrev second : List ℕ
second =
    lines (codes "version = 2" ∷ codes "[[node]]" ∷ codes "memory = 2048" ∷ codes "image = 'a.img'"
    ∷ codes "[[source]]" ∷ codes "end = [0, 2]" ∷ codes "messages = ['01020304', '0aFf']"
    ∷ codes "[[sink]]" ∷ codes "end = [0, 1]" ∷ codes "capacity = 64" ∷ [])

second-read : wiring_of_text second
    ≡ Ok (record {
      timeslice = 1024;
      nodes = record { memory = 2048; kind = One; image = codes "a.img" } ∷ [];
      wires = [];
      sources = record {
        «end» = record { node = 0; link = 2 };
        messages = (1 ∷ 2 ∷ 3 ∷ 4 ∷ []) ∷ (10 ∷ 255 ∷ []) ∷ [];
      } ∷ [];
      sinks = record { «end» = record { node = 0; link = 1 }; capacity = 64 } ∷ [];
      holds = [];
    })
unfolding toml_on_literals wiring_of
second-read = refl

-- what may be absent
least-read : wiring_of_text (codes "version = 1")
    ≡ Ok (record { timeslice = 1024; nodes = []; wires = []; sources = []; sinks = []; holds = [] })
unfolding toml_on_literals wiring_of
least-read = refl

-- each fault, with each of the next ones in the same text
no_toml : wiring_of_text (lines (codes "size = 1" ∷ codes "= 2" ∷ [])) ≡ Err Syntax
unfolding toml_on_literals wiring_of
no_toml = refl

-- a table of an array with a single entry
abbrev one_of : List ℕ → Members → Members → Members
one_of key t rest = member key (array (item (table t) no_items)) rest

-- a version, before other members
abbrev version_is : ℕ → Members → Members
version_is v rest = member (codes "version") (integer (pos v)) rest

unknown_first : wiring_of
    (one_of (codes "hold") (member (codes "to") (integer (pos 1)) no_members)
    (member (codes "timeslice") (string []) (member (codes "version") (integer (pos 2)) no_members))) ≡ Err UnknownKey
unfolding wiring_of
unknown_first = refl

missing_next : wiring_of
    (one_of (codes "node") (member (codes "memory") (string []) no_members)
    (member (codes "version") (integer (pos 2)) no_members)) ≡ Err MissingKey
unfolding wiring_of
missing_next = refl

wrong_type_next : wiring_of
    (member (codes "timeslice") (string []) (member (codes "version") (integer (pos 2)) no_members)) ≡ Err WrongType
unfolding wiring_of
wrong_type_next = refl

bad_version_next : wiring_of
    (member (codes "timeslice") (integer (pos 4294967296)) (member (codes "version") (integer (pos 3)) no_members))
    ≡ Err BadVersion
unfolding wiring_of
bad_version_next = refl

bad_number_last : wiring_of
    (member (codes "timeslice") (integer (pos 4294967296)) (member (codes "version") (integer (pos 1)) no_members))
    ≡ Err BadNumber
unfolding wiring_of
bad_number_last = refl

greatest_number : wiring_of
    (member (codes "timeslice") (integer (pos 4294967295)) (member (codes "version") (integer (pos 1)) no_members))
    ≡ Ok (record { timeslice = 4294967295; nodes = []; wires = []; sources = []; sinks = []; holds = [] })
unfolding wiring_of
greatest_number = refl

-- the messages, for a source at the end of a link
abbrev source_of : Data → Members
source_of messages =
    member (codes "end") (array (item (integer (pos 0)) (item (integer (pos 2)) no_items)))
    (member (codes "messages") messages no_members)

-- a wiring of a version with a source of one message
abbrev offers : ℕ → List ℕ → Members
offers v message =
    one_of (codes "source") (source_of (array (item (string message) no_items))) (version_is v no_members)

-- digits of either case, and of both
lower_case : message_of (codes "0123456789abcdef") ≡ Some (1 ∷ 35 ∷ 69 ∷ 103 ∷ 137 ∷ 171 ∷ 205 ∷ 239 ∷ [])
lower_case = refl

upper_case : message_of (codes "ABCDEF") ≡ Some (171 ∷ 205 ∷ 239 ∷ [])
upper_case = refl

mixed_case : message_of (codes "aBCd") ≡ Some (171 ∷ 205 ∷ [])
mixed_case = refl

-- texts that are no message
empty : message_of [] ≡ None
empty = refl

half_a_pair : message_of (codes "012") ≡ None
half_a_pair = refl

no_digit : message_of (codes "0g") ≡ None
no_digit = refl

blank : message_of (codes "01 02") ≡ None
blank = refl

longest : message_of (replicate 8192 48) ≡ Some (replicate 4096 0)
longest = refl

too_long : message_of (replicate 8194 48) ≡ None
too_long = refl

-- version 1 has no source and no sink, whatever they are
no_source_at_first : wiring_of (offers 1 (codes "05")) ≡ Err UnknownKey
unfolding wiring_of
no_source_at_first = refl

no_sink_at_first : wiring_of (member (codes "sink") (integer (pos 0)) (version_is 1 no_members)) ≡ Err UnknownKey
unfolding wiring_of
no_sink_at_first = refl

-- under no version and under other ones keys are those of version 2
without_version : wiring_of (member (codes "sink") (integer (pos 0)) no_members) ≡ Err MissingKey
unfolding wiring_of
without_version = refl

version_of_wrong_type : wiring_of
    (member (codes "sink") (integer (pos 0)) (member (codes "version") (string []) no_members)) ≡ Err WrongType
unfolding wiring_of
version_of_wrong_type = refl

third_version : wiring_of (offers 3 (codes "05")) ≡ Err BadVersion
unfolding wiring_of
third_version = refl

-- faults of sources and sinks
source_without_messages : wiring_of
    (one_of (codes "source") (member (codes "end") (string []) no_members) (version_is 2 no_members)) ≡ Err MissingKey
unfolding wiring_of
source_without_messages = refl

sink_with_messages : wiring_of (one_of (codes "sink") (source_of (string [])) (version_is 2 no_members))
    ≡ Err UnknownKey
unfolding wiring_of
sink_with_messages = refl

messages_no_list : wiring_of (one_of (codes "source") (source_of (string (codes "05"))) (version_is 2 no_members))
    ≡ Err WrongType
unfolding wiring_of
messages_no_list = refl

message_no_text : wiring_of
    (one_of (codes "source") (source_of (array (item (string []) (item (integer (pos 5)) no_items))))
    (version_is 2 no_members)) ≡ Err WrongType
unfolding wiring_of
message_no_text = refl

-- a source with a bad message, and a sink of some capacity
abbrev with_capacity : ℕ → Members
with_capacity capacity =
    one_of (codes "sink")
    (member (codes "capacity") (integer (pos capacity))
    (member (codes "end") (array (item (integer (pos 0)) (item (integer (pos 1)) no_items))) no_members))
    (offers 2 (codes "0g"))

bad_capacity_next : wiring_of (with_capacity 4294967296) ≡ Err BadNumber
unfolding wiring_of
bad_capacity_next = refl

bad_message_last : wiring_of (with_capacity 64) ≡ Err BadMessage
unfolding wiring_of
bad_message_last = refl

no_messages : wiring_of (one_of (codes "source") (source_of (array no_items)) (version_is 2 no_members))
    ≡ Ok (record {
      timeslice = 1024;
      nodes = [];
      wires = [];
      sources = record { «end» = record { node = 0; link = 2 }; messages = [] } ∷ [];
      sinks = [];
      holds = [];
    })
unfolding wiring_of
no_messages = refl

-- nodes of both kinds, the first of which names none
abbrev kinds : List ℕ
kinds =
    lines (codes "version = 2" ∷ codes "[[node]]" ∷ codes "memory = 2048" ∷ codes "image = 'a.img'"
    ∷ codes "[[node]]" ∷ codes "memory = 16777216" ∷ codes "kind = 2" ∷ codes "image = 'b.img'"
    ∷ codes "[[node]]" ∷ codes "memory = 4096" ∷ codes "kind = 1" ∷ codes "image = 'c.img'" ∷ [])

kinds-read : wiring_of_text kinds
    ≡ Ok (record {
      timeslice = 1024;
      nodes = record { memory = 2048; kind = One; image = codes "a.img" }
          ∷ record { memory = 16777216; kind = Two; image = codes "b.img" }
          ∷ record { memory = 4096; kind = One; image = codes "c.img" }
          ∷ [];
      wires = [];
      sources = [];
      sinks = [];
      holds = [];
    })
unfolding toml_on_literals wiring_of
kinds-read = refl

-- a wiring of a version with one node of a kind
abbrev node_of : ℕ → Data → Members → Members
node_of v kind rest =
    one_of (codes "node")
    (member (codes "memory") (integer (pos 2048))
    (member (codes "image") (string (codes "a.img")) (member (codes "kind") kind no_members)))
    (version_is v rest)

-- version 1 has no kind of a node, whatever it is; under no version and under other ones keys are those of version 2
no_kind_at_first : wiring_of (node_of 1 (integer (pos 1)) no_members) ≡ Err UnknownKey
unfolding wiring_of
no_kind_at_first = refl

kind_at_third : wiring_of (node_of 3 (integer (pos 2)) no_members) ≡ Err BadVersion
unfolding wiring_of
kind_at_third = refl

kind_without_version : wiring_of
    (one_of (codes "node") (member (codes "kind") (integer (pos 2)) no_members) no_members) ≡ Err MissingKey
unfolding wiring_of
kind_without_version = refl

-- faults of kinds
kind_no_integer : wiring_of (node_of 2 (string (codes "2")) no_members) ≡ Err WrongType
unfolding wiring_of
kind_no_integer = refl

kind_no_number : wiring_of (node_of 2 (integer (negsuc 0)) no_members) ≡ Err BadNumber
unfolding wiring_of
kind_no_number = refl

third_kind : wiring_of (node_of 2 (integer (pos 3)) no_members) ≡ Err BadKind
unfolding wiring_of
third_kind = refl

no_kind_zero : wiring_of (node_of 2 (integer (pos 0)) no_members) ≡ Err BadKind
unfolding wiring_of
no_kind_zero = refl

-- a bad message is told before a bad kind
bad_kind_last : wiring_of
    (node_of 2 (integer (pos 3)) (one_of (codes "source") (source_of (array (item (string []) no_items))) no_members))
    ≡ Err BadMessage
unfolding wiring_of
bad_kind_last = refl
