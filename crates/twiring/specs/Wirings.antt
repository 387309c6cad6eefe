-- Which TOML tables stand for which wiring.
-- Source: own choice, a format of this program; TOML 1.0 for its syntax.
use Rattle.std.specs.Prelude.{ℕ, ◌≡◌, ◌⊎◌, ℤ, pos, negsuc, ◌^◌, Bool, true, false, not, ◌||◌, ◌==◌, nat_lt, List, []}
use Rattle.std.specs.Prelude.{◌∷◌, map, Option, Some, None, Result, Ok, Err, is_none, codes, bytes_eq, unwrap_or}
use Rattle.std.specs.Prelude.{if◌then◌else◌}
use Rattle.std.specs.List.{list_any, list_all}
use Rattle.toml.specs.Data.{Data, string, integer, array, table, Items, no_items, item, Members, no_members, member}
use Rattle.toml.specs.Data.{get_member}
use Rattle.toml.specs.Parse.{parse_document}
use Rattle.tplan.specs.declared.plan.End.{End}
use Rattle.tplan.specs.declared.event.PacketKind.{PacketKind}
use Rattle.tplan.specs.declared.event.PacketKind.TheVariants as kind
use Rattle.tplan.specs.declared.wiring.WiringFault.{WiringFault}
use Rattle.tplan.specs.declared.wiring.WiringFault.TheVariants.{OutOfMemory, Syntax, UnknownKey, MissingKey, WrongType}
use Rattle.tplan.specs.declared.wiring.WiringFault.TheVariants.{BadVersion, BadNumber, BadMessage, BadKind}
use Rattle.tplan.specs.declared.wiring.Wiring.{Wiring}
use Rattle.tword.specs.declared.kind.Kind.{Kind}
use Rattle.tword.specs.declared.kind.Kind.TheVariants.{One, Two}
use Rattle.twiring.specs.Messages.{message_of}

-- the names of some keys
abbrev pub Names : Type 0
Names = List (List ℕ)

-- a key is one of these
abbrev pub is_one_of : List ℕ → Names → Bool
is_one_of key names = list_any (λ n. bytes_eq n key) names

-- the version is 1
abbrev pub is_first : Option Data → Bool
is_first (Some (integer (pos n))) = n == 1
is_first _ = false

-- the keys of the whole, where the version is 1 and where not
abbrev pub root_keys_of : Bool → Names
root_keys_of true = codes "version" ∷ codes "timeslice" ∷ codes "node" ∷ codes "wire" ∷ codes "hold" ∷ []
root_keys_of false =
    codes "version" ∷ codes "timeslice" ∷ codes "node" ∷ codes "wire" ∷ codes "source" ∷ codes "sink" ∷ codes "hold"
    ∷ []

-- the version of the whole is 1
abbrev pub is_first_in : Members → Bool
is_first_in t = is_first (get_member (codes "version") t)

-- the keys of the whole
abbrev pub root_keys : Members → Names
root_keys t = root_keys_of (is_first_in t)

-- the keys that each node has
abbrev pub needed_node_keys : Names
needed_node_keys = codes "memory" ∷ codes "image" ∷ []

-- the keys of a node, where the version is 1 and where not
abbrev pub node_keys : Bool → Names
node_keys true = needed_node_keys
node_keys false = codes "memory" ∷ codes "kind" ∷ codes "image" ∷ []

-- the keys of a wire
abbrev pub wire_keys : Names
wire_keys = codes "a" ∷ codes "b" ∷ []

-- the keys of a source
abbrev pub source_keys : Names
source_keys = codes "end" ∷ codes "messages" ∷ []

-- the keys of a sink
abbrev pub sink_keys : Names
sink_keys = codes "end" ∷ codes "capacity" ∷ []

-- the keys of a hold
abbrev pub hold_keys : Names
hold_keys = codes "end" ∷ codes "kind" ∷ codes "from" ∷ codes "until" ∷ []

-- the tables of an array at a key, those items that are tables
abbrev pub tables_in : Items → List Members
tables_in no_items = []
tables_in (item (table t) rest) = t ∷ tables_in rest
tables_in (item _ rest) = tables_in rest

-- the tables of a value
abbrev pub tables_of : Option Data → List Members
tables_of (Some (array items)) = tables_in items
tables_of _ = []

-- the tables at a key
abbrev pub tables_at : List ℕ → Members → List Members
tables_at key t = tables_of (get_member key t)

-- a key that is not listed
abbrev pub has_unknown : Names → Members → Bool
has_unknown names no_members = false
has_unknown names (member key d rest) = not (is_one_of key names) || has_unknown names rest

-- a listed key that is absent
abbrev pub lacks_one : Names → Members → Bool
lacks_one names t = list_any (λ name. is_none (get_member name t)) names

-- a test of the whole, and of each node, wire, source, sink and hold
abbrev pub somewhere : (Members → Bool) → (Members → Bool) → (Members → Bool) → (Members → Bool) → (Members → Bool)
    → (Members → Bool) → Members → Bool
somewhere root node wire source sink hold t =
    root t || list_any node (tables_at (codes "node") t) || list_any wire (tables_at (codes "wire") t)
    || list_any source (tables_at (codes "source") t)
    || list_any sink (tables_at (codes "sink") t)
    || list_any hold (tables_at (codes "hold") t)

-- a value is an integer
abbrev pub is_integer : Data → Bool
is_integer (integer z) = true
is_integer _ = false

-- a value is a text
abbrev pub is_text : Data → Bool
is_text (string s) = true
is_text _ = false

-- a value is a list of two integers
abbrev pub is_end : Data → Bool
is_end (array (item (integer n) (item (integer l) no_items))) = true
is_end _ = false

-- a value names one of the two kinds of packets
abbrev pub is_kind : Data → Bool
is_kind (string s) = bytes_eq s (codes "data") || bytes_eq s (codes "ack")
is_kind _ = false

-- the items of a list
abbrev pub items_in : Items → List Data
items_in no_items = []
items_in (item d rest) = d ∷ items_in rest

-- the items of a value
abbrev pub items_of : Option Data → List Data
items_of (Some (array items)) = items_in items
items_of _ = []

-- a value is a list of texts
abbrev pub is_texts : Data → Bool
is_texts (array items) = list_all is_text (items_in items)
is_texts _ = false

-- each item is a table
abbrev pub are_tables : Items → Bool
are_tables no_items = true
are_tables (item (table t) rest) = are_tables rest
are_tables (item _ rest) = false

-- a value is a list of tables
abbrev pub is_tables : Data → Bool
is_tables (array items) = are_tables items
is_tables _ = false

-- a value that is there fails a test
abbrev pub fails : (Data → Bool) → Option Data → Bool
fails right None = false
fails right (Some d) = not (right d)

-- the value at a key is there and fails a test
abbrev pub is_wrong : (Data → Bool) → List ℕ → Members → Bool
is_wrong right key t = fails right (get_member key t)

-- some value has a wrong type
abbrev pub has_wrong_type : Members → Bool
has_wrong_type t =
    somewhere
    (λ t. is_wrong is_integer (codes "version") t || is_wrong is_integer (codes "timeslice") t || is_wrong is_tables
    (codes "node") t || is_wrong is_tables (codes "wire") t || is_wrong is_tables (codes "source") t
    || is_wrong is_tables (codes "sink") t
    || is_wrong is_tables (codes "hold") t)
    (λ t. is_wrong is_integer (codes "memory") t || is_wrong is_integer (codes "kind") t || is_wrong is_text
    (codes "image") t)
    (λ t. is_wrong is_end (codes "a") t || is_wrong is_end (codes "b") t)
    (λ t. is_wrong is_end (codes "end") t || is_wrong is_texts (codes "messages") t)
    (λ t. is_wrong is_end (codes "end") t || is_wrong is_integer (codes "capacity") t)
    (λ t. is_wrong is_end (codes "end") t || is_wrong is_kind (codes "kind") t || is_wrong is_integer (codes "from") t
    || is_wrong is_integer (codes "until") t)
    t

-- an integer is no number of 32 bits
abbrev pub is_far_out : ℤ → Bool
is_far_out (pos n) = not (nat_lt n (2 ^ 32))
is_far_out (negsuc n) = true

-- an integer of the value is no number of 32 bits
abbrev pub is_bad_number : Data → Bool
is_bad_number (integer z) = is_far_out z
is_bad_number (array (item (integer n) (item (integer l) no_items))) = is_far_out n || is_far_out l
is_bad_number _ = false

-- an integer at a key is no number of 32 bits
abbrev pub is_bad : List ℕ → Members → Bool
is_bad key t = is_wrong (λ d. not (is_bad_number d)) key t

-- some integer is no number of 32 bits
abbrev pub has_bad_number : Members → Bool
has_bad_number t =
    somewhere
    (λ t. is_bad (codes "timeslice") t)
    (λ t. is_bad (codes "memory") t || is_bad (codes "kind") t)
    (λ t. is_bad (codes "a") t || is_bad (codes "b") t)
    (λ t. is_bad (codes "end") t)
    (λ t. is_bad (codes "end") t || is_bad (codes "capacity") t)
    (λ t. is_bad (codes "end") t || is_bad (codes "from") t || is_bad (codes "until") t)
    t

-- a text is no message
abbrev pub is_no_message : Data → Bool
is_no_message (string s) = is_none (message_of s)
is_no_message _ = false

-- a source has a text that is no message
abbrev pub has_bad_message : Members → Bool
has_bad_message t = list_any is_no_message (items_of (get_member (codes "messages") t))

-- a value is the number of a kind of nodes
abbrev pub is_node_kind : Data → Bool
is_node_kind (integer (pos n)) = n == 1 || n == 2
is_node_kind _ = false

-- a node has a kind that there is not
abbrev pub has_bad_kind : Members → Bool
has_bad_kind t = is_wrong is_node_kind (codes "kind") t

-- a value is a version of this format
abbrev pub is_version : Data → Bool
is_version (integer (pos n)) = n == 1 || n == 2
is_version _ = false

-- a number, where the checks have passed
abbrev pub number_of : Option Data → ℕ → ℕ
number_of (Some (integer (pos n))) otherwise = n
number_of _ otherwise = otherwise

-- a text, where the checks have passed
abbrev pub text_of : Option Data → List ℕ
text_of (Some (string s)) = s
text_of _ = []

-- an end, where the checks have passed
abbrev pub end_of : Option Data → End
end_of (Some (array (item (integer (pos n)) (item (integer (pos l)) no_items)))) = record { node = n; link = l }
end_of _ = record { node = 0; link = 0 }

-- a kind of packets, where the checks have passed
abbrev pub kind_of : Option Data → PacketKind
kind_of d = if bytes_eq (text_of d) (codes "ack") then kind.Ack else kind.Data

-- the kind of a node, where the checks have passed: 1 where none is named
abbrev pub node_kind_of : Option Data → Kind
node_kind_of d = if number_of d 1 == 2 then Two else One

-- a message, where the checks have passed
abbrev pub message_at : Data → List ℕ
message_at (string s) = unwrap_or (message_of s) []
message_at _ = []

-- the number at a key
abbrev pub number_at : List ℕ → Members → ℕ
number_at key t = number_of (get_member key t) 0

-- the timeslice of a wiring that names none
abbrev pub default_timeslice : ℕ
default_timeslice = 1024

-- the wiring of a table that passes all checks
abbrev pub wiring_value : Members → Wiring
wiring_value t =
    record {
      timeslice = number_of (get_member (codes "timeslice") t) default_timeslice;
      nodes = map
          (λ n. record {
            memory = number_at (codes "memory") n;
            kind = node_kind_of (get_member (codes "kind") n);
            image = text_of (get_member (codes "image") n);
          }) (tables_at (codes "node") t);
      wires = map (λ w. record { a = end_of (get_member (codes "a") w); b = end_of (get_member (codes "b") w) })
          (tables_at (codes "wire") t);
      sources = map
          (λ s. record {
            «end» = end_of (get_member (codes "end") s);
            messages = map message_at (items_of (get_member (codes "messages") s));
          }) (tables_at (codes "source") t);
      sinks = map
          (λ s. record { «end» = end_of (get_member (codes "end") s); capacity = number_at (codes "capacity") s })
          (tables_at (codes "sink") t);
      holds = map
          (λ h. record {
            «end» = end_of (get_member (codes "end") h);
            kind = kind_of (get_member (codes "kind") h);
            from = number_at (codes "from") h;
            until = number_at (codes "until") h;
          }) (tables_at (codes "hold") t);
    }

-- the wiring that a table stands for, or the lowest fault
unfoldable pub wiring_of : Members → Result Wiring WiringFault
wiring_of t =
    if somewhere (has_unknown (root_keys t)) (has_unknown (node_keys (is_first_in t))) (has_unknown wire_keys)
    (has_unknown source_keys) (has_unknown sink_keys) (has_unknown hold_keys) t then Err UnknownKey
    else if somewhere (lacks_one (codes "version" ∷ [])) (lacks_one needed_node_keys) (lacks_one wire_keys)
    (lacks_one source_keys) (lacks_one sink_keys) (lacks_one hold_keys) t then Err MissingKey
    else if has_wrong_type t then Err WrongType
    else if is_wrong is_version (codes "version") t then Err BadVersion
    else if has_bad_number t then Err BadNumber
    else if list_any has_bad_message (tables_at (codes "source") t) then Err BadMessage
    else if list_any has_bad_kind (tables_at (codes "node") t) then Err BadKind
    else Ok (wiring_value t)

-- the wiring of a text that is TOML
abbrev pub wiring_of_document : Option Members → Result Wiring WiringFault
wiring_of_document None = Err Syntax
wiring_of_document (Some t) = wiring_of t

-- the wiring that a text stands for
abbrev pub wiring_of_text : List ℕ → Result Wiring WiringFault
wiring_of_text text = wiring_of_document (parse_document text)

-- what a reader of a wiring, or of a part of one, may answer: what is told, or that there was no memory
abbrev pub IsWiringAnswer : {A : Type 0} → Result A WiringFault → Result A WiringFault → Type 0
IsWiringAnswer told answer = (answer ≡ Err OutOfMemory) ⊎ (answer ≡ told)
