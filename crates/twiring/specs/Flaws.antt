-- Everything that keeps a text from being a wiring, table by table and key by key.
-- Source: own choice; what a key or a table stands for is said in `WiringParts`.
use Rattle.std.specs.Prelude.{ℕ, suc, Bool, List, [], ◌∷◌, ◌++◌, Option, Some, None, Ok, Err, codes}
use Rattle.std.specs.Prelude.{if◌then◌else◌}
use Rattle.toml.specs.Data.{Data, array, table, Items, no_items, item, Members, no_members, member, get_member}
use Rattle.toml.specs.Parse.{parse_document}
use Rattle.tplan.specs.declared.wiring.WiringFault.TheVariants.{WrongType}
use Rattle.twiring.specs.declared.flaws.Part.{Part}
use Rattle.twiring.specs.declared.flaws.Part.TheVariants as part
use Rattle.twiring.specs.declared.flaws.Key.{Key}
use Rattle.twiring.specs.declared.flaws.Key.TheVariants as key
use Rattle.twiring.specs.declared.flaws.Entry.{Entry}
use Rattle.twiring.specs.declared.flaws.Entry.TheVariants as entry
use Rattle.twiring.specs.declared.flaws.TextFlaw.{TextFlaw}
use Rattle.twiring.specs.declared.flaws.TextFlaw.TheVariants as flaw
use Rattle.twiring.specs.NearKeys.{near_name}
use Rattle.twiring.specs.Wirings.{Names, is_one_of, is_first_in, root_keys_of, node_keys, wire_keys, source_keys}
use Rattle.twiring.specs.Wirings.{sink_keys, hold_keys, default_timeslice}
use Rattle.twiring.specs.WiringParts.{Reading, required, value_or, number_in, text_in, end_in, kind_in, message_in}
use Rattle.twiring.specs.WiringParts.{version_in, array_in, node_kind_at}

-- ---- keys

-- a key that is none of these, with the first of them that is near to it
abbrev pub unknown_flaw : Part → Names → List ℕ → List TextFlaw
unknown_flaw p names k = if is_one_of k names then [] else flaw.UnknownKey p k (near_name k names) ∷ []

-- the keys of a table that are none of these
abbrev pub unknown_flaws : Part → Names → Members → List TextFlaw
unknown_flaws p names no_members = []
unknown_flaws p names (member k d rest) = unknown_flaw p names k ++ unknown_flaws p names rest

-- what stands at a key, or that nothing does, if it is a fault
abbrev pub key_flaws : {A : Type 0} → Part → Key → Reading A → List TextFlaw
key_flaws p k (Ok x) = []
key_flaws p k (Err f) = flaw.BadKey p k f ∷ []

-- ---- entries

-- the name of an image
abbrev pub image_flaws : Part → Members → List TextFlaw
image_flaws p t = key_flaws p key.Image (required text_in (codes "image") t)

-- a node, where the version is 1 and where not
abbrev pub node_flaws : Bool → Part → Members → List TextFlaw
node_flaws first p t =
    unknown_flaws p (node_keys first) t
    ++ (key_flaws p key.Memory (required number_in (codes "memory") t)
    ++ (key_flaws p key.Kind (node_kind_at t) ++ image_flaws p t))

-- a wire
abbrev pub wire_flaws : Part → Members → List TextFlaw
wire_flaws p t =
    unknown_flaws p wire_keys t
    ++ (key_flaws p key.A (required end_in (codes "a") t) ++ key_flaws p key.B (required end_in (codes "b") t))

-- the messages of a source
abbrev pub messages_flaws : Part → Members → List TextFlaw
messages_flaws p t = key_flaws p key.Messages (required (array_in message_in) (codes "messages") t)

-- a source
abbrev pub source_flaws : Part → Members → List TextFlaw
source_flaws p t =
    unknown_flaws p source_keys t
    ++ (key_flaws p key.End (required end_in (codes "end") t) ++ messages_flaws p t)

-- a sink
abbrev pub sink_flaws : Part → Members → List TextFlaw
sink_flaws p t =
    unknown_flaws p sink_keys t
    ++ (key_flaws p key.End (required end_in (codes "end") t)
    ++ key_flaws p key.Capacity (required number_in (codes "capacity") t))

-- a hold
abbrev pub hold_flaws : Part → Members → List TextFlaw
hold_flaws p t =
    unknown_flaws p hold_keys t
    ++ (key_flaws p key.End (required end_in (codes "end") t)
    ++ (key_flaws p key.Kind (required kind_in (codes "kind") t)
    ++ (key_flaws p key.From (required number_in (codes "from") t)
    ++ key_flaws p key.Until (required number_in (codes "until") t))))

-- an entry of an array
abbrev pub entry_flaws : Bool → Entry → Part → Members → List TextFlaw
entry_flaws first entry.Node p t = node_flaws first p t
entry_flaws first entry.Wire p t = wire_flaws p t
entry_flaws first entry.Source p t = source_flaws p t
entry_flaws first entry.Sink p t = sink_flaws p t
entry_flaws first entry.Hold p t = hold_flaws p t

-- ---- arrays

-- the name of an array
abbrev pub name_of : Entry → List ℕ
name_of entry.Node = codes "node"
name_of entry.Wire = codes "wire"
name_of entry.Source = codes "source"
name_of entry.Sink = codes "sink"
name_of entry.Hold = codes "hold"

-- the key of an array
abbrev pub key_of : Entry → Key
key_of entry.Node = key.Nodes
key_of entry.Wire = key.Wires
key_of entry.Source = key.Sources
key_of entry.Sink = key.Sinks
key_of entry.Hold = key.Holds

-- an entry by its number
abbrev pub part_of : Entry → ℕ → Part
part_of entry.Node n = part.Node n
part_of entry.Wire n = part.Wire n
part_of entry.Source n = part.Source n
part_of entry.Sink n = part.Sink n
part_of entry.Hold n = part.Hold n

-- a value that has to be an entry
abbrev pub item_flaws : Bool → Entry → Part → Data → List TextFlaw
item_flaws first e p (table t) = entry_flaws first e p t
item_flaws first e p _ = flaw.NoTable p ∷ []

-- the values of an array, whose numbers begin here
abbrev pub items_flaws : Bool → Entry → ℕ → Items → List TextFlaw
items_flaws first e n no_items = []
items_flaws first e n (item d rest) = item_flaws first e (part_of e n) d ++ items_flaws first e (suc n) rest

-- a value that has to be an array
abbrev pub value_flaws : Bool → Entry → Data → List TextFlaw
value_flaws first e (array items) = items_flaws first e 0 items
value_flaws first e _ = flaw.BadKey part.Whole (key_of e) WrongType ∷ []

-- a value that may be there
abbrev pub there_flaws : Bool → Entry → Option Data → List TextFlaw
there_flaws first e None = []
there_flaws first e (Some d) = value_flaws first e d

-- the array of these entries
abbrev pub array_flaws : Bool → Entry → Members → List TextFlaw
array_flaws first e t = there_flaws first e (get_member (name_of e) t)

-- ---- the whole

-- the keys of the whole, the version and the timeslice
abbrev pub head_flaws : Bool → Members → List TextFlaw
head_flaws first t =
    unknown_flaws part.Whole (root_keys_of first) t
    ++ (key_flaws part.Whole key.Version (required version_in (codes "version") t)
    ++ key_flaws part.Whole key.Timeslice
    (value_or (Ok default_timeslice) number_in (get_member (codes "timeslice") t)))

-- a text that is TOML
abbrev pub root_flaws : Members → List TextFlaw
root_flaws t =
    head_flaws (is_first_in t) t
    ++ (array_flaws (is_first_in t) entry.Node t
    ++ (array_flaws (is_first_in t) entry.Wire t
    ++ (array_flaws (is_first_in t) entry.Source t
    ++ (array_flaws (is_first_in t) entry.Sink t ++ array_flaws (is_first_in t) entry.Hold t))))

-- a text that may be TOML
abbrev pub document_flaws : Option Members → List TextFlaw
document_flaws None = flaw.NoToml ∷ []
document_flaws (Some t) = root_flaws t

-- a text
abbrev pub text_flaws : List ℕ → List TextFlaw
text_flaws text = document_flaws (parse_document text)
