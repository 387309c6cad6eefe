-- The history of some bytes of a node: what stood there at the opening, and a line for each event that changed one.
-- Source: own choice, a format of this program.
use Rattle.std.specs.Prelude.{ℕ, suc, Bool, true, false, not, ◌==◌, ◌||◌, List, [], ◌∷◌, ◌++◌, flat_map, map, codes}
use Rattle.std.specs.Prelude.{Option, Some, None, if◌then◌else◌}
use Rattle.std.specs.List.{range_with_len}
use Rattle.tword.specs.Words.{plus}
use Rattle.tword.specs.Stores.{byte_at}
use Rattle.tproc.specs.Machine.{Machine}
use Rattle.tproc.specs.Hidden.{hidden}
use Rattle.tplan.specs.declared.event.Event.{Event}
use Rattle.tplan.specs.Wires.{far_ends}
use Rattle.tnet.specs.Net.{NetState}
use Rattle.tfiles.specs.Logs.{line}
use Rattle.tfiles.specs.Texts.{cell_text}
use Rattle.thistory.specs.declared.deed.Done.{Done}
use Rattle.thistory.specs.declared.watch.Place.{Place}
use Rattle.thistory.specs.Deeds.{done_of, net_behind, processor_in}
use Rattle.thistory.specs.Lines.{event_line}

-- a byte of a processor, if it is there and no pending input hides it
abbrev pub seen_byte : Option Machine → ℕ → Option ℕ
seen_byte (Some m) a = byte_at (hidden m).store a
seen_byte None a = None

-- the bytes of a place, as they are seen; a script has no memory
abbrev pub seen_bytes : NetState → Place → List (Option ℕ)
seen_bytes net p = map (λ i. seen_byte (processor_in net p.node) (plus p.address i)) (range_with_len 0 p.length)

-- a byte is seen behind an event, and was not seen so before. A byte that is hidden has not changed yet: a buffer
-- changes when its message is complete
abbrev pub is_changed : Option ℕ → Option ℕ → Bool
is_changed before None = false
is_changed None (Some b) = true
is_changed (Some a) (Some b) = not (a == b)

-- one of some bytes is changed
abbrev pub has_changed : (before after : List (Option ℕ)) → Bool
has_changed [] after = false
has_changed (b ∷ bs) [] = false
has_changed (b ∷ bs) (c ∷ cs) = is_changed b c || has_changed bs cs

-- bytes, each of them behind a blank
abbrev pub cells_text : List (Option ℕ) → List ℕ
cells_text cells = flat_map cell_text cells

-- what stood there at the opening
abbrev pub opening_line : List (Option ℕ) → List ℕ
opening_line cells = codes "   opening is" ++ line (cells_text cells)

-- what stood there, and what stands there
abbrev pub change_text : (before after : List (Option ℕ)) → List ℕ
change_text before after = codes " was" ++ (cells_text before ++ (codes " is" ++ cells_text after))

-- what was done by an event, by the net behind it, where it changed one of the bytes
abbrev pub changed_text : ℕ → Done → NetState → (before after : List (Option ℕ)) → List ℕ
changed_text k d net before after =
    if has_changed before after
    then event_line (change_text before after) k (far_ends net.wires d.event.node) d (processor_in net d.event.node)
    else []

-- what is told of an event, by the net before it: of one of another node nothing
abbrev pub event_text : Place → ℕ → Event → NetState → List ℕ
event_text p k e net =
    if e.node == p.node
    then changed_text k (done_of net e) (net_behind net e) (seen_bytes net p) (seen_bytes (net_behind net e) p)
    else []

-- the events from a number on
abbrev pub watch_from : Place → ℕ → List Event → NetState → List ℕ
watch_from p k [] net = []
watch_from p k (e ∷ es) net =
    event_text p k e net ++ watch_from p (suc k) es (net_behind net e)

-- the text of events that are done on a net: what stood there at the opening, and the changes
abbrev pub watch_text : Place → List Event → NetState → List ℕ
watch_text p events net = opening_line (seen_bytes net p) ++ watch_from p 0 events net
