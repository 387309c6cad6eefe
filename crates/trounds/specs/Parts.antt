-- A node's part of a round, done by itself: it sees only what lay at its own links, and what it sends goes into its
-- outbox.
-- Source: own choice, how rounds are shared out.
use Rattle.std.specs.Prelude.{◌≡◌, ℕ, zero, suc, ◌+◌, Bool, false, not, ◌&&◌, List, [], ◌∷◌, ◌++◌, map, fold, Option}
use Rattle.std.specs.Prelude.{Some, None, is_some, slice_get, slice_set, slice_index_or, if◌then◌else◌}
use Rattle.std.specs.List.{flat_map}
use Rattle.tlink.specs.declared.event.Packet.{Packet}
use Rattle.tlink.specs.declared.event.NodeEvent.{NodeEvent}
use Rattle.tlink.specs.Node.{NodeState}
use Rattle.tlink.specs.Events.{happens, is_node_done, node_left_by}
use Rattle.tplan.specs.declared.event.Act.{Act}
use Rattle.tplan.specs.declared.event.Act.TheVariants.{Run, Send, Data, Take, Ack}
use Rattle.tplan.specs.declared.event.Event.{Event}
use Rattle.tplan.specs.declared.event.Hold.{Hold}
use Rattle.tplan.specs.declared.event.PacketKind.{PacketKind}
use Rattle.tplan.specs.declared.event.PacketKind.TheVariants as kind
use Rattle.tplan.specs.declared.event.Note.{Note}
use Rattle.tplan.specs.declared.plan.End.{End}
use Rattle.tplan.specs.declared.plan.Wire.{Wire}
use Rattle.tnet.specs.declared.inbox.Inbox.{Inbox}
use Rattle.trounds.specs.declared.round_node.Sending.{Sending}
use Rattle.tplan.specs.Wires.{end_at, far_end}
use Rattle.tnet.specs.Net.{NetState, empty_inbox}
use Rattle.tnet.specs.declared.station.Done.{Done}
use Rattle.tnet.specs.FarEnds.{far_in_row}
use Rattle.tnet.specs.Stations.{box_at, put_in, asked, emptied, done_of, listed}
use Rattle.trounds.specs.Rounds.{is_held, taking}
use Rattle.tnet.specs.Net.{four_links}

-- a node with its number, what lies at its links, and the far ends of these
pub record Station : Type 0 where
  pub number : ℕ
  pub node : NodeState
  pub inboxes : List Inbox
  pub far : List (Option End)

-- the link of an act, or 0 where it has none
abbrev pub act_link : Act → ℕ
act_link Run = 0
act_link (Send l) = l
act_link (Data l) = l
act_link (Take l) = l
act_link (Ack l) = l

-- a station in a round: what it has sent, done and told so far
pub record Part : Type 0 where
  pub station : Station
  pub outbox : List Sending
  pub events : List Event
  pub notes : List Note

-- a part before its first event
abbrev pub fresh : Station → Part
fresh s = record { station = s; outbox = []; events = []; notes = [] }

-- a packet lies at a link of a station
abbrev pub with_packet : ℕ → Packet → Station → Station
with_packet l p s = record s { inboxes = slice_set s.inboxes l (put_in p (box_at s.inboxes l)) }

-- the far end of a link
abbrev pub far_at : Station → ℕ → Option End
far_at s l = far_in_row s.far l

-- a packet as a sending, if there is a far end
abbrev pub sending_to : Packet → Option End → List Sending
sending_to p None = []
sending_to p (Some e) = record { to = e; packet = p } ∷ []

-- the sendings of what an act emits
abbrev pub sendings : List (Option End) → Option (ℕ × Packet) → List Sending
sendings far None = []
sendings far (Some (l, p)) = sending_to p (far_in_row far l)

-- what an event did is written down
abbrev pub written : Act → Done → Part → Part
written act d p =
    record {
      station = p.station;
      outbox = p.outbox ++ sendings p.station.far d.packet;
      events = p.events ++ record { node = p.station.number; act = act } ∷ [];
      notes = p.notes ++ listed d.note;
    }

-- the station after an event that left this node
abbrev pub station_after : Act → NodeState → Station → Station
station_after act node s = record { number = s.number; node = node; inboxes = emptied act s.inboxes; far = s.far }

-- the part after an event that did this, and left this node
abbrev pub part_done : Act → Part → NodeState → Option Done → Part
part_done act p node None = p
part_done act p node (Some d) = written act d (record p { station = station_after act node p.station })

-- the part after an event of its node, if there is one
abbrev pub part_asked : Act → Part → Option NodeEvent → Part
part_asked act p None = p
part_asked act p (Some e) =
    part_done act p (node_left_by p.station.node (happens e p.station.node))
    (done_of p.station.number (far_at p.station) e p.station.node)

-- an act is done if it is enabled
abbrev pub part_does : Act → Part → Part
part_does act p = part_asked act p (asked act p.station.inboxes)

-- a packet of this kind lies in an inbox
abbrev pub lies : Inbox → PacketKind → Bool
lies i kind.Data = is_some i.carried
lies i kind.Ack = i.acknowledged

-- a packet that lay at a link before the round and is not held is taken
abbrev pub part_packet : Inbox → List Hold → ℕ → PacketKind → ℕ → Part → Part
part_packet lay holds r k l p =
    if lies lay k && not (is_held holds r (end_at p.station.number l) k) then part_does (taking k l) p else p

-- the acknowledge and the byte that lay at a link
abbrev pub part_arrived : Inbox → List Hold → ℕ → Part → ℕ → Part
part_arrived lay holds r p l = part_packet lay holds r kind.Data l (part_packet lay holds r kind.Ack l p)

-- the acknowledge and the byte that lay at a link, among those that lay at the links of the node
abbrev pub part_arrivals : List Inbox → List Hold → ℕ → Part → ℕ → Part
part_arrivals before holds r p l = part_arrived (slice_index_or before l empty_inbox) holds r p l

-- a given number of runs of the node, each if it is enabled
abbrev pub part_runs : ℕ → Part → Part
part_runs zero p = p
part_runs (suc k) p = part_runs k (part_does Run p)

-- the first phase of a round: what lay at the links comes in
abbrev pub after_arrivals : List Hold → ℕ → Station → Part
after_arrivals holds r s = fold (part_arrivals s.inboxes holds r) (fresh s) four_links

-- the second phase: the bytes that wait are taken
abbrev pub after_takes : Part → Part
after_takes p = fold (λ p l. part_does (Take l) p) p four_links

-- the last phase, behind the runs: the next bytes are sent
abbrev pub after_sends : Part → Part
after_sends p = fold (λ p l. part_does (Send l) p) p four_links

-- the four phases of a round
abbrev pub part_of_round : List Hold → ℕ → ℕ → Station → Part
part_of_round holds slice r s = after_sends (part_runs slice (after_takes (after_arrivals holds r s)))

-- a sending lies in the inbox of the end that it goes to
abbrev pub delivered_to : Sending → Option Station → List Station → List Station
delivered_to x None stations = stations
delivered_to x (Some s) stations = slice_set stations x.to.node (with_packet x.to.link x.packet s)

-- a sending is delivered, if there is a node of its number
abbrev pub deliver : List Station → Sending → List Station
deliver stations x = delivered_to x (slice_get stations x.to.node) stations

-- the parts of a round, each by itself
abbrev pub parts : List Hold → ℕ → ℕ → List Station → List Part
parts holds slice r stations = map (part_of_round holds slice r) stations

-- the stations after the parts, with all sendings delivered
abbrev pub stations_after : List Part → List Station
stations_after ps = fold deliver (map (λ (p : Part). p.station) ps) (flat_map (λ (p : Part). p.outbox) ps)

-- the event that a node is asked for is enabled
abbrev pub is_asked_enabled : NodeState → Option NodeEvent → Bool
is_asked_enabled node None = false
is_asked_enabled node (Some e) = is_node_done (happens e node)

-- an act of a station is enabled
abbrev pub is_station_enabled : Station → Act → Bool
is_station_enabled s act = is_asked_enabled s.node (asked act s.inboxes)

-- no event of a link of a station is enabled
abbrev pub is_link_quiet : Station → ℕ → Bool
is_link_quiet s l =
    not (is_station_enabled s (Send l)) && not (is_station_enabled s (Data l)) && not (is_station_enabled s (Take l))
    && not (is_station_enabled s (Ack l))

-- no event of a station is enabled
abbrev pub is_station_quiet : Station → Bool
is_station_quiet s =
    not (is_station_enabled s Run) && is_link_quiet s 0 && is_link_quiet s 1 && is_link_quiet s 2 && is_link_quiet s 3

-- the net of stations
abbrev pub net_of : List Wire → List Station → NetState
net_of wires stations =
    record {
      nodes = map (λ (s : Station). s.node) stations;
      wires = wires;
      inboxes =
          map (λ (s : Station). s.inboxes) stations;
    }

-- stations have the numbers from this one on, in their order
abbrev pub AreNumbered : ℕ → List Station → Type 0
AreNumbered first stations = (n : ℕ) (s : Station) → slice_get stations n ≡ Some s → s.number ≡ first + n

-- each station is at its number, and its far ends are those of the wires
pub record ArePlaced (wires : List Wire) (stations : List Station) : Type 0 where
  pub numbered : (n : ℕ) (s : Station) → slice_get stations n ≡ Some s → s.number ≡ n
  pub far : (n : ℕ) (s : Station) → slice_get stations n ≡ Some s → (l : ℕ) → far_at s l ≡ far_end wires (end_at n l)
