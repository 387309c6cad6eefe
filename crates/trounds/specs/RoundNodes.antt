-- Round nodes, each with its inboxes and its outbox: the station of one, its part of a round so far, and its room.
-- Source: own choice, how rounds are shared out.
use Rattle.std.specs.Prelude.{◌≡◌, ℕ, ◌+◌, ◌<◌, ◌≤◌, ◌++◌, length, List, [], map, vec_len, vec_capacity, slice_index_or}
use Rattle.std.specs.Prelude.{IfSome, false, All, ◌*◌, ◌^◌, Option, option_map}
use Rattle.tnet.specs.Answers.{KeepsInput}
use Rattle.tword.specs.Limits.{most_nodes}
use Rattle.tproc.specs.declared.offer.Offer.{Offer}
use Rattle.tlink.specs.Node.{due_at}
use Rattle.tplan.specs.declared.event.Act.{Act}
use Rattle.tplan.specs.declared.event.Act.TheVariants.{Run, Take}
use Rattle.tplan.specs.declared.event.Event.{Event}
use Rattle.tplan.specs.declared.event.Note.{Note}
use Rattle.trounds.specs.declared.account.Account.{Account}
use Rattle.trounds.specs.declared.round_node.Sending.{Sending}
use Rattle.trounds.specs.declared.round_node.RoundNode.{RoundNode}
use Rattle.trounds.specs.declared.rule.RoundRule.{RoundRule}
use Rattle.trounds.specs.declared.report.Ending.{Ending}
use Rattle.trounds.specs.Rows.{in_rows}
use Rattle.trounds.specs.Rounds.{Rounds}
use Rattle.std.specs.List.{flat_map}
use Rattle.tplan.specs.declared.event.Hold.{Hold}
use Rattle.tnet.specs.declared.parts.NetParts.{NetParts}
use Rattle.tnet.specs.Net.{NetState}
use Rattle.trounds.specs.Parts.{Station, Part, fresh, act_link, part_does, part_of_round, parts, stations_after, net_of}
use Rattle.trounds.specs.Parts.{AreNumbered, ArePlaced}

-- the station of a round node
abbrev pub station_of : RoundNode → Station
station_of r = record { number = r.number; node = r.node; inboxes = r.inboxes; far = r.far }

-- the part of a round that a round node has done so far
abbrev pub part_so_far : RoundNode → Part
part_so_far r =
    record { station = station_of r; outbox = r.outbox.items; events = in_rows r.events.items; notes = r.notes.items }

-- what a round node has sent, done and told
abbrev pub told_of : RoundNode → List Sending × List Event × List Note
told_of r = (r.outbox.items, in_rows r.events.items, r.notes.items)

-- the stations of round nodes
abbrev pub stations_of : List RoundNode → List Station
stations_of round_nodes = map station_of round_nodes

-- the parts of a round that round nodes have done so far
abbrev pub parts_so_far : List RoundNode → List Part
parts_so_far round_nodes = map part_so_far round_nodes

-- the part of a station in a round by this rule
abbrev pub part_by : RoundRule → Station → Part
part_by rule s = part_of_round rule.holds.now rule.slice rule.round s

-- the parts of stations in a round by this rule, each by itself
abbrev pub parts_by : RoundRule → List Station → List Part
parts_by rule stations = parts rule.holds.now rule.slice rule.round stations

-- a round node has room for e rows of events, n notes and m sendings
pub record HasListRoom (e n m : ℕ) (r : RoundNode) : Type 0 where
  pub events : vec_len r.events + e ≤ vec_capacity r.events
  pub notes : vec_len r.notes + n ≤ vec_capacity r.notes
  pub outbox : vec_len r.outbox + m ≤ vec_capacity r.outbox

-- a round node has written down no more than e rows of events, n notes and m sendings
pub record Spends (e n m : ℕ) (r r' : RoundNode) : Type 0 where
  pub events : vec_len r'.events ≤ vec_len r.events + e
  pub event_room : vec_capacity r'.events ≡ vec_capacity r.events
  pub notes : vec_len r'.notes ≤ vec_len r.notes + n
  pub note_room : vec_capacity r'.notes ≡ vec_capacity r.notes
  pub outbox : vec_len r'.outbox ≤ vec_len r.outbox + m
  pub outbox_room : vec_capacity r'.outbox ≡ vec_capacity r.outbox

-- the room for the message of a link
abbrev pub spare_room : RoundNode → ℕ → ℕ
spare_room r l = slice_index_or (map (λ v. vec_capacity v) r.spare) l 0

-- room for the message that the next byte at a link may complete
abbrev pub HasMessageRoom : RoundNode → ℕ → Type 0
HasMessageRoom r l = IfSome (due_at r.node l) (λ (o : Offer). o.length ≤ spare_room r l)

-- room for the messages of the links from one on
abbrev pub HasBytes : ℕ → RoundNode → Type 0
HasBytes from r = (l : ℕ) → from ≤ l → l < 4 → HasMessageRoom r l

-- room for the message of an act
abbrev pub HasMessage : Act → RoundNode → Type 0
HasMessage act r = (l : ℕ) → act ≡ Take l → HasMessageRoom r l

-- how many sendings an act may send: a run sends none
abbrev pub sendings_of : Act → ℕ
sendings_of Run = 0
sendings_of _ = 1

-- an act of one of the four links may be done: there is room for all that it may write down
pub record CanAct (act : Act) (r : RoundNode) : Type 0 where
  pub link : act_link act < 4
  pub room : HasListRoom 1 1 (sendings_of act) r
  pub bytes : HasMessage act r

-- an act is done if it is enabled, and takes no room but its own
pub record Acts (act : Act) (r r' : RoundNode) : Type 0 where
  pub part : part_so_far r' ≡ part_does act (part_so_far r)
  pub spends : Spends 1 1 (sendings_of act) r r'
  pub messages : (l : ℕ) → KeepsInput act l → HasMessageRoom r l → HasMessageRoom r' l

-- a round node is ready for a round; one that rests needs no room
pub record IsReady (r : RoundNode) : Type 0 where
  pub room : r.rests ≡ false → HasListRoom 17 17 16 r
  pub bytes : r.rests ≡ false → HasBytes 0 r
  pub is_fresh : part_so_far r ≡ fresh (station_of r)

-- round nodes from the first one of a worker on are ready for a round: each worker has `size` of them
pub record IsReadyFrom (worker size : ℕ) (round_nodes : List RoundNode) : Type 0 where
  pub workers : worker + length round_nodes < 2 ^ 64
  pub few : length round_nodes ≤ most_nodes
  pub numbered : AreNumbered (worker * size) (stations_of round_nodes)
  pub ready : All IsReady round_nodes

-- events behind those that are kept, if any are
abbrev pub with_more : List Event → Option (List Event) → Option (List Event)
with_more more events = option_map (λ es. es ++ more) events

-- a round is done: the parts by themselves, then their sendings; what was done and told is behind what was kept before
pub record Advances (holds : List Hold) (slice r : ℕ) (stations : List Station) (events : Option (List Event))
    (notes : List Note) (stations' : List Station) (events' : Option (List Event)) (notes' : List Note) : Type 0 where
  pub stations_are : stations' ≡ stations_after (parts holds slice r stations)
  pub events_are : events' ≡ with_more (flat_map (λ (p : Part). p.events) (parts holds slice r stations)) events
  pub notes_are : notes' ≡ notes ++ flat_map (λ (p : Part). p.notes) (parts holds slice r stations)

-- a round by this rule is done, and what it did and told is behind what an account had
abbrev pub AdvancesBy : RoundRule → List Station → Account → List Station → Account → Type 0
AdvancesBy rule stations a stations' a' =
    Advances rule.holds.now rule.slice rule.round stations a.events a.notes.items stations' a'.events
    a'.notes.items

-- rounds end after `count` of them, in this way, with this net and these notes; their events are behind those that
-- were kept before, if any are kept
pub record EndSo (x : Rounds) (ending : Ending) (count : ℕ) (net : NetState) (before events : Option (List Event))
    (notes : List Note) : Type 0 where
  pub done : List Event
  pub outcome_is : x ≡ record {
    ending = ending;
    count = count;
    progress =
        record { net = net; events = done; notes = notes };
  }
  pub events_are : events ≡ with_more done before

-- the pieces of a net have room for `count` nodes and for what lies at their links, and none of these is among them
pub record HasPlaces (count : ℕ) (p : NetParts) : Type 0 where
  pub few : count ≤ most_nodes
  pub no_nodes : p.nodes.items ≡ []
  pub no_boxes : p.inboxes.items ≡ []
  pub node_room : count ≤ vec_capacity p.nodes
  pub box_room : count ≤ vec_capacity p.inboxes

-- the nodes of a net, taken out of its pieces
pub record AreTakenOut (net : NetState) (round_nodes : List RoundNode) (p : NetParts) : Type 0 where
  pub same : net_of p.wires (stations_of round_nodes) ≡ net
  pub placed : ArePlaced p.wires (stations_of round_nodes)
  pub places : HasPlaces (length round_nodes) p
