-- What holds of a worker between events: its nodes are where its events leave them, and each ring gave and got what
-- they took and put.
-- Source: own choice.
use Rattle.std.specs.Prelude.{ℕ, ◌≡◌, ◌+◌, ◌<◌, ◌≤◌, ◌⊎◌, IsTrue, List, [], ◌∷◌, ◌++◌, All, fold, length, Option}
use Rattle.std.specs.Prelude.{Bool, true, false, Some, None, is_some, slice_get, slice_index_or, slice_set}
use Rattle.std.specs.declared.alloc.Global.{Global}
use Rattle.tlink.specs.declared.event.NodeEvent.{NodeEvent}
use Rattle.tlink.specs.declared.event.NodeEvent.TheVariants.{Run, Send, Data, Take, Ack}
use Rattle.tlink.specs.Node.{NodeState}
use Rattle.tlink.specs.Events.{happens, node_left_by}
use Rattle.tword.specs.Limits.{most_nodes}
use Rattle.tplan.specs.declared.plan.End.{End}
use Rattle.tplan.specs.declared.plan.Wire.{Wire}
use Rattle.tplan.specs.Wires.{end_at, far_end}
use Rattle.tnet.specs.Net.{NetState, inbox_at}
use Rattle.tnet.specs.Sound.{IsSound}
use Rattle.tfree.specs.declared.stamp.Sent.{Sent}
use Rattle.tfree.specs.declared.stamp.OwnEvent.{OwnEvent}
use Rattle.tfree.specs.declared.stamp.StampedNote.{StampedNote}
use Rattle.tfree.specs.declared.steps.OwnLink.{OwnLink}
use Rattle.tfree.specs.Ids.{RingId}
use Rattle.tfree.specs.Lists.{AreDone, AreStamped, lying, puts, takes, takes_packet}
use Rattle.tfree.specs.Slots.{slot_at, map_slots, AreRowsOfFour}
use Rattle.tfree.specs.WorkerNotes.{told_at}
use Rattle.tfree.specs.Views.{InView, OutView, got_of, put_of, Share}
use Rattle.tfree.specs.Logs.{notes_at}

-- the nodes after an event, if its node is there
abbrev pub after_own : List NodeState → OwnEvent → List NodeState
after_own nodes d = by (slice_get nodes d.node)
  where
    by : Option NodeState → List NodeState
    by None = nodes
    by (Some node) = slice_set nodes d.node (node_left_by node (happens d.event node))

-- the nodes after some events
abbrev pub nodes_after : List NodeState → List OwnEvent → List NodeState
nodes_after nodes ds = fold after_own nodes ds

-- what lay at the opening at the end that a link leads to, and then what the events put there
abbrev pub put_to : NetState → End → List OwnEvent → List Sent
put_to opened f ds = by (far_end opened.wires f)
  where
    by : Option End → List Sent
    by None = []
    by (Some e) = lying (inbox_at opened e) ++ puts (Some f) e opened.nodes ds

-- the stamp of the last event, and 0 before the first
abbrev pub last_stamp : ℕ → List OwnEvent → ℕ
last_stamp last [] = last
last_stamp last (d ∷ ds) = last_stamp d.stamp ds

-- what one event told, and then the rest
abbrev pub kept_rest : List Wire → OwnEvent → Option NodeState → (NodeState → List StampedNote) → List StampedNote
kept_rest wires d None rest = []
kept_rest wires d (Some node) rest = notes_at d.stamp (told_at wires d.node d.event node) ++ rest node

-- what events told, each note with the stamp of its event
abbrev pub kept_notes : List Wire → List NodeState → List OwnEvent → List StampedNote
kept_notes wires nodes [] = []
kept_notes wires nodes (d ∷ ds) =
    kept_rest wires d (slice_get nodes d.node)
    (λ node. kept_notes wires (slice_set nodes d.node (node_left_by node (happens d.event node))) ds)

-- a node is one of the worker's
abbrev pub IsMine : Share → ℕ → Type 0
IsMine s n = (s.first ≤ n) × (n < s.first + s.owned)

-- the end of a link of the worker's i-th node
abbrev pub own_end : Share → ℕ → ℕ → End
own_end s i l = end_at (s.first + i) l

-- each link with a wire has a ring to take from and one to put into, and where both ends of a wire are the worker's,
-- they are ends of one ring
pub record IsShare (s : Share) : Type 0 where
  pub sound : IsSound s.opened
  pub few : length s.opened.nodes ≤ most_nodes
  pub within : s.first + s.owned ≤ length s.opened.nodes
  pub ins_are : AreRowsOfFour s.owned s.ins
  pub outs_are : AreRowsOfFour s.owned s.outs
  pub wired_in : (i l : ℕ) → i < s.owned → l < 4
      → is_some (slot_at s.ins i l) ≡ is_some (far_end s.opened.wires (own_end s i l))
  pub wired_out : (i l : ℕ) → i < s.owned → l < 4
      → is_some (slot_at s.outs i l) ≡ is_some (far_end s.opened.wires (own_end s i l))
  pub own : (i l j k : ℕ) → i < s.owned → l < 4 → j < s.owned → k < 4
      → far_end s.opened.wires (own_end s i l) ≡ Some (own_end s j k)
      → slot_at s.ins i l ≡ slot_at s.outs j k

-- the link of an event, and 0 for a run
abbrev pub event_link : NodeEvent → ℕ
event_link Run = 0
event_link (Send l) = l
event_link (Data l byte last) = l
event_link (Take l) = l
event_link (Ack l) = l

-- what a worker keeps
pub record Kept (s : Share) (nodes : List NodeState) (clock : ℕ) (ins : List (List (Option InView)))
    (outs : List (List (Option OutView))) (events : List OwnEvent) (told : List StampedNote) : Type 0 where
  pub counted : length nodes ≡ s.owned
  -- the events of the worker were enabled one after another, and left its nodes as they are
  pub done : AreDone s.opened.nodes events (nodes_after s.opened.nodes events)
  pub left : (i : ℕ) → i < s.owned → slice_get (nodes_after s.opened.nodes events) (s.first + i) ≡ slice_get nodes i
  pub mine : All (λ d. IsMine s d.node) events
  pub small : All (λ d. event_link d.event < 4) events
  -- what was taken from each ring, and what was put into it, is what the events took and put
  pub got : (i l : ℕ) → i < s.owned → l < 4
      → got_of (slot_at ins i l) ≡ takes (own_end s i l) events
  pub put : (i l : ℕ) → i < s.owned → l < 4
      → put_of (slot_at outs i l) ≡ put_to s.opened (own_end s i l) events
  pub clock_is : clock ≡ last_stamp 0 events
  pub stamped : AreStamped 0 events
  pub unstamped : All (λ d. IsTrue (takes_packet d.event) ⊎ (d.taken ≡ 0)) events
  pub told_is : told ≡ kept_notes s.opened.wires s.opened.nodes events

-- the identities of the rings
abbrev pub in_ids : List (List (Option InView)) → List (List (Option (RingId Global)))
in_ids rows = map_slots (λ (v : InView). v.id) rows

abbrev pub out_ids : List (List (Option OutView)) → List (List (Option (RingId Global)))
out_ids rows = map_slots (λ (v : OutView). v.id) rows

-- a share by its parts
abbrev pub share_with : (number count first owned : ℕ) → NetState → List (List (Option InView))
    → List (List (Option OutView)) → Share
share_with number count first owned opened ins outs =
    record {
      number = number;
      count = count;
      first = first;
      owned = owned;
      opened = opened;
      ins = in_ids ins;
      outs =
          out_ids outs;
    }

-- an end as a link of one of the worker's own nodes, if it is one
pub record IsOwnLink (s : Share) (far : Option End) (own : Option OwnLink) : Type 0 where
  pub there : (q : OwnLink) → own ≡ Some q → (far ≡ Some (own_end s q.node q.link)) × (q.node < s.owned) × (q.link < 4)
  pub none : own ≡ None → (f : End) → far ≡ Some f → IsMine s f.node → ⊥

-- what a table says of a link
abbrev pub flag_at : List (List Bool) → (node link : ℕ) → Bool
flag_at rows node link = slice_index_or (slice_index_or rows node []) link false

-- a table in which what is said of a link is set
abbrev pub with_flag : (node link : ℕ) → Bool → List (List Bool) → List (List Bool)
with_flag node link b rows = slice_set rows node (slice_set (slice_index_or rows node []) link b)

-- a table that says that packets may lie at this link, if there is one
abbrev pub expecting : Option OwnLink → List (List Bool) → List (List Bool)
expecting None rows = rows
expecting (Some q) rows = with_flag q.node q.link true rows

-- where a table says that no packet may lie, the worker has taken all that it put in itself
pub record AreEmptied (s : Share) (may_lie : List (List Bool)) (ins : List (List (Option InView)))
    (outs : List (List (Option OutView))) : Type 0 where
  pub rows : AreRowsOfFour most_nodes may_lie
  pub all : (i l j k : ℕ) → i < s.owned → l < 4 → j < s.owned → k < 4 → flag_at may_lie i l ≡ false
      → far_end s.opened.wires (own_end s i l) ≡ Some (own_end s j k)
      → got_of (slot_at ins i l) ≡ put_of (slot_at outs j k)
