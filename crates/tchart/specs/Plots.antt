-- Where the marks of a run stand: in the column of their node, and in rows by causes alone.
-- Each node counts its rows as a clock. What it shows stands one row below what it did or knows of before. A packet
-- carries the row of its sender, and where the packet comes in, the node is at that row at least.
-- Source: own choice; L. Lamport, Time, Clocks, and the Ordering of Events in a Distributed System (1978).
use Rattle.std.specs.Prelude.{ℕ, zero, suc, ◌+◌, ◌*◌, max, min, Bool, true, false, ◌==◌, nat_le, List, [], ◌∷◌, ◌++◌}
use Rattle.std.specs.Prelude.{Option, Some, None, is_none, is_some, replicate, slice_index_or, slice_set}
use Rattle.std.specs.Prelude.{if◌then◌else◌}
use Rattle.tword.specs.declared.breaks.Break.{Break}
use Rattle.tword.specs.Limits.{most_nodes}
use Rattle.tplan.specs.declared.plan.End.{End}
use Rattle.tproc.specs.declared.waiter.Waiter.{Waiter}
use Rattle.tlink.specs.Node.{NodeState}
use Rattle.tplan.specs.Wires.{end_at}
use Rattle.tfiles.specs.Outputs.{counted}
use Rattle.tchart.specs.declared.shown.Message.{Message}
use Rattle.tchart.specs.declared.shown.Shown.{Shown}
use Rattle.tchart.specs.declared.shown.Shown.TheVariants as shown
use Rattle.tchart.specs.declared.marks.Bar.{Bar}
use Rattle.tchart.specs.declared.marks.Lane.{Lane}
use Rattle.tchart.specs.declared.marks.Mark.{Mark}
use Rattle.tchart.specs.declared.marks.Mark.TheVariants as mark
use Rattle.tchart.specs.declared.marks.Pause.{Pause}
use Rattle.tchart.specs.declared.marks.Track.{Track}
use Rattle.tchart.specs.declared.marks.Way.{Way}
use Rattle.tchart.specs.Marks.{last_row}
use Rattle.tchart.specs.Waits.{need_of, reason_at}

-- how many rows are drawn
abbrev pub most_rows : ℕ
most_rows = 2000

-- how many lanes for pauses a node has
abbrev pub most_lanes : ℕ
most_lanes = 6

-- what is known so far of the nodes, of the lanes, six a node, and of the ends, four a node, the marks that are drawn,
-- the lowest row, and whether a pause had no lane
pub record PlotState : Type 0 where
  pub tracks : List Track
  pub lanes : List Lane
  pub ways : List Way
  pub marks : List Mark
  pub rows : ℕ
  pub is_crowded : Bool

-- a lane without a pause, a node that did nothing yet, and an end at which nothing came
abbrev pub no_pause : Lane
no_pause = record { pause = None }

abbrev pub fresh_track : Track
fresh_track = record { row = 0; bar = None }

abbrev pub fresh_way : Way
fresh_way = record { begun = record { row = 0; number = 0 }; sent_row = 0; ack_row = 0 }

-- a node
abbrev pub track_at : PlotState → ℕ → Track
track_at p n = slice_index_or p.tracks n fresh_track

abbrev pub with_track : ℕ → Track → PlotState → PlotState
with_track n t p = record p { tracks = slice_set p.tracks n t; rows = max p.rows t.row }

-- a lane
abbrev pub lane_place : (n lane : ℕ) → ℕ
lane_place n lane = 6 * n + lane

abbrev pub lane_in : PlotState → (place : ℕ) → Lane
lane_in p place = slice_index_or p.lanes place no_pause

abbrev pub lane_at : PlotState → (n lane : ℕ) → Option Pause
lane_at p n lane = (lane_in p (lane_place n lane)).pause

abbrev pub with_lane : (n lane : ℕ) → Option Pause → PlotState → PlotState
with_lane n lane q p = record p { lanes = slice_set p.lanes (lane_place n lane) (record { pause = q }) }

-- an end
abbrev pub place_of : End → ℕ
place_of e = 4 * e.node + e.link

abbrev pub way_at : PlotState → End → Way
way_at p e = slice_index_or p.ways (place_of e) fresh_way

abbrev pub with_way : End → Way → PlotState → PlotState
with_way e w p = record p { ways = slice_set p.ways (place_of e) w }

-- a mark is drawn, unless something of it stands below the last row that is drawn
abbrev pub drawn : Mark → PlotState → PlotState
drawn m p = if nat_le (last_row m) most_rows then record p { marks = p.marks ++ m ∷ [] } else p

-- the row below one; all rows below the last one that is drawn are one
abbrev pub below : ℕ → ℕ
below row = if nat_le row most_rows then row + 1 else row

-- before the first event
abbrev pub opening : PlotState
opening =
    record {
      tracks = replicate most_nodes fresh_track;
      lanes = replicate (6 * most_nodes) no_pause;
      ways = replicate (4 * most_nodes) fresh_way;
      marks = [];
      rows = 0;
      is_crowded = false;
    }

-- ---- bars

-- the last bar of a node is drawn, if it has one
abbrev pub with_bar : ℕ → Option Bar → PlotState → PlotState
with_bar n (Some b) p = drawn (mark.Bar n b) p
with_bar n None p = p

abbrev pub closed : ℕ → PlotState → PlotState
closed n p = with_bar n (track_at p n).bar p

-- a node is at the row below, with this bar; its last one is drawn
abbrev pub stepped : ℕ → Option Bar → PlotState → PlotState
stepped n bar p = with_track n (record { row = below (track_at p n).row; bar = bar }) (closed n p)

-- a bar of one event
abbrev pub one_event : ℕ → ℕ → Option ℕ → Bar
one_event row k process = record { row = row; first = k; last = k; count = 1; process = process }

-- a bar with one event more
abbrev pub longer : ℕ → Bar → Bar
longer k b = record b { last = k; count = counted (b.count + 1) }

-- an event of a node that is at a row goes into the last bar, if that stands there, else into a new one
abbrev pub ran_at : ℕ → ℕ → Option ℕ → ℕ → Option Bar → PlotState → PlotState
ran_at n k process row (Some b) p =
    if b.row == row then with_track n (record { row = row; bar = Some (longer k b) }) p
    else stepped n (Some (one_event (below row) k process)) p
ran_at n k process row None p = stepped n (Some (one_event (below row) k process)) p

abbrev pub ran : ℕ → ℕ → Option ℕ → PlotState → PlotState
ran n k process p = ran_at n k process (track_at p n).row (track_at p n).bar p

-- a processor halts, if it does
abbrev pub halted : ℕ → ℕ → Bool → PlotState → PlotState
halted n k halts p =
    if halts then drawn (mark.Halt n (below (track_at p n).row) k) (stepped n None p) else p

-- a node is frozen
abbrev pub frozen : ℕ → ℕ → Break → PlotState → PlotState
frozen n k broken p = drawn (mark.Freeze n (below (track_at p n).row) k broken) (stepped n None p)

-- ---- pauses

-- the first of some lanes of a node that is free, from one on
abbrev pub free_lane : (left : ℕ) → PlotState → (n lane : ℕ) → Option ℕ
free_lane zero p n lane = None
free_lane (suc left) p n lane = if is_none (lane_at p n lane) then Some lane else free_lane left p n (lane + 1)

-- a pause has a lane, if one is free
abbrev pub in_lane : ℕ → Option ℕ → Pause → PlotState → PlotState
in_lane n (Some lane) q p = with_lane n lane (Some q) p
in_lane n None q p = record p { is_crowded = true }

-- something stands in a row
abbrev pub reaching : ℕ → PlotState → PlotState
reaching row p = record p { rows = max p.rows row }

-- a process of a node waits from the row below on, if one does
abbrev pub paused : ℕ → ℕ → Option Waiter → PlotState → PlotState
paused n k (Some w) p =
    in_lane n (free_lane most_lanes p n 0)
    (record { from = below (track_at p n).row; first = k; process = w.process; need = need_of w.reason })
    (reaching (below (track_at p n).row) p)
paused n k None p = p

-- a pause of a lane is drawn down to a row, if it reaches there
abbrev pub with_pause : (n lane : ℕ) → Pause → ℕ → Option ℕ → PlotState → PlotState
with_pause n lane q to last p = if nat_le q.from to then drawn (mark.Pause n lane q to last) p else p

-- the pause of a lane is drawn down to a row, or to the last row that is drawn, and the lane is free; by its event, if
-- there is one, the process waits no more
abbrev pub freed : (n : ℕ) → ℕ → Option ℕ → (lane : ℕ) → Option Pause → PlotState → PlotState
freed n to last lane (Some q) p = with_lane n lane None (with_pause n lane q (min to most_rows) last p)
freed n to last lane None p = p

-- a process waits yet behind an event of its node; where a lane is free, nothing is over
abbrev pub goes_on : Option Pause → Option NodeState → Bool
goes_on (Some q) s = is_some (reason_at q.process s)
goes_on None s = true

-- the pause of a lane is over with an event of this number, if it is
abbrev pub lane_over : (n k : ℕ) → Option NodeState → (lane : ℕ) → PlotState → PlotState
lane_over n k s lane p =
    if goes_on (lane_at p n lane) s then p else freed n (track_at p n).row (Some k) lane (lane_at p n lane) p

-- those of the lanes below this one
abbrev pub over : (lane : ℕ) → (n k : ℕ) → Option NodeState → PlotState → PlotState
over zero n k s p = p
over (suc lane) n k s p = lane_over n k s lane (over lane n k s p)

-- at the end those of the lanes below this one are drawn, down to a row
abbrev pub lanes_ended : (lane : ℕ) → (n : ℕ) → ℕ → PlotState → PlotState
lanes_ended zero n to p = p
lanes_ended (suc lane) n to p =
    freed n to None lane (lane_at (lanes_ended lane n to p) n lane) (lanes_ended lane n to p)

-- ---- packets

-- a node is at the row below
abbrev pub next : ℕ → PlotState → PlotState
next n p = with_track n (record (track_at p n) { row = below (track_at p n).row }) p

-- a node is at a row at least
abbrev pub risen : ℕ → ℕ → PlotState → PlotState
risen n row p = with_track n (record (track_at p n) { row = max (track_at p n).row row }) p

-- a message begins
abbrev pub begun : ℕ → ℕ → ℕ → Option ℕ → PlotState → PlotState
begun n k l process p =
    drawn (mark.Begin n (below (track_at p n).row) k l process) (next n p)

-- a byte goes to an end, from a sender at this row
abbrev pub first_to : Option End → ℕ → ℕ → PlotState → PlotState
first_to (Some e) k row p =
    with_way e (record (way_at p e) { begun = record { row = row; number = k }; sent_row = row }) p
first_to None k row p = p

abbrev pub data_to : Option End → ℕ → PlotState → PlotState
data_to (Some e) row p = with_way e (record (way_at p e) { sent_row = row }) p
data_to None row p = p

-- a byte is sent, the first of its message or another
abbrev pub sent : ℕ → ℕ → ℕ → Option End → Bool → Option ℕ → PlotState → PlotState
sent n k l to first process p =
    if first then first_to to k (below (track_at p n).row) (begun n k l process p)
    else data_to to (track_at p n).row p

-- a message is complete, if one is
abbrev pub completed : ℕ → ℕ → ℕ → Option Message → PlotState → PlotState
completed n k l (Some m) p =
    drawn (mark.Message (end_at n l) (way_at p (end_at n l)).begun (below (track_at p n).row) k m) (next n p)
completed n k l None p = p

-- an acknowledge goes to an end, from a receiver at this row
abbrev pub ack_to : Option End → ℕ → PlotState → PlotState
ack_to (Some e) row p = with_way e (record (way_at p e) { ack_row = row }) p
ack_to None row p = p

-- a receiver acknowledges a byte
abbrev pub acknowledges : ℕ → Option End → PlotState → PlotState
acknowledges n from p = ack_to from (track_at p n).row p

-- a receiver takes a byte, which completes a message or not
abbrev pub taken : ℕ → ℕ → ℕ → Option End → Option Message → PlotState → PlotState
taken n k l from message p = acknowledges n from (completed n k l message p)

-- ---- events

-- what an event of this number of a node did is laid out
abbrev pub laid : ℕ → ℕ → Shown → PlotState → PlotState
laid n k shown.Nothing p = p
laid n k (shown.Run process halts waiter) p = halted n k halts (paused n k waiter (ran n k process p))
laid n k (shown.Sent l to first process) p = sent n k l to first process p
laid n k (shown.Came l) p = risen n (way_at p (end_at n l)).sent_row p
laid n k (shown.Taken l from message) p = taken n k l from message p
laid n k (shown.Acknowledged l) p = risen n (way_at p (end_at n l)).ack_row p
laid n k (shown.Frozen broken) p = frozen n k broken p

-- at the end the last bars of the nodes below this one and their pauses are drawn, down to a row
abbrev pub ended : (nodes : ℕ) → ℕ → PlotState → PlotState
ended zero to p = p
ended (suc n) to p = lanes_ended most_lanes n to (closed n (ended n to p))
