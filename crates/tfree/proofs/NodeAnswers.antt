-- What the answer of a node to an event emits and tells.
use Rattle.std.proofs.Common.{◌≡◌, ℕ, refl, List, [], Bool, true, false, Ok, Err, Option, Some, None, ◌⊎◌, inl, inr, ap}
use Rattle.std.specs.Prelude.{⊤, if◌then◌else◌, ◌&&◌, ◌==◌, nat_lt}
use Rattle.tword.specs.declared.breaks.Break.{Break}
use Rattle.tproc.specs.declared.offer.Offer.{Offer}
use Rattle.tlink.specs.declared.counts.Arrival.{Arrival}
use Rattle.tlink.specs.declared.counts.Counts.{Counts}
use Rattle.tlink.specs.declared.event.Packet.{Packet}
use Rattle.tlink.specs.declared.event.Packet.TheVariants as packet
use Rattle.tlink.specs.declared.event.NodeEvent.{NodeEvent}
use Rattle.tlink.specs.declared.event.NodeEvent.TheVariants.{Run, Send, Data, Take, Ack}
use Rattle.tlink.specs.declared.event.Mark.TheVariants.{Nothing, Halted}
use Rattle.tlink.specs.declared.event.StepFault.TheVariants.{NotEnabled, Frozen}
use Rattle.tlink.specs.Roles.{has_room, is_full}
use Rattle.tlink.specs.Node.{NodeState, counts_at, output_at, input_at, is_wired}
use Rattle.tlink.specs.Events.{Answer, happens, unless_frozen, emitting, after_send, after_take, take_marked}
use Rattle.tlink.specs.Events.{node_left_by, node_answered}
use Rattle.tplan.specs.declared.plan.End.{End}
use Rattle.tplan.specs.declared.plan.Wire.{Wire}
use Rattle.tplan.specs.Wires.{far_ends}
use Rattle.tnet.specs.FarEnds.{far_in_row, IsRow}
use Rattle.tnet.specs.Stations.{mark_note, answer_note, note_of, listed}
use Rattle.tnet.proofs.AnswerKinds.{Brings, Runs, data_brings, ack_brings, run_runs, note_by_far}
use Rattle.tfree.specs.Lists.{event_taking}
use Rattle.tfree.specs.WorkerNotes.{told_at}
use Rattle.tfree.specs.Logs.{IsActOf}

-- an answer emits on this link, if it emits at all
abbrev pub EmitsOn : ℕ → Answer → Type 0
EmitsOn l (Ok (node, em)) = (em.packet ≡ None) ⊎ ((p : Packet) × (em.packet ≡ Some (l, p)))
EmitsOn l (Err f) = ⊤

-- an answer emits nothing
abbrev pub EmitsNone : Answer → Type 0
EmitsNone (Ok (node, em)) = em.packet ≡ None
EmitsNone (Err f) = ⊤

unless_on : (l : ℕ) (b : Option Break) (a : Answer) → EmitsOn l a → EmitsOn l (unless_frozen b a)
unless_on l None a h = h
unless_on l (Some b) a h = tt

send_on : (l : ℕ) (o : Option Offer) (c : Counts) (n : NodeState) → EmitsOn l (after_send l o c n)
send_on l None c n = tt
send_on l (Some o) c n = by (is_wired n l && (c.acked == c.sent) && nat_lt c.sent o.length) _ _
  where
    by : (t : Bool) (p : Packet) (m : NodeState) → EmitsOn l (if t then emitting l p Nothing m else Err NotEnabled)
    by true p m = inr (p, refl)
    by false p m = tt

marked_on : (l byte : ℕ) (m f : Bool) (o : Offer) (c : Counts) (n : NodeState)
    → EmitsOn l (take_marked l m f byte o c n)
marked_on l byte true true o c n = inr (packet.Ack, refl)
marked_on l byte false false o c n = inr (packet.Ack, refl)
marked_on l byte true false o c n = tt
marked_on l byte false true o c n = tt

take_on : (l : ℕ) (a : Option Arrival) (o : Option Offer) (c : Counts) (n : NodeState)
    → EmitsOn l (after_take l a o c n)
take_on l None o c n = tt
take_on l (Some a) None c n = tt
take_on l (Some a) (Some o) c n = by (has_room n.role o c)
  where
    by : (t : Bool)
        → EmitsOn l (if t then take_marked l a.last (is_full n.role a o c) a.byte o c n else Err NotEnabled)
    by true = marked_on l a.byte a.last (is_full n.role a o c) o c n
    by false = tt

happens-send_on : (l : ℕ) (n : NodeState) → EmitsOn l (happens (Send l) n)
unfolding happens
happens-send_on l n = unless_on l n.broken _ (send_on l (output_at n l) (counts_at n l) n)

happens-take_on : (l : ℕ) (n : NodeState) → EmitsOn l (happens (Take l) n)
unfolding happens
happens-take_on l n = unless_on l n.broken _ (take_on l (counts_at n l).arrived (input_at n l) (counts_at n l) n)

runs_none : (a : Answer) → Runs a → EmitsNone a
runs_none (Ok (n, e)) h = h.0
runs_none (Err f) h = tt

brings_none : (n : NodeState) (a : Answer) → Brings n a → EmitsNone a
brings_none n (Ok (m, e)) h = h.0
brings_none n (Err f) h = tt

none_on : (l : ℕ) (a : Answer) → EmitsNone a → EmitsOn l a
none_on l (Ok (m, e)) h = inl h
none_on l (Err f) h = tt

-- a run emits nothing
pub run_emits : (n : NodeState) → EmitsNone (happens Run n)
run_emits n = runs_none (happens Run n) (run_runs n)

-- nor does an event that takes a packet
pub taking_emits : (l : ℕ) (p : Packet) (n : NodeState) → EmitsNone (happens (event_taking l p) n)
taking_emits l (packet.Data byte last) n = brings_none n (happens (Data l byte last) n) (data_brings l byte last n)
taking_emits l packet.Ack n = brings_none n (happens (Ack l) n) (ack_brings l n)

-- each other event emits on its own link alone
pub act_emits : (l : ℕ) (e : NodeEvent) (n : NodeState) → IsActOf l e → EmitsOn l (happens e n)
act_emits l Run n h = none_on l (happens Run n) (run_emits n)
act_emits l (Send k) n h = rw h (happens-send_on l n)
act_emits l (Take k) n h = rw h (happens-take_on l n)
act_emits l (Data k byte last) n h = absurd h
act_emits l (Ack k) n h = absurd h

-- an event that takes a packet tells nothing
brings_told : (k : ℕ) (far : ℕ → Option End) (input : Option Offer) (n : NodeState) (a : Answer) → Brings n a
    → answer_note k far input (node_answered a) (node_left_by n a) ≡ None
brings_told k far input n (Ok (m, e)) h = rw h.1 refl
brings_told k far input n (Err NotEnabled) h = refl
brings_told k far input n (Err (Frozen b)) h = absurd h

pub taking_told : (wires : List Wire) (k l : ℕ) (p : Packet) (n : NodeState) → told_at wires k (event_taking l p) n ≡ []
taking_told wires k l (packet.Data byte last) n =
    ap listed (brings_told k (far_ends wires k) None n (happens (Data l byte last) n) (data_brings l byte last n))
taking_told wires k l packet.Ack n =
    ap listed (brings_told k (far_ends wires k) None n (happens (Ack l) n) (ack_brings l n))

-- what an event was told to tell, by a row of far ends
pub act_tells : (wires : List Wire) (k : ℕ) (far : List (Option End)) (e : NodeEvent) (n : NodeState)
    → IsRow wires k far → listed (note_of k (far_in_row far) e n) ≡ told_at wires k e n
act_tells wires k far e n h = ap listed (note_by_far k (far_in_row far) (far_ends wires k) e n h)

-- a run tells the same whatever its far ends
run_alike : (k : ℕ) (f g : ℕ → Option End) (n : NodeState) (a : Answer) → Runs a
    → answer_note k f None (node_answered a) (node_left_by n a)
    ≡ answer_note k g None (node_answered a) (node_left_by n a)
run_alike k f g n (Err NotEnabled) h = refl
run_alike k f g n (Err (Frozen b)) h = refl
run_alike k f g n (Ok (m, e)) h = by h.1
  where
    by : ((e.mark ≡ Nothing) ⊎ ((e.mark ≡ Halted) × (happens Run m ≡ Err NotEnabled)))
        → mark_note k f None e.mark m ≡ mark_note k g None e.mark m
    by (inl q) = rw q refl
    by (inr q) = rw q.0 refl

pub run_told : (wires : List Wire) (k : ℕ) (far : List (Option End)) (n : NodeState)
    → listed (note_of k (far_in_row far) Run n) ≡ told_at wires k Run n
run_told wires k far n = ap listed (run_alike k (far_in_row far) (far_ends wires k) n (happens Run n) (run_runs n))
