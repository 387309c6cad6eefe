-- What an event of a worker leaves of the net and of the rings, and that it is so where nothing is emitted.
use Rattle.std.proofs.Common.{◌≡◌, ◌≢◌, ℕ, refl, sym, ap, List, [], ◌∷◌, ◌++◌, length, Bool, true, false, Ok, Err}
use Rattle.std.proofs.Common.{Option, Some, None, ◌⊎◌}
use Rattle.std.specs.Prelude.{All, slice_set, if◌then◌else◌}
use Rattle.std.proofs.lemmas.List.{append-nil}
use Rattle.tlink.specs.declared.event.Packet.{Packet}
use Rattle.tlink.specs.declared.event.Packet.TheVariants as packet
use Rattle.tlink.specs.declared.event.NodeEvent.{NodeEvent}
use Rattle.tlink.specs.declared.event.Emitted.{Emitted}
use Rattle.tlink.specs.declared.event.StepFault.{StepFault}
use Rattle.tlink.specs.Node.{NodeState}
use Rattle.tlink.specs.Events.{Answer, happens, node_left_by, is_node_enabled}
use Rattle.tplan.specs.declared.event.Event.{Event}
use Rattle.tplan.specs.declared.plan.End.{End}
use Rattle.tplan.specs.Wires.{end_at, same_end, far_end}
use Rattle.tnet.specs.Net.{NetState, inbox_at, node_at, with_node}
use Rattle.tnet.specs.declared.inbox.Inbox.{Inbox}
use Rattle.tnet.specs.Packets.{node_event, received, net_answer, net_happens, after_event}
use Rattle.tnet.specs.Sound.{IsSound}
use Rattle.tplan.proofs.Ends.{same_end-true, same_end-self, same_end-false, other_part}
use Rattle.tfree.specs.Merge.{Stamped}
use Rattle.tfree.specs.Stamps.{Clocks, stamps_at, with_stamps, stamp_taken, stamped_packet, ticked}
use Rattle.tfree.specs.Lists.{Sent, act_of, taken_packet}
use Rattle.tfree.proofs.RingContents.{Shows, with_stamp}
use Rattle.tfree.proofs.RingOwners.{put_now}

-- the event of a net
abbrev pub event_of : ℕ → NodeEvent → Event
event_of n ev = record { node = n; act = act_of ev }

-- the same with its stamp
abbrev pub stamped_event : ℕ → ℕ → ℕ → NodeEvent → Stamped
stamped_event stamp k n ev = record { stamp = stamp; worker = k; event = event_of n ev }

-- an event of a node with this answer is done in a net, by worker k with a stamp, where the packet that it takes has
-- another stamp
pub record Moved (net : NetState) (c : Clocks) (stamp k n : ℕ) (node : NodeState) (ev : NodeEvent) (taken : ℕ)
    (a : Answer) : Type 0 where
  pub after : NetState
  pub asked : node_event net n (act_of ev) ≡ Some ev
  pub done : after_event net (event_of n ev) ≡ Some after
  pub nodes : after.nodes ≡ slice_set net.nodes n (node_left_by node a)
  pub wires : after.wires ≡ net.wires
  pub workers : (ticked (stamped_event stamp k n ev) net c).workers ≡ slice_set c.workers k stamp
  pub rows : length (ticked (stamped_event stamp k n ev) net c).ends ≡ length c.ends
  pub four : All (λ r. length r ≡ 4) c.ends → All (λ r. length r ≡ 4) (ticked (stamped_event stamp k n ev) net c).ends
  pub stamped : stamp_taken c n (act_of ev) ≡ taken
  pub rings : (e : End) (about : List Sent)
      → Shows (inbox_at net e) (stamps_at c e) (taken_packet n ev e taken ++ about)
      → Shows (inbox_at after e) (stamps_at (ticked (stamped_event stamp k n ev) net c) e)
      (about ++ put_now (far_end net.wires e) e n stamp a)

-- an answer that emits nothing puts nothing
pub put_now-silent : (from : Option End) (e : End) (n stamp : ℕ) (node : NodeState) (em : Emitted) → em.packet ≡ None
    → put_now from e n stamp (Ok (node, em)) ≡ []
put_now-silent None e n stamp node em h = refl
put_now-silent (Some f) e n stamp node em h = rw h refl

pub put_now-none : (from : Option End) (e : End) (n stamp : ℕ) (f : StepFault) → put_now from e n stamp (Err f) ≡ []
put_now-none None e n stamp f = refl
put_now-none (Some g) e n stamp f = refl

-- an answer that emits on a link puts into the ring of that link
pub put_now-there : (e : End) (n stamp l : ℕ) (p : Packet) (node : NodeState) (em : Emitted) → em.packet ≡ Some (l, p)
    → put_now (Some (end_at n l)) e n stamp (Ok (node, em)) ≡ record { packet = p; stamp = stamp } ∷ []
put_now-there e n stamp l p node em h = rw (h, same_end-self (end_at n l)) refl

-- and into no other
pub put_now-elsewhere : (from : Option End) (e : End) (n stamp l : ℕ) (p : Packet) (node : NodeState) (em : Emitted)
    → em.packet ≡ Some (l, p) → (from ≡ Some (end_at n l) → ⊥) → put_now from e n stamp (Ok (node, em)) ≡ []
put_now-elsewhere None e n stamp l p node em h differ = refl
put_now-elsewhere (Some f) e n stamp l p node em h differ = rw h (by (same_end f (end_at n l)) refl)
  where
    by : (b : Bool) → same_end f (end_at n l) ≡ b
        → if◌then◌else◌ {A = List Sent} b (record { packet = p; stamp = stamp } ∷ []) [] ≡ []
    by false k = refl
    by true k = absurd (differ (ap (λ (x : End). Some x) (same_end-true f (end_at n l) k)))

pub other_end : (f e : End) → same_end f e ≡ false → (e.node ≢ f.node) ⊎ (e.link ≢ f.link)
other_end f e h = other_part f e (λ q. same_end-false f e h (sym q))

pub stamped_packet-some : (p : Packet) (stamp : ℕ) (far : End) (c : Clocks)
    → stamped_packet p stamp (Some far) c ≡ with_stamps far (with_stamp p stamp (stamps_at c far)) c
stamped_packet-some (packet.Data byte last) stamp far c = refl
stamped_packet-some packet.Ack stamp far c = refl

-- nothing is emitted, and what lies in the inboxes shows what is left in the rings
pub moved-none : (net : NetState) (c : Clocks) (stamp k n : ℕ) (node : NodeState) (ev : NodeEvent) (taken : ℕ)
    (boxes : List (List Inbox)) → received n (act_of ev) net ≡ record net { inboxes = boxes }
    → stamp_taken c n (act_of ev) ≡ taken → node_event net n (act_of ev) ≡ Some ev
    → ((e : End) (about : List Sent) → Shows (inbox_at net e) (stamps_at c e) (taken_packet n ev e taken ++ about)
    → Shows (inbox_at (record net { inboxes = boxes }) e) (stamps_at c e) about)
    → (node' : NodeState) (em : Emitted) → em.packet ≡ None
    → net_happens (event_of n ev) net ≡ net_answer n (act_of ev) net (Ok (node', em))
    → Moved net c stamp k n node ev taken (Ok (node', em))
moved-none net c stamp k n node ev taken boxes gone stamped same left node' em none h =
    record {
      after = with_node n node' (record net { inboxes = boxes });
      asked = same;
      done = rw (h, none, gone) refl;
      nodes = refl;
      wires = refl;
      workers = rw (h, none) refl;
      rows = rw (h, none) refl;
      four = rw (h, none) (λ f. f);
      stamped = stamped;
      rings = λ e about shows. rw (
        h,
        put_now-silent (far_end net.wires e) e n stamp node' em none,
        append-nil about,
        none,
      ) (left e about shows);
    }

pub answers : (net : NetState) (n : ℕ) (node : NodeState) (ev : NodeEvent) → node_at net n ≡ Some node
    → node_event net n (act_of ev) ≡ Some ev
    → net_happens (event_of n ev) net ≡ net_answer n (act_of ev) net (happens ev node)
unfolding net_happens
answers net n node ev there h = rw (h, there) refl

-- what worker and net know of an event that comes next
pub record IsNext (net : NetState) (c : Clocks) (n : ℕ) (node : NodeState) (ev : NodeEvent) : Type 0 where
  pub sound : IsSound net
  pub rows : length c.ends ≡ length net.nodes
  pub four : All (λ r. length r ≡ 4) c.ends
  pub there : node_at net n ≡ Some node
  pub enabled : is_node_enabled ev node ≡ true
