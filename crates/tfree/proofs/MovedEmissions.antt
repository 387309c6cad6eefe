-- An event of a worker that takes no packet is done in the net: what it emits is put into its ring.
use Rattle.std.proofs.Common.{◌≡◌, ℕ, ◌<◌, refl, sym, ◌∙◌, subst, List, [], ◌++◌, length, get_or, length-set, Bool}
use Rattle.std.proofs.Common.{true, false, Ok, Err, Option, Some, None, arith}
use Rattle.std.specs.Prelude.{All}
use Rattle.std.proofs.lemmas.Bool.{both_ways}
use Rattle.std.proofs.lemmas.List.{append-nil}
use Rattle.std.proofs.lemmas.Option.{same_Some}
use Rattle.tlink.specs.declared.event.Packet.{Packet}
use Rattle.tlink.specs.declared.event.NodeEvent.{NodeEvent}
use Rattle.tlink.specs.declared.event.Emitted.{Emitted}
use Rattle.tlink.specs.declared.event.StepFault.TheVariants.{NotEnabled, Frozen}
use Rattle.tlink.specs.Node.{NodeState, frozen}
use Rattle.tlink.specs.Events.{Answer, happens, is_node_done}
use Rattle.tplan.specs.declared.plan.End.{End}
use Rattle.tplan.specs.Wires.{end_at, same_end, far_end}
use Rattle.tnet.specs.Net.{NetState, empty_inbox, inbox_at, with_inbox, node_at, with_node}
use Rattle.tnet.specs.Packets.{node_event, received, net_answer, net_happens}
use Rattle.tnet.specs.Stations.{put_in}
use Rattle.tnet.specs.Sound.{IsSound, IsEnd}
use Rattle.tnet.proofs.WireRooms.{HasPacketRoom, FindsRoom, finds_room}
use Rattle.tplan.proofs.Ends.{same_end-true, same_end-self}
use Rattle.tnet.proofs.OpenedWires.{wired_ends}
use Rattle.tfree.specs.Stamps.{Clocks, stamps_at, with_stamps, stamp_taken, ticked}
use Rattle.tfree.specs.Lists.{Sent, act_of, taken_packet}
use Rattle.tfree.proofs.RingContents.{Shows, with_stamp, shows-put}
use Rattle.tnet.proofs.Places.{placed-same, placed-other, placed-rows}
use Rattle.tfree.proofs.RingOwners.{put_now}
use Rattle.tfree.proofs.MovedNets.{event_of, stamped_event, Moved, IsNext, put_now-none, put_now-there}
use Rattle.tfree.proofs.MovedNets.{put_now-elsewhere, other_end, stamped_packet-some, moved-none, answers}

module _ (net : NetState) (c : Clocks) (stamp k n : ℕ) (node : NodeState) (ev : NodeEvent) (taken : ℕ)
    (there : node_at net n ≡ Some node)
    (free : (e : End) → taken_packet n ev e taken ≡ []) (still : received n (act_of ev) net ≡ net)
    (stamped : stamp_taken c n (act_of ev) ≡ taken) (same : node_event net n (act_of ev) ≡ Some ev) where
  -- a node freezes
  moved-frozen : (b : _) → net_happens (event_of n ev) net ≡ net_answer n (act_of ev) net (Err (Frozen b))
      → Moved net c stamp k n node ev taken (Err (Frozen b))
  moved-frozen b h =
      record {
        after = with_node n (frozen b node) net;
        asked = same;
        done = rw (h, there) refl;
        nodes = refl;
        wires = refl;
        workers = rw h refl;
        rows = rw h refl;
        four = rw h (λ f. f);
        stamped = stamped;
        rings = λ e about shows. rw (h, put_now-none (far_end net.wires e) e n stamp (Frozen b), append-nil about)
            (rw (free e) at shows);
      }

  -- nothing is emitted
  moved-silent : (node' : NodeState) (em : Emitted) → em.packet ≡ None
      → net_happens (event_of n ev) net ≡ net_answer n (act_of ev) net (Ok (node', em))
      → Moved net c stamp k n node ev taken (Ok (node', em))
  moved-silent node' em none h =
      moved-none net c stamp k n node ev taken net.inboxes still stamped same (λ e about shows. rw (free e) at shows)
      node' em none h

  -- a packet is emitted at an end without a wire
  moved-lost : (node' : NodeState) (em : Emitted) (l : ℕ) (p : Packet) → em.packet ≡ Some (l, p)
      → far_end net.wires (end_at n l) ≡ None → IsSound net
      → net_happens (event_of n ev) net ≡ net_answer n (act_of ev) net (Ok (node', em))
      → Moved net c stamp k n node ev taken (Ok (node', em))
  moved-lost node' em l p emits bare sound h =
      record {
        after = with_node n node' net;
        asked = same;
        done = rw (h, emits, still, bare) refl;
        nodes = refl;
        wires = refl;
        workers = rw (h, emits, bare) refl;
        rows = rw (h, emits, bare) refl;
        four = rw (h, emits, bare) (λ f. f);
        stamped = stamped;
        rings = λ e about shows. rw (
          h,
          put_now-elsewhere (far_end net.wires e) e n stamp l p node' em emits (nowhere e),
          append-nil about,
          emits,
          bare,
        ) (rw (free e) at shows);
      }
    where
      nowhere : (e : End) → far_end net.wires e ≡ Some (end_at n l) → ⊥
      nowhere e w = let f : None ≡ Some e = sym bare ∙ sound.wires.back e (end_at n l) w in cc

  module _ (node' : NodeState) (em : Emitted) (l : ℕ) (p : Packet) (far : End) (emits : em.packet ≡ Some (l, p))
      (wire : far_end net.wires (end_at n l) ≡ Some far) (sound : IsSound net)
      (rows : length c.ends ≡ length net.nodes) (four : All (λ r. length r ≡ 4) c.ends)
      (room : HasPacketRoom p (inbox_at net far)) where
    is_end : IsEnd (length net.nodes) far
    is_end = (wired_ends (length net.nodes) net.wires (end_at n l) far sound.wires.ends wire).1

    abbrev put_net : NetState
    put_net = with_inbox far (put_in p (inbox_at net far)) (with_node n node' net)

    abbrev put_clocks : Clocks
    put_clocks = with_stamps far (with_stamp p stamp (stamps_at c far)) c

    inbox_put : inbox_at put_net far ≡ put_in p (inbox_at net far)
    inbox_put =
        let b : far.node < length net.inboxes = omega (arith, is_end.0, sound.boxes) in
        let f : length (get_or net.inboxes far.node []) ≡ 4 = sound.four far.node [] b in
        placed-same net.inboxes far.node far.link (put_in p (inbox_at net far)) empty_inbox b
        (omega (arith, is_end.1, f))

    stamps_put : stamps_at put_clocks far ≡ with_stamp p stamp (stamps_at c far)
    stamps_put =
        let b : far.node < length c.ends = omega (arith, is_end.0, rows) in
        let f : length (get_or c.ends far.node []) ≡ 4 = four far.node [] b in
        placed-same c.ends far.node far.link (with_stamp p stamp (stamps_at c far))
        (record { carried = 0; acknowledged = 0 }) b (omega (arith, is_end.1, f))

    put_there : (about : List Sent) → Shows (inbox_at net far) (stamps_at c far) about
        → Shows (inbox_at put_net far) (stamps_at put_clocks far)
        (about ++ put_now (far_end net.wires far) far n stamp (Ok (node', em)))
    put_there about shows =
        rw (inbox_put, stamps_put, sound.wires.back (end_at n l) far wire, put_now-there far n stamp l p node' em emits)
        (shows-put (inbox_at net far) (stamps_at c far) about p stamp shows room)

    put_elsewhere : (e : End) (about : List Sent) → same_end far e ≡ false
        → Shows (inbox_at net e) (stamps_at c e) about
        → Shows (inbox_at put_net e) (stamps_at put_clocks e)
        (about ++ put_now (far_end net.wires e) e n stamp (Ok (node', em)))
    put_elsewhere e about other shows =
        let i : inbox_at put_net e ≡ inbox_at net e =
        placed-other net.inboxes far.node far.link e.node e.link (put_in p (inbox_at net far)) empty_inbox
        (other_end far e other) in
        let m : stamps_at put_clocks e ≡ stamps_at c e =
        placed-other c.ends far.node far.link e.node e.link (with_stamp p stamp (stamps_at c far))
        (record { carried = 0; acknowledged = 0 }) (other_end far e other) in
        rw (i, m, put_now-elsewhere (far_end net.wires e) e n stamp l p node' em emits nowhere, append-nil about) shows
      where
        nowhere : far_end net.wires e ≡ Some (end_at n l) → ⊥
        nowhere w =
            let same : far ≡ e = same_Some _ _ (sym wire ∙ sound.wires.back e (end_at n l) w) in
            both_ways (same_end far e) other (subst (λ (x : End). same_end far x ≡ true) same (same_end-self far))

    put_somewhere : (e : End) (about : List Sent) → Shows (inbox_at net e) (stamps_at c e) about
        → Shows (inbox_at put_net e) (stamps_at put_clocks e)
        (about ++ put_now (far_end net.wires e) e n stamp (Ok (node', em)))
    put_somewhere e about shows = by (same_end far e) refl
      where
        by : (b : Bool) → same_end far e ≡ b
            → Shows (inbox_at put_net e) (stamps_at put_clocks e)
            (about ++ put_now (far_end net.wires e) e n stamp (Ok (node', em)))
        by false other = put_elsewhere e about other shows
        by true same =
            subst (λ (x : End). Shows (inbox_at net x) (stamps_at c x) about
            → Shows (inbox_at put_net x) (stamps_at put_clocks x)
            (about ++ put_now (far_end net.wires x) x n stamp (Ok (node', em)))) (same_end-true far e same)
            (put_there about) shows

    ticked_put : net_happens (event_of n ev) net ≡ net_answer n (act_of ev) net (Ok (node', em)) → (e : End)
        → stamps_at (ticked (stamped_event stamp k n ev) net c) e ≡ stamps_at put_clocks e
    ticked_put h e = rw (h, emits, wire, stamped_packet-some p stamp far c) refl

    -- a packet is emitted into a ring
    moved-emits : net_happens (event_of n ev) net ≡ net_answer n (act_of ev) net (Ok (node', em))
        → Moved net c stamp k n node ev taken (Ok (node', em))
    moved-emits h =
        record {
          after = put_net;
          asked = same;
          done = rw (h, emits, still, wire) refl;
          nodes = refl;
          wires = refl;
          workers = rw (h, emits, wire, stamped_packet-some p stamp far c) refl;
          rows = rw (h, emits, wire, stamped_packet-some p stamp far c) (length-set c.ends far.node _);
          four = rw (h, emits, wire, stamped_packet-some p stamp far c)
              (placed-rows c.ends far.node far.link 4 (with_stamp p stamp (stamps_at c far)));
          stamped = stamped;
          rings = λ e about shows. rw (ticked_put h e) (put_somewhere e about (rw (free e) at shows));
        }

  -- whatever is answered
  moved-answer : (a : Answer) → is_node_done a ≡ true → IsSound net → length c.ends ≡ length net.nodes
      → All (λ r. length r ≡ 4) c.ends → FindsRoom net n a
      → net_happens (event_of n ev) net ≡ net_answer n (act_of ev) net a → Moved net c stamp k n node ev taken a
  moved-answer (Err NotEnabled) done sound rows four room h = cc
  moved-answer (Err (Frozen b)) done sound rows four room h = moved-frozen b h
  moved-answer (Ok (node', em)) done sound rows four room h = by em.packet refl
    where
      emitted : (l : ℕ) (p : Packet) (o : Option End) → em.packet ≡ Some (l, p) → far_end net.wires (end_at n l) ≡ o
          → Moved net c stamp k n node ev taken (Ok (node', em))
      emitted l p None emits wire = moved-lost node' em l p emits wire sound h
      emitted l p (Some far) emits wire =
          moved-emits node' em l p far emits wire sound rows four (room l p far emits wire) h

      by : (o : Option (ℕ × Packet)) → em.packet ≡ o → Moved net c stamp k n node ev taken (Ok (node', em))
      by None e = moved-silent node' em e h
      by (Some (l, p)) e = emitted l p (far_end net.wires (end_at n l)) e refl

pub moved-free : (net : NetState) (c : Clocks) (stamp k n : ℕ) (node : NodeState) (ev : NodeEvent) (taken : ℕ)
    → IsNext net c n node ev → ((e : End) → taken_packet n ev e taken ≡ [])
    → received n (act_of ev) net ≡ net → stamp_taken c n (act_of ev) ≡ taken → node_event net n (act_of ev) ≡ Some ev
    → Moved net c stamp k n node ev taken (happens ev node)
moved-free net c stamp k n node ev taken next free still stamped same =
    moved-answer net c stamp k n node ev taken next.there free still stamped same (happens ev node) next.enabled
    next.sound next.rows next.four (finds_room net n node ev next.sound next.there)
    (answers net n node ev next.there same)
