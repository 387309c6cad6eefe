-- An event of which nothing is seen counts one byte more at one link, and there is room for only a limited number.
use Rattle.std.proofs.Common.{◌≡◌, ℕ, suc, ◌+◌, ◌*◌, ◌<◌, ◌≤◌, refl, sym, ap, ◌∙◌, subst, true, false, List, []}
use Rattle.std.proofs.Common.{◌∷◌, length, get_or, set, Option, Some, None, arith}
use Rattle.std.specs.Prelude.{sum_by, slice_get, MatchOption}
use Rattle.std.proofs.lemmas.Option.{same_Some, get_or_from_slice_get, slice_get_within}
use Rattle.std.proofs.lemmas.List.Sums.{sum_by-cons, sum_by-set}
use Rattle.tproc.specs.declared.offer.Offer.{Offer}
use Rattle.tproc.specs.declared.waiter.LinkEnd.{LinkEnd}
use Rattle.tproc.specs.LinkChannels.{link_end, quiet_end}
use Rattle.tproc.specs.Machine.{Control}
use Rattle.tlink.specs.declared.counts.Arrival.{Arrival}
use Rattle.tlink.specs.declared.counts.Counts.{Counts}
use Rattle.tlink.specs.declared.event.Emitted.{Emitted}
use Rattle.tlink.specs.declared.event.Packet.{Packet}
use Rattle.tlink.specs.Node.{NodeState, counts_at, no_counts, output_at, input_at}
use Rattle.tlink.specs.Events.{noticed_by}
use Rattle.tlink.specs.Roles.{Role, Processor, Source, Sink}
use Rattle.tlink.specs.Whole.{HasGot}
use Rattle.tlink.proofs.Held.{held_buffers}
use Rattle.tplan.specs.declared.event.Act.{Act}
use Rattle.tplan.specs.declared.event.Act.TheVariants.{Run, Send, Data, Take, Ack}
use Rattle.tplan.specs.declared.event.Event.{Event}
use Rattle.tplan.specs.declared.plan.End.{End}
use Rattle.tplan.specs.Wires.{end_at, far_end}
use Rattle.tnet.specs.Net.{NetState, node_at, with_node}
use Rattle.tnet.specs.Packets.{after_event, received, delivered, sent_off}
use Rattle.tnet.specs.View.{view, image, data_image}
use Rattle.tnet.specs.Notes.{event_note}
use Rattle.tnet.specs.Rendezvous.{Step, IsRun}
use Rattle.tnet.specs.Sound.{IsSound, IsSoundNode, IsDirection, traffic}
use Rattle.tnet.proofs.DoneEvents.{event_at, Goes, Did, Done, done, Stepped, Broke, DidTake, Taking}
use Rattle.tnet.proofs.DoneEvents.{TookLast, TookOne, WrongMark, DidAck, Acking, AckedLast, AckedOne, arrived}
use Rattle.tnet.proofs.SeenEvents.{step_simulation}
use Rattle.tnet.proofs.SoundEvents.{stays_sound}
use Rattle.tnet.proofs.SoundNodes.{node_sound, output_below, carried_below}
use Rattle.tnet.proofs.WireEnds.{Receiving, receiving}
use Rattle.tnet.proofs.WireStages.{one_unacked}
use Rattle.treduction.proofs.Waiting.{wired_link}

-- how much can be counted at a link, by the bytes that its pending messages ask for
abbrev pub asked_bytes : Option Offer → ℕ
asked_bytes None = 0
asked_bytes (Some o) = 2 * o.length

abbrev pub link_room : LinkEnd → ℕ
link_room e = asked_bytes e.output + asked_bytes e.input + 1

-- and at all links of a node, and of a net
abbrev pub node_room : NodeState → ℕ
node_room n = sum_by link_room n.machine.control.links

abbrev pub room : NetState → ℕ
room net = sum_by node_room net.nodes

-- what was counted at a link, at a node, and in a net
abbrev pub waiting : Option Arrival → ℕ
waiting None = 0
waiting (Some a) = 1

abbrev pub tally : Counts → ℕ
tally c = c.sent + c.acked + 2 * c.got + waiting c.arrived

abbrev pub node_tally : NodeState → ℕ
node_tally node = sum_by tally node.counts

abbrev pub net_tally : NetState → ℕ
net_tally net = sum_by node_tally net.nodes

-- an event that counts one more at a link
record Ticks (net net' : NetState) (n : ℕ) (node : NodeState) : Type 0 where
  pub link : ℕ
  pub below : link < 4
  pub counts : Counts
  pub node' : NodeState
  pub nodes : net'.nodes ≡ set net.nodes n node'
  pub counted : node'.counts ≡ set node.counts link counts
  pub more : tally counts ≡ tally (counts_at node link) + 1
  pub control : node'.machine.control ≡ node.machine.control

sent_nodes : (n : ℕ) (p : Option (ℕ × Packet)) (net : NetState) → (sent_off n p net).nodes ≡ net.nodes
sent_nodes n None net = refl
sent_nodes n (Some (l, p)) net = by (far_end net.wires (end_at n l))
  where
    by : (e : Option End) → (delivered p e net).nodes ≡ net.nodes
    by None = refl
    by (Some e) = refl

received_nodes : (n : ℕ) (act : Act) (net : NetState) → (received n act net).nodes ≡ net.nodes
received_nodes n Run net = refl
received_nodes n (Send l) net = refl
received_nodes n (Data l) net = refl
received_nodes n (Take l) net = refl
received_nodes n (Ack l) net = refl

pub goes_nodes : (net net' : NetState) (n : ℕ) (act : Act) (node' : NodeState) (x : Emitted)
    → Goes net n act net' node' x → net'.nodes ≡ set net.nodes n node'
goes_nodes net net' n act node' x g =
    ap (λ (y : NetState). y.nodes) g.after
    ∙ sent_nodes n x.packet (with_node n node' (received n act net))
    ∙ ap (λ (ns : List NodeState). set ns n node') (received_nodes n act net)

module _ (net net' : NetState) (n : ℕ) (node : NodeState) (sound : IsSound net) (there : node_at net n ≡ Some node)
  where
    data_ticks : (l : ℕ) (a : Arrival) (x : Emitted) → l < 4 → (counts_at node l).arrived ≡ None → (o : Option Offer)
        → data_image (end_at n l) o ≡ []
        → Goes net n (Data l) net' (noticed_by l o (arrived l a node)) x → Ticks net net' n node
    data_ticks l a x below free None none g = cc
    data_ticks l a x below free (Some o) none g =
        let z : waiting (counts_at node l).arrived ≡ 0 = ap waiting free in
        record {
          link = l;
          below = below;
          counts = record (counts_at node l) { arrived = Some a };
          node' = arrived l a node;
          nodes = goes_nodes net net' n (Data l) (arrived l a node) x g;
          counted = refl;
          more = omega (arith, z);
          control = refl;
        }

    take_ticks : (l : ℕ) (d : DidTake net n l node net') → Taking net n l node d.byte d.inp net'
        → image net (event_at n (Take l)) ≡ [] → Ticks net net' n node
    take_ticks l d (TookLast last full goes) none =
        let r : Receiving net n l node d.byte d.inp = receiving net n l node d.byte d.inp d.waits sound there d.asks in
        let k = rw (there, d.waits, d.asks, full, last, r.wire) at none in
        cc
    take_ticks l d (TookOne last full goes) none =
        let r : Receiving net n l node d.byte d.inp = receiving net n l node d.byte d.inp d.waits sound there d.asks in
        let z : waiting (counts_at node l).arrived ≡ 1 = ap waiting d.waits in
        record {
          link = l;
          below = wired_link net (end_at n l) r.far sound r.wire;
          counts = record (counts_at node l) { got = (counts_at node l).got + 1; arrived = None };
          node' = _;
          nodes = goes_nodes net net' n (Take l) _ _ goes;
          counted = refl;
          more = omega (arith, z);
          control = refl;
        }
    take_ticks l d (WrongMark true last full freezes) none =
        let k = rw (there, d.waits, d.asks, full, last) at none in
        cc
    take_ticks l d (WrongMark false last full freezes) none =
        let k = rw (there, d.waits, d.asks, full, last) at none in
        cc

    ack_ticks : (l : ℕ) (d : DidAck net n l node net') → Acking net n l node d.out net'
        → image net (event_at n (Ack l)) ≡ [] → Ticks net net' n node
    ack_ticks l d (AckedLast last goes) none =
        let k = rw (there, d.offers, last) at none in
        cc
    ack_ticks l d (AckedOne last goes) none =
        record {
          link = l;
          below = output_below net n l node sound there d.out d.offers;
          counts = record (counts_at node l) { acked = (counts_at node l).acked + 1 };
          node' = _;
          nodes = goes_nodes net net' n (Ack l) _ _ goes;
          counted = refl;
          more = omega arith;
          control = refl;
        }

    ticks : (act : Act) → Did net n act node net' → image net (event_at n act) ≡ [] → Ticks net net' n node
    ticks Run (Stepped m r h is goes) none = let k = rw (there, h) at none in cc
    ticks Run (Broke b h freezes) none = let k = rw (there, h) at none in cc
    ticks (Send l) d none =
        record {
          link = l;
          below = output_below net n l node sound there d.out d.offers;
          counts = record (counts_at node l) { sent = (counts_at node l).sent + 1 };
          node' = _;
          nodes = goes_nodes net net' n (Send l) _ _ d.goes;
          counted = refl;
          more = omega arith;
          control = refl;
        }
    ticks (Data l) d none =
        data_ticks l d.byte _ (carried_below net n l node sound there d.byte d.lies) d.free (input_at node l)
        (rw there at none) d.goes
    ticks (Take l) d none = take_ticks l d d.takes none
    ticks (Ack l) d none = ack_ticks l d d.acks none

    -- so one more is counted, and the room stays
    counts_one : Ticks net net' n node → (net_tally net' ≡ net_tally net + 1) × (room net' ≡ room net)
    counts_one t =
        let within : n < length net.nodes = slice_get_within net.nodes n node there in
        let at : get_or net.nodes n node ≡ node = get_or_from_slice_get net.nodes n node node there in
        let four : length node.counts ≡ 4 = (node_sound net n node sound there).whole.counted.four in
        let a : sum_by tally (set node.counts t.link t.counts) + tally (counts_at node t.link)
        ≡ sum_by tally node.counts + tally t.counts =
        sum_by-set tally node.counts t.link t.counts no_counts (omega (arith, four, t.below)) in
        let b : node_tally t.node' ≡ sum_by tally (set node.counts t.link t.counts) =
        ap (λ (cs : List Counts). sum_by tally cs) t.counted in
        let c : net_tally net' ≡ sum_by node_tally (set net.nodes n t.node') =
        ap (λ (ns : List NodeState). sum_by node_tally ns) t.nodes in
        let d : sum_by node_tally (set net.nodes n t.node') + node_tally node ≡ net_tally net + node_tally t.node' =
        rw at at (sum_by-set node_tally net.nodes n t.node' node within) in
        let e : room net' ≡ sum_by node_room (set net.nodes n t.node') =
        ap (λ (ns : List NodeState). sum_by node_room ns) t.nodes in
        let f : sum_by node_room (set net.nodes n t.node') + node_room node ≡ room net + node_room t.node' =
        rw at at (sum_by-set node_room net.nodes n t.node' node within) in
        let g : node_room t.node' ≡ node_room node = ap (λ (x : Control). sum_by link_room x.links) t.control in
        (omega (arith, a, b, c, d, t.more), omega (arith, e, f, g))

    -- there is room for what is counted
    sent_one : (l : ℕ) → (counts_at node l).sent ≤ (counts_at node l).acked + 1
    sent_one l = by (far_end net.wires (end_at n l)) refl
      where
        by : (o : Option End) → far_end net.wires (end_at n l) ≡ o
            → (counts_at node l).sent ≤ (counts_at node l).acked + 1
        by None e =
            let z : (counts_at node l).sent ≡ 0 =
            ap (λ (c : Counts). c.sent) (sound.bare (end_at n l) node there e).counts in omega (arith, z)
        by (Some e) wire =
            let d : IsDirection net (end_at n l) e = sound.directions (end_at n l) e wire in
            let same : d.sender ≡ node = same_Some _ _ (sym d.sends ∙ there) in
            subst (λ (s : NodeState). (counts_at s l).sent ≤ (counts_at s l).acked + 1) same
            (one_unacked (output_at d.sender l) (traffic d.sender d.receiver net (end_at n l) e) d.orderly)

waiting_one : (o : Option Arrival) → waiting o ≤ 1
waiting_one None = omega arith
waiting_one (Some a) = omega arith

fits_out : (out : Option Offer) (sent acked : ℕ) → sent ≤ acked + 1
    → MatchOption out ((sent ≡ 0) × (acked ≡ 0)) (λ o. acked < o.length) → sent + acked ≤ asked_bytes out
fits_out None sent acked h m = omega (arith, m.0, m.1)
fits_out (Some o) sent acked h m = omega (arith, h, m)

fits_in : (role : Role) (inp : Option Offer) (got : ℕ) → MatchOption inp (got ≡ 0) (λ o. HasGot role got o.length)
    → 2 * got ≤ asked_bytes inp
fits_in role None got m = omega (arith, m)
fits_in Processor (Some o) got m = omega (arith, m)
fits_in (Source k rest) (Some o) got m = omega (arith, m)
fits_in (Sink kept) (Some o) got m = omega (arith, m)

-- sums of lists
sum_le : {X Y : Type 0} (f : X → ℕ) (g : Y → ℕ) (dx : X) (dy : Y) (xs : List X) (ys : List Y) → length xs ≡ length ys
    → ((k : ℕ) → f (get_or xs k dx) ≤ g (get_or ys k dy)) → sum_by f xs ≤ sum_by g ys
sum_le f g dx dy [] [] e h = omega arith
sum_le f g dx dy [] (y ∷ ys) e h = absurd (omega (arith, e))
sum_le f g dx dy (x ∷ xs) [] e h = absurd (omega (arith, e))
sum_le f g dx dy (x ∷ xs) (y ∷ ys) e h =
    let a : sum_by f (x ∷ xs) ≡ f x + sum_by f xs = sum_by-cons f x xs in
    let b : sum_by g (y ∷ ys) ≡ g y + sum_by g ys = sum_by-cons g y ys in
    omega (arith, a, b, h 0, sum_le f g dx dy xs ys (omega (arith, e)) (λ k. h (suc k)))

sum_le_each : {X : Type 0} (f g : X → ℕ) (xs : List X) → ((n : ℕ) (x : X) → slice_get xs n ≡ Some x → f x ≤ g x)
    → sum_by f xs ≤ sum_by g xs
sum_le_each f g [] h = omega arith
sum_le_each f g (x ∷ xs) h =
    let a : sum_by f (x ∷ xs) ≡ f x + sum_by f xs = sum_by-cons f x xs in
    let b : sum_by g (x ∷ xs) ≡ g x + sum_by g xs = sum_by-cons g x xs in
    omega (arith, a, b, h 0 x refl, sum_le_each f g xs (λ n y. h (suc n) y))

node_within : (net : NetState) (n : ℕ) (node : NodeState) → IsSound net → node_at net n ≡ Some node
    → node_tally node ≤ node_room node
node_within net n node sound there =
    sum_le tally link_room no_counts quiet_end node.counts node.machine.control.links
    (s.whole.counted.four ∙ sym (held_buffers node.role node.machine s.whole.held).links) each
  where
    s : IsSoundNode node
    s = node_sound net n node sound there

    each : (l : ℕ) → tally (counts_at node l) ≤ link_room (link_end node.machine.control l)
    each l =
        omega (
          arith,
          fits_out (output_at node l) (counts_at node l).sent (counts_at node l).acked
              (sent_one net net n node sound there l) (s.whole.counted.outputs l),
          fits_in node.role (input_at node l) (counts_at node l).got (s.whole.counted.inputs l),
          waiting_one (counts_at node l).arrived,
        )

pub net_within : (net : NetState) → IsSound net → net_tally net ≤ room net
net_within net sound = sum_le_each node_tally node_room net.nodes (λ n node there. node_within net n node sound there)

-- an event of which nothing is seen: the net shows what it showed, and one more is counted
pub record IsUnseen (net left : NetState) : Type 0 where
  pub tally : net_tally left ≡ net_tally net + 1
  pub room : room left ≡ room net
  pub sound : IsSound left
  pub shows : view left ≡ view net

pub unseen : (net left : NetState) (e : Event) → IsSound net → after_event net e ≡ Some left → image net e ≡ []
    → IsUnseen net left
unseen net left e sound h none =
    let d : Done net e.node e.act left = done net left e.node e.act h in
    let r : IsRun (view net) [] (event_note net e) (view left) =
    subst (λ (ss : List Step). IsRun (view net) ss (event_note net e) (view left)) none
    (step_simulation net left e sound h) in
    let c : (net_tally left ≡ net_tally net + 1) × (room left ≡ room net) =
    counts_one net left e.node d.node sound d.there (ticks net left e.node d.node sound d.there e.act d.did none) in
    record { tally = c.0; room = c.1; sound = stays_sound net left e sound h; shows = sym r.1 }
