-- Whether something is seen of an event: what is told of it, and what its node has before and after it, tell.
use Rattle.std.proofs.Common.{◌≡◌, ℕ, ◌+◌, refl, ap, ◌∙◌, Bool, true, false, List, [], set, Option, Some, None}
use Rattle.std.proofs.Common.{Result, Ok, Err, is_some, get_or, ◌<◌, arith}
use Rattle.std.specs.Prelude.{◌==◌, not, slice_get}
use Rattle.std.proofs.lemmas.Bool.{ne_eqb}
use Rattle.std.proofs.lemmas.List.{get_or-set_same}
use Rattle.tproc.specs.declared.offer.Offer.{Offer}
use Rattle.tlink.specs.declared.counts.Counts.{Counts}
use Rattle.tlink.specs.declared.event.Emitted.{Emitted}
use Rattle.tlink.specs.declared.event.StepFault.{StepFault}
use Rattle.tlink.specs.Node.{NodeState, counts_at, no_counts, input_at, due_at}
use Rattle.tlink.specs.Roles.{Role, Processor, Source, Sink, due}
use Rattle.tplan.specs.declared.event.Act.{Act}
use Rattle.tplan.specs.declared.event.Act.TheVariants.{Run, Send, Data, Take, Ack}
use Rattle.tplan.specs.declared.event.Event.{Event}
use Rattle.tnet.specs.Net.{NetState, node_at}
use Rattle.tnet.specs.Packets.{after_event, answered, net_happens}
use Rattle.tnet.specs.Sound.{IsSound}
use Rattle.tnet.specs.View.{image}
use Rattle.tnet.proofs.DoneEvents.{event_at, Goes, Did, Done, done, Stepped, Broke, DidTake, Taking, TookLast, TookOne}
use Rattle.tnet.proofs.DoneEvents.{WrongMark, DidAck, Acking, AckedLast, AckedOne}
use Rattle.tnet.proofs.Places.{slice_get-set_same}
use Rattle.tnet.proofs.SoundNodes.{node_sound, output_below}
use Rattle.tnet.proofs.WireEnds.{Receiving, receiving}
use Rattle.tevents.specs.Finding.{asks_at, acked_at, ends_message, is_seen}
use Rattle.tevents.proofs.Unseen.{goes_nodes}

-- the test is right: where it fails nothing is seen, and where nothing is seen it fails
pub record IsTold (net : NetState) (e : Event) (test : Bool) : Type 0 where
  pub unseen : test ≡ false → image net e ≡ []
  pub quiet : image net e ≡ [] → test ≡ false

-- a message is due where an input is pending
due_some : (role : Role) (c : Counts) (o : Option Offer) → is_some (due role c o) ≡ is_some o
due_some Processor c o = refl
due_some (Source over rest) c o = refl
due_some (Sink kept) c None = refl
due_some (Sink kept) c (Some o) = refl

module _ (net left : NetState) (n : ℕ) (node : NodeState) (sound : IsSound net) (there : node_at net n ≡ Some node)
  where
    data_told : (l : ℕ) (o : Option Offer) → input_at node l ≡ o
        → IsTold net (event_at n (Data l)) (not (asks_at (node_at net n) (Data l)))
    data_told l None asks =
        let some : is_some (due_at node l) ≡ false = due_some node.role (counts_at node l) (input_at node l)
        ∙ ap is_some asks in
        record {
          unseen = λ h. let k : true ≡ false = rw (there, some) at h in absurd cc;
          quiet = λ h. let k = rw (there, asks) at h in absurd cc;
        }
    data_told l (Some o) asks =
        let some : is_some (due_at node l) ≡ true = due_some node.role (counts_at node l) (input_at node l)
        ∙ ap is_some asks in
        record { unseen = λ h. rw (there, asks) refl; quiet = λ h. rw (there, some) refl }

    take_told : (l : ℕ) (told : Result Emitted StepFault) (d : DidTake net n l node left)
        → told ≡ answered (net_happens (event_at n (Take l)) net) → Taking net n l node d.byte d.inp left
        → IsTold net (event_at n (Take l)) (ends_message told)
    take_told l told d tells (TookLast last full goes) =
        let r : Receiving net n l node d.byte d.inp = receiving net n l node d.byte d.inp d.waits sound there d.asks in
        let t : told ≡ Ok _ = tells ∙ ap answered goes.answer in
        record {
          unseen = λ h. let k : true ≡ false = rw t at h in absurd cc;
          quiet = λ h. let k = rw (there, d.waits, d.asks, full, last, r.wire) at h in absurd cc;
        }
    take_told l told d tells (TookOne last full goes) =
        let t : told ≡ Ok _ = tells ∙ ap answered goes.answer in
        record {
          unseen = λ h. rw (there, d.waits, d.asks, full, last) refl;
          quiet = λ h. rw t refl;
        }
    take_told l told d tells (WrongMark true last full freezes) =
        let t : told ≡ Err _ = tells ∙ ap answered freezes.answer in
        record {
          unseen = λ h. let k : true ≡ false = rw t at h in absurd cc;
          quiet = λ h. let k = rw (there, d.waits, d.asks, full, last) at h in absurd cc;
        }
    take_told l told d tells (WrongMark false last full freezes) =
        let t : told ≡ Err _ = tells ∙ ap answered freezes.answer in
        record {
          unseen = λ h. let k : true ≡ false = rw t at h in absurd cc;
          quiet = λ h. let k = rw (there, d.waits, d.asks, full, last) at h in absurd cc;
        }

    -- the counts of an acknowledge
    after_ack : (l : ℕ) (o : Offer) (node' : NodeState) (x : Emitted) (c : Counts) → l < 4
        → Goes net n (Ack l) left node' x → node'.counts ≡ set node.counts l c
        → acked_at (node_at left n) (Ack l) ≡ c.acked
    after_ack l o node' x c below goes counted =
        let here : node_at left n ≡ Some node' =
        ap (λ (ns : List NodeState). slice_get ns n) (goes_nodes net left n (Ack l) node' x goes)
        ∙ slice_get-set_same net.nodes n node' node there in
        rw here (ap (λ (y : Counts). y.acked)
        (ap (λ (cs : List Counts). get_or cs l no_counts) counted
        ∙ get_or-set_same node.counts l c no_counts
        (omega (arith, below, (node_sound net n node sound there).whole.counted.four))))

    ack_told : (l : ℕ) (d : DidAck net n l node left) → Acking net n l node d.out left
        → IsTold net (event_at n (Ack l)) (acked_at (node_at left n) (Ack l) == 0)
    ack_told l d (AckedLast last goes) =
        let z : acked_at (node_at left n) (Ack l) ≡ 0 =
        after_ack l d.out _ _ (record (counts_at node l) { sent = 0; acked = 0 })
        (output_below net n l node sound there d.out d.offers) goes refl in
        record {
          unseen = λ h. let k : true ≡ false = rw z at h in absurd cc;
          quiet = λ h. let k = rw (there, d.offers, last) at h in absurd cc;
        }
    ack_told l d (AckedOne last goes) =
        let z : acked_at (node_at left n) (Ack l) ≡ (counts_at node l).acked + 1 =
        after_ack l d.out _ _ (record (counts_at node l) { acked = (counts_at node l).acked + 1 })
        (output_below net n l node sound there d.out d.offers) goes refl in
        record {
          unseen = λ h. rw (there, d.offers, last) refl;
          quiet = λ h. rw z (ne_eqb _ _ (λ e. absurd (omega (arith, e))));
        }

    told_by : (act : Act) (told : Result Emitted StepFault) → told ≡ answered (net_happens (event_at n act) net)
        → Did net n act node left
        → IsTold net (event_at n act) (is_seen act (asks_at (node_at net n) act) told (acked_at (node_at left n) act))
    told_by Run told tells (Stepped m r h is goes) =
        record { unseen = λ k. absurd cc; quiet = λ k. let c = rw (there, h) at k in absurd cc }
    told_by Run told tells (Broke b h freezes) =
        record { unseen = λ k. absurd cc; quiet = λ k. let c = rw (there, h) at k in absurd cc }
    told_by (Send l) told tells d = record { unseen = λ k. rw there refl; quiet = λ k. refl }
    told_by (Data l) told tells d = data_told l (input_at node l) refl
    told_by (Take l) told tells d = take_told l told d tells d.takes
    told_by (Ack l) told tells d = ack_told l d d.acks

pub told_of : (net left : NetState) (e : Event) (told : Result Emitted StepFault) → IsSound net
    → told ≡ answered (net_happens e net) → after_event net e ≡ Some left
    → IsTold net e (is_seen e.act (asks_at (node_at net e.node) e.act) told (acked_at (node_at left e.node) e.act))
told_of net left e told sound tells h =
    let d : Done net e.node e.act left = done net left e.node e.act h in
    told_by net left e.node d.node sound d.there e.act told tells d.did
