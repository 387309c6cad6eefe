-- An event that is enabled: what is done, and what is seen of it.
use Rattle.std.proofs.Common.{◌≡◌, ℕ, ◌+◌, ◌<◌, refl, sym, ap, ◌∙◌, Bool, true, false, List, [], ◌∷◌, Result, Ok, Err}
use Rattle.std.proofs.Common.{Option, Some, None}
use Rattle.std.specs.Prelude.{◌==◌, ◌&&◌, ◌||◌, nat_lt, if◌then◌else◌}
use Rattle.std.proofs.lemmas.Bool.{and_from, eq-eqb, lt-ltb}
use Rattle.tword.specs.declared.breaks.Break.{Break}
use Rattle.tproc.specs.declared.offer.Offer.{Offer}
use Rattle.tproc.specs.declared.ran.Ran.{Ran}
use Rattle.tproc.specs.declared.ran.Ran.TheVariants as ran
use Rattle.tproc.specs.Machine.{Machine}
use Rattle.tproc.specs.Hidden.{hidden, hidden_step}
use Rattle.tproc.specs.Steps.{step}
use Rattle.tlink.specs.declared.event.NodeEvent.{NodeEvent}
use Rattle.tlink.specs.declared.event.NodeEvent.TheVariants as at_node
use Rattle.tlink.specs.declared.event.Mark.TheVariants.{Nothing}
use Rattle.tlink.specs.declared.event.StepFault.TheVariants.{NotEnabled, Frozen}
use Rattle.tlink.specs.declared.counts.Arrival.{Arrival}
use Rattle.tlink.specs.declared.counts.Counts.{Counts}
use Rattle.tlink.specs.Node.{NodeState, counts_at, output_at, input_at, is_wired, with_counts}
use Rattle.tlink.specs.Roles.{receives, has_room, is_full}
use Rattle.tlink.specs.Events.{Answer, at_work, happens, unless_frozen, is_node_done, after_run, take_marked, silently}
use Rattle.tlink.specs.Events.{ended}
use Rattle.tplan.specs.declared.event.Act.{Act}
use Rattle.tplan.specs.declared.event.Act.TheVariants.{Run, Send, Data, Take, Ack}
use Rattle.tplan.specs.declared.event.Event.{Event}
use Rattle.tplan.specs.Wires.{end_at}
use Rattle.tnet.specs.Net.{NetState, inbox_at, node_at}
use Rattle.tnet.specs.Packets.{NetAnswer, node_event, net_answer, net_happens, after_answer, after_event}
use Rattle.tnet.specs.Packets.{answered, is_done, is_enabled}
use Rattle.tnet.specs.Rendezvous.{Step, Local, Freeze_at, IsStep}
use Rattle.tnet.specs.Sound.{IsSound}
use Rattle.tnet.specs.View.{image, data_image, take_image, ack_image}
use Rattle.tnet.proofs.BlindRoles.{step-blind}
use Rattle.tnet.proofs.DoneEvents.{event_at}
use Rattle.tnet.proofs.SoundNodes.{node_sound}
use Rattle.tevents.specs.Finding.{ends_message}

-- an event is done, and is seen as these steps
pub record Does (net : NetState) (e : Event) (steps : List Step) : Type 0 where
  pub left : NetState
  pub done : after_event net e ≡ Some left
  pub seen : image net e ≡ steps

-- an answer of a node leaves a net
leaves : (n : ℕ) (act : Act) (net : NetState) (a : Answer) → is_node_done a ≡ true
    → (left : NetState) × (after_answer n net (net_answer n act net a) ≡ Some left)
leaves n act net (Ok (node, e)) h = (_, refl)
leaves n act net (Err NotEnabled) h = cc
leaves n act net (Err (Frozen b)) h = (_, refl)

awake : (n : ℕ) (act : Act) (net : NetState) (a : Answer) (b : Option Break) → b ≡ None → is_node_done a ≡ true
    → (left : NetState) × (after_answer n net (net_answer n act net (unless_frozen b a)) ≡ Some left)
awake n act net a None e h = leaves n act net a h
awake n act net a (Some b) e h = cc

-- a processor that does something
ran_done : (node : NodeState) (m : Machine) (r : Ran) → IsStep r → is_node_done (after_run node (Ok (m, r))) ≡ true
ran_done node m ran.Idle is = absurd (is.0 refl)
ran_done node m ran.Halted is = absurd (is.1 refl)
ran_done node m ran.Halting is = refl
ran_done node m ran.Instruction is = refl
ran_done node m ran.Dispatch is = refl
ran_done node m (ran.LinkOut l) is = refl
ran_done node m (ran.LinkIn l) is = refl

-- the step of a processor, by what is seen of it
real_step : (x : Result (Machine × Ran) Break) (m : Machine) (r : Ran) → hidden_step x ≡ Ok (m, r)
    → (m' : Machine) × (x ≡ Ok (m', r))
real_step (Ok (m', r')) m r h =
    let q : ◌≡◌ {A = Machine × Ran} (hidden m', r') (m, r) = cc in
    let e : r' ≡ r = ap (λ (x : Machine × Ran). x.1) q in
    (m', rw e refl)
real_step (Err b) m r h = cc

real_break : (x : Result (Machine × Ran) Break) (b : Break) → hidden_step x ≡ Err b → x ≡ Err b
real_break (Ok (m', r')) b h = cc
real_break (Err c) b h = h

-- a byte that is taken, or found marked wrongly, is an event
take_done : (l : ℕ) (a b : Bool) (byte : ℕ) (o : Offer) (c : Counts) (node : NodeState)
    → is_node_done (take_marked l a b byte o c node) ≡ true
take_done l true true byte o c node = refl
take_done l false false byte o c node = refl
take_done l true false byte o c node = refl
take_done l false true byte o c node = refl

-- so is an acknowledge
either_done : (b : Bool) (x y : NodeState)
    → is_node_done (if b then silently Nothing x else silently Nothing y) ≡ true
either_done true x y = refl
either_done false x y = refl

module _ (net : NetState) (n : ℕ) (node : NodeState) (there : node_at net n ≡ Some node) (works : node.broken ≡ None)
  where
    happens_now : (act : Act) (e : NodeEvent) → node_event net n act ≡ Some e → is_node_done (at_work e node) ≡ true
        → (left : NetState) × (after_event net (event_at n act) ≡ Some left)
    unfolding net_happens happens
    happens_now act e asked h = rw (asked, there) (awake n act net (at_work e node) node.broken works h)

    -- the processor
    module _ (sound : IsSound net) where
      blind : hidden_step (step (hidden node.machine)) ≡ hidden_step (step node.machine)
      blind = step-blind node.role node.machine (node_sound net n node sound there).whole.held

      pub own_step : (m : Machine) (r : Ran) → step (hidden node.machine) ≡ Ok (m, r) → IsStep r
          → Does net (event_at n Run) (Local n ∷ [])
      own_step m r h is =
          by (real_step (step node.machine) (hidden m) r (sym blind ∙ ap hidden_step h))
        where
          by : (m' : Machine) × (step node.machine ≡ Ok (m', r)) → Does net (event_at n Run) (Local n ∷ [])
          by (m', e) =
              let d : (left : NetState) × (after_event net (event_at n Run) ≡ Some left) =
              happens_now Run at_node.Run refl (rw e (ran_done node m' r is)) in
              record { left = d.0; done = d.1; seen = rw (there, e) refl }

      pub own_break : (b : Break) → step (hidden node.machine) ≡ Err b
          → Does net (event_at n Run) (Freeze_at n b ∷ [])
      own_break b h =
          let e : step node.machine ≡ Err b =
          real_break (step node.machine) b (sym blind ∙ ap hidden_step h) in
          let d : (left : NetState) × (after_event net (event_at n Run) ≡ Some left) =
          happens_now Run at_node.Run refl (rw e refl) in
          record { left = d.0; done = d.1; seen = rw (there, e) refl }

    -- a byte is sent
    pub sends : (l : ℕ) (o : Offer) → output_at node l ≡ Some o → is_wired node l ≡ true
        → (counts_at node l).acked ≡ (counts_at node l).sent → (counts_at node l).sent < o.length
        → Does net (event_at n (Send l)) []
    sends l o out wired rest more =
        let c : Counts = counts_at node l in
        let t : (is_wired node l && (c.acked == c.sent) && nat_lt c.sent o.length) ≡ true =
        and_from _ _ (and_from _ _ wired (eq-eqb _ _ rest)) (lt-ltb _ _ more) in
        let d : (left : NetState) × (after_event net (event_at n (Send l)) ≡ Some left) =
        happens_now (Send l) (at_node.Send l) refl (rw out (rw t refl)) in
        record { left = d.0; done = d.1; seen = rw there refl }

    -- a byte comes in
    pub comes : (l : ℕ) (a : Arrival) → (inbox_at net (end_at n l)).carried ≡ Some a → receives node.role ≡ true
        → is_wired node l ≡ true → (counts_at node l).arrived ≡ None
        → Does net (event_at n (Data l)) (data_image (end_at n l) (input_at node l))
    comes l a lies listens wired free =
        let d : (left : NetState) × (after_event net (event_at n (Data l)) ≡ Some left) =
        happens_now (Data l) (at_node.Data l a.byte a.last) (rw lies refl) (rw (listens, wired, free) refl) in
        record { left = d.0; done = d.1; seen = rw there refl }

    -- a byte is taken
    pub takes : (l : ℕ) (a : Arrival) (o : Offer) → (counts_at node l).arrived ≡ Some a → input_at node l ≡ Some o
        → has_room node.role o (counts_at node l) ≡ true
        → Does net (event_at n (Take l))
        (take_image net.wires (end_at n l) node.role (Some a) (Some o) (counts_at node l))
    takes l a o waits asks room =
        let d : (left : NetState) × (after_event net (event_at n (Take l)) ≡ Some left) =
        happens_now (Take l) (at_node.Take l) refl
        (rw (waits, asks, room) (take_done l a.last (is_full node.role a o (counts_at node l)) a.byte o
        (counts_at node l) node)) in
        record { left = d.0; done = d.1; seen = rw (there, waits, asks) refl }

    -- an acknowledge comes in
    pub acknowledges : (l : ℕ) (o : Offer) → output_at node l ≡ Some o
        → (inbox_at net (end_at n l)).acknowledged ≡ true
        → (counts_at node l).sent ≡ (counts_at node l).acked + 1
        → Does net (event_at n (Ack l)) (ack_image (end_at n l) (Some o) (counts_at node l))
    acknowledges l o out lies one =
        let c : Counts = counts_at node l in
        let t : (c.sent == c.acked + 1) ≡ true = eq-eqb _ _ one in
        let d : (left : NetState) × (after_event net (event_at n (Ack l)) ≡ Some left) =
        happens_now (Ack l) (at_node.Ack l) (rw lies refl)
        (rw out (rw t (either_done (c.acked + 1 == o.length) (ended l c node)
        (with_counts l (record c { acked = c.acked + 1 }) node)))) in
        record { left = d.0; done = d.1; seen = rw (there, out) refl }

-- an event that is done is enabled
done_enabled : (n : ℕ) (net left : NetState) (a : NetAnswer) → after_answer n net a ≡ Some left → is_done a ≡ true
done_enabled n net left (Ok (net', e)) h = refl
done_enabled n net left (Err NotEnabled) h = cc
done_enabled n net left (Err (Frozen b)) h = refl

pub enabled_at : (net left : NetState) (n : ℕ) (act : Act) → after_event net (event_at n act) ≡ Some left
    → is_enabled net (event_at n act) ≡ true
enabled_at net left n act h = done_enabled n net left (net_happens (event_at n act) net) h

-- one whose packet does not lie there is not
pub no_packet : (net : NetState) (n : ℕ) (act : Act) → node_event net n act ≡ None
    → is_enabled net (event_at n act) ≡ false
unfolding net_happens
no_packet net n act none = rw none refl

-- nor is one that the node refuses
refuses : (net : NetState) (n : ℕ) (act : Act) (b : Option Break)
    → is_done (net_answer n act net (unless_frozen b (Err NotEnabled))) ≡ false
refuses net n act None = refl
refuses net n act (Some b) = refl

refused : (net : NetState) (n : ℕ) (act : Act) (e : NodeEvent) (node : NodeState) → node_at net n ≡ Some node
    → node_event net n act ≡ Some e → at_work e node ≡ Err NotEnabled → is_enabled net (event_at n act) ≡ false
unfolding net_happens happens
refused net n act e node there asked idle = rw (asked, there) (rw idle (refuses net n act node.broken))

-- no byte is taken where none waits
pub none_taken : (net : NetState) (n l : ℕ) (node : NodeState) → node_at net n ≡ Some node
    → (counts_at node l).arrived ≡ None → is_enabled net (event_at n (Take l)) ≡ false
none_taken net n l node there none = refused net n (Take l) (at_node.Take l) node there refl (rw none refl)

-- what is told of a byte that is taken
told_taken : (n : ℕ) (act : Act) (net : NetState) (l : ℕ) (x y : Bool) (byte : ℕ) (o : Offer) (c : Counts)
    (node : NodeState) (b : Option Break) → b ≡ None
    → ends_message (answered (net_answer n act net (unless_frozen b (take_marked l x y byte o c node)))) ≡ (x || y)
told_taken n act net l true true byte o c node None e = refl
told_taken n act net l false false byte o c node None e = refl
told_taken n act net l true false byte o c node None e = refl
told_taken n act net l false true byte o c node None e = refl
told_taken n act net l x y byte o c node (Some b) e = cc

pub taken_told : (net : NetState) (n l : ℕ) (node : NodeState) (a : Arrival) (o : Offer) → node_at net n ≡ Some node
    → node.broken ≡ None → (counts_at node l).arrived ≡ Some a → input_at node l ≡ Some o
    → has_room node.role o (counts_at node l) ≡ true
    → ends_message (answered (net_happens (event_at n (Take l)) net))
    ≡ (a.last || is_full node.role a o (counts_at node l))
unfolding net_happens happens
taken_told net n l node a o there works waits asks room =
    rw (there, waits, asks, room) (told_taken n (Take l) net l a.last (is_full node.role a o (counts_at node l)) a.byte
    o (counts_at node l) node node.broken works)
