-- An event of one node among others, and of a net.
use Rattle.std.proofs.Common.{◌≡◌, ℕ, ◌<◌, ◌≤◌, refl, sym, ap, ◌∙◌, List, length, set, slice_index_or, Option, Some}
use Rattle.std.proofs.Common.{None}
use Rattle.std.proofs.Common.{Result, Ok, Err}
use Rattle.std.proofs.lemmas.List.{set-get_or}
use Rattle.std.proofs.lemmas.Option.{slice_get_read, slice_get_past, get_or_from_slice_get}
use Rattle.tlink.specs.declared.event.NodeEvent.{NodeEvent}
use Rattle.tlink.specs.declared.event.Emitted.{Emitted}
use Rattle.tlink.specs.declared.event.StepFault.{StepFault}
use Rattle.tlink.specs.declared.event.StepFault.TheVariants.{NotEnabled, Frozen}
use Rattle.tlink.specs.Node.{NodeState}
use Rattle.tlink.specs.Events.{Answer, happens, node_left_by, node_answered, is_node_done, is_node_enabled}
use Rattle.tplan.specs.declared.event.Act.{Act}
use Rattle.tplan.specs.declared.event.Act.TheVariants.{Run, Send, Data, Take, Ack}
use Rattle.tplan.specs.declared.event.Event.{Event}
use Rattle.tnet.specs.Net.{NetState, node_at, with_node}
use Rattle.tnet.specs.Packets.{node_event, received, sent_off, net_answer, answer_of, net_happens, is_done, is_enabled}
use Rattle.tnet.specs.Answers.{DoesEvent, DoesNet, DoesAt}

-- the node that was read at a place and written back
pub stepped_at : (n place : ℕ) (e : NodeEvent) (net : NetState) (node node' : NodeState) (r : Result Emitted StepFault)
    → place ≡ n → place < length net.nodes → node ≡ slice_index_or net.nodes place node
    → r ≡ node_answered (happens e node) → node' ≡ node_left_by node (happens e node)
    → DoesAt n e (node_at net n) net r (with_node place node' net)
stepped_at n place e net node node' r same within read told left =
    rw (← same, slice_get_read net.nodes (length net.nodes) place node refl within read)
    (told, ap (λ (x : NodeState). with_node place x net) left)

-- a packet that is received leaves the nodes alone
received-with_node : (n k : ℕ) (act : Act) (node : NodeState) (net : NetState)
    → received n act (with_node k node net) ≡ with_node k node (received n act net)
received-with_node n k Run node net = refl
received-with_node n k (Send l) node net = refl
received-with_node n k (Data l) node net = refl
received-with_node n k (Take l) node net = refl
received-with_node n k (Ack l) node net = refl

-- the node's answer is done
done_by : (e : Event) (asked : NodeEvent) (net : NetState) (node : NodeState) (x : Emitted) (a : Answer)
    → node_answered a ≡ Ok x
    → DoesNet e (net_answer e.node e.act net a) net (Ok x)
    (sent_off e.node x.packet (received e.node e.act (with_node e.node (node_left_by node a) net)))
done_by e asked net node x (Ok (node', y)) h =
    let q : y ≡ x = cc in
    record {
      told = ap Ok (sym q);
      left = rw (received-with_node e.node e.node e.act node' net, q) refl;
    }
done_by e asked net node x (Err f) h = cc

-- the node's answer is a fault
refused_by : (e : Event) (net : NetState) (node : NodeState) (f : StepFault) (a : Answer)
    → node_at net e.node ≡ Some node → node_answered a ≡ Err f
    → DoesNet e (net_answer e.node e.act net a) net (Err f) (with_node e.node (node_left_by node a) net)
refused_by e net node f (Ok (node', y)) there h = cc
refused_by e net node f (Err NotEnabled) there h =
    let q : NotEnabled ≡ f = cc in
    let same : set net.nodes e.node node ≡ net.nodes =
    ap (set net.nodes e.node) (sym (get_or_from_slice_get net.nodes e.node node node there))
    ∙ set-get_or net.nodes e.node node in
    record { told = ap Err (sym q); left = ap (λ (x : List NodeState). record net { nodes = x }) same }
refused_by e net node f (Err (Frozen b)) there h =
    let q : Frozen b ≡ f = cc in
    record { told = ap Err (sym q); left = rw there refl }

-- an event that is done
pub event_done : (e : Event) (asked : NodeEvent) (net net' : NetState) (x : Emitted) (r : Result Emitted StepFault)
    → node_event net e.node e.act ≡ Some asked → DoesAt e.node asked (node_at net e.node) net r net' → r ≡ Ok x
    → DoesEvent e net (Ok x) (sent_off e.node x.packet (received e.node e.act net'))
unfolding net_happens
event_done e asked net net' x r is does ok = by (node_at net e.node) refl does
  where
    by : (o : Option NodeState) → node_at net e.node ≡ o → DoesAt e.node asked o net r net'
        → DoesNet e (answer_of e.node e.act net (node_event net e.node e.act) (node_at net e.node)) net (Ok x)
        (sent_off e.node x.packet (received e.node e.act net'))
    by None there d = let q : Err NotEnabled ≡ Ok x = sym d.0 ∙ ok in cc
    by (Some node) there d = rw (is, there, d.1) (done_by e asked net node x (happens asked node) (sym d.0 ∙ ok))

-- an event that is not
pub event_refused : (e : Event) (asked : NodeEvent) (net net' : NetState) (f : StepFault) (r : Result Emitted StepFault)
    → node_event net e.node e.act ≡ Some asked → DoesAt e.node asked (node_at net e.node) net r net' → r ≡ Err f
    → DoesEvent e net (Err f) net'
unfolding net_happens
event_refused e asked net net' f r is does err = by (node_at net e.node) refl does
  where
    by : (o : Option NodeState) → node_at net e.node ≡ o → DoesAt e.node asked o net r net'
        → DoesNet e (answer_of e.node e.act net (node_event net e.node e.act) (node_at net e.node)) net (Err f) net'
    by None there d =
        let q : f ≡ NotEnabled = let z : ◌≡◌ {A = Result Emitted StepFault} (Err f) (Err NotEnabled) = sym err ∙ d.0 in
        cc in
        rw (is, there) (record { told = ap Err q; left = d.1 })
    by (Some node) there d = rw (is, there, d.1) (refused_by e net node f (happens asked node) there (sym d.0 ∙ err))

-- an event of a node that is not there
pub nobody : (e : Event) (net : NetState) → length net.nodes ≤ e.node
    → DoesEvent e net (Err NotEnabled) net
unfolding net_happens
nobody e net past = rw (slice_get_past net.nodes e.node past) (by (node_event net e.node e.act))
  where
    by : (o : Option NodeEvent) → DoesNet e (answer_of e.node e.act net o None) net (Err NotEnabled) net
    by None = record { told = refl; left = refl }
    by (Some asked) = record { told = refl; left = refl }

-- an event is enabled where its node does what it is asked for
pub asked_at : (e : Event) (asked : NodeEvent) (net : NetState) (node : NodeState)
    → node_event net e.node e.act ≡ Some asked → node_at net e.node ≡ Some node
    → is_enabled net e ≡ is_node_enabled asked node
unfolding net_happens
asked_at e asked net node is there = rw (is, there) (by (happens asked node))
  where
    by : (a : Answer) → is_done (net_answer e.node e.act net a) ≡ is_node_done a
    by (Ok (node', x)) = refl
    by (Err NotEnabled) = refl
    by (Err (Frozen b)) = refl
