-- Events that are done name a node of the net, and no link from the fourth on.
use Rattle.std.proofs.Common.{◌≡◌, ℕ, ◌≤◌, refl, sym, ap, ◌∙◌, subst, [], ◌∷◌, length, Bool, true, false, Ok, Err}
use Rattle.std.proofs.Common.{Option, Some, None, ⊎_elim, All, arith}
use Rattle.std.proofs.lemmas.Bool.{cases_lt, true≢false}
use Rattle.std.proofs.lemmas.List.{length-set}
use Rattle.std.proofs.lemmas.List.Elements.{All-nil, All-cons}
use Rattle.std.proofs.lemmas.Option.{same_Some, slice_get_within}
use Rattle.tword.specs.declared.breaks.Break.{Break}
use Rattle.tlink.specs.declared.event.Packet.{Packet}
use Rattle.tlink.specs.declared.event.NodeEvent.{NodeEvent}
use Rattle.tlink.specs.declared.event.StepFault.TheVariants.{NotEnabled, Frozen}
use Rattle.tlink.specs.Node.{NodeState, frozen}
use Rattle.tlink.specs.Events.{Answer, happens}
use Rattle.tplan.specs.declared.event.Act.{Act}
use Rattle.tplan.specs.declared.event.Act.TheVariants.{Run, Send, Data, Take, Ack}
use Rattle.tplan.specs.declared.event.Event.{Event}
use Rattle.tplan.specs.declared.plan.End.{End}
use Rattle.tplan.specs.declared.plan.Plan.{Plan}
use Rattle.tplan.specs.declared.plan.BuildFault.{BuildFault}
use Rattle.tplan.specs.declared.plan.BuildFault.TheVariants.{TooMany}
use Rattle.tnet.specs.Building.{too_many, when, or_else, fault_of, opening_net, unless_fault}
use Rattle.tplan.specs.Wires.{end_at, far_end}
use Rattle.tnet.specs.Net.{NetState, node_at, with_node}
use Rattle.tnet.specs.Packets.{NetAnswer, node_event, received, delivered, sent_off, net_answer, answer_of, net_happens}
use Rattle.tnet.specs.Packets.{with_frozen, after_answer, after_event, then_after, after_events, is_done, is_enabled}
use Rattle.tnet.specs.Sound.{IsSound}
use Rattle.tnet.specs.Corollaries.{NamesLink, NamesPlace, EventsNamePlaces, NetsAreSmall}
use Rattle.tnet.proofs.OpenedNets.{nodes_count}
use Rattle.tnet.proofs.PlannedWires.{few_of}
use Rattle.tnet.proofs.SoundEvents.{stays_sound}
use Rattle.tnet.proofs.QuietEvents.{event_at, not_there, no_send, no_data, no_take, no_ack}

-- packets come and go, and nodes stay
received_nodes : (n : ℕ) (act : Act) (net : NetState) → (received n act net).nodes ≡ net.nodes
received_nodes n Run net = refl
received_nodes n (Send l) net = refl
received_nodes n (Data l) net = refl
received_nodes n (Take l) net = refl
received_nodes n (Ack l) net = refl

delivered_nodes : (p : Packet) (e : Option End) (net : NetState) → (delivered p e net).nodes ≡ net.nodes
delivered_nodes p None net = refl
delivered_nodes p (Some e) net = refl

sent_nodes : (n : ℕ) (p : Option (ℕ × Packet)) (net : NetState) → (sent_off n p net).nodes ≡ net.nodes
sent_nodes n None net = refl
sent_nodes n (Some (l, p)) net = delivered_nodes p (far_end net.wires (end_at n l)) net

frozen_count : (n : ℕ) (b : Break) (o : Option NodeState) (net : NetState)
    → length (with_frozen n b o net).nodes ≡ length net.nodes
frozen_count n b None net = refl
frozen_count n b (Some node) net = length-set net.nodes n (frozen b node)

answer_count : (net net' : NetState) (n : ℕ) (act : Act) (x : Answer)
    → after_answer n net (net_answer n act net x) ≡ Some net' → length net'.nodes ≡ length net.nodes
answer_count net net' n act (Ok (node, emitted)) h =
    ap (λ (w : NetState). length w.nodes) (sym (same_Some _ _ h))
    ∙ ap length (sent_nodes n emitted.packet (with_node n node (received n act net)))
    ∙ length-set (received n act net).nodes n node ∙ ap length (received_nodes n act net)
answer_count net net' n act (Err NotEnabled) h = cc
answer_count net net' n act (Err (Frozen b)) h = ap (λ (w : NetState). length w.nodes) (sym (same_Some _ _ h))
    ∙ frozen_count n b (node_at net n) net

count_by : (net net' : NetState) (n : ℕ) (act : Act) (e : Option NodeEvent) (o : Option NodeState)
    → after_answer n net (answer_of n act net e o) ≡ Some net' → length net'.nodes ≡ length net.nodes
count_by net net' n act (Some e) (Some node) h = answer_count net net' n act (happens e node) h
count_by net net' n act (Some e) None h = cc
count_by net net' n act None (Some node) h = cc
count_by net net' n act None None h = cc

-- an event leaves as many nodes as there were
pub count_stays : (net net' : NetState) (e : Event) → after_event net e ≡ Some net' → length net'.nodes
    ≡ length net.nodes
unfolding net_happens
count_stays net net' e h = count_by net net' e.node e.act (node_event net e.node e.act) (node_at net e.node) h

-- what is done was enabled
answer_done : (n : ℕ) (net net' : NetState) (x : NetAnswer) → after_answer n net x ≡ Some net' → is_done x ≡ true
answer_done n net net' (Ok x) h = refl
answer_done n net net' (Err NotEnabled) h = cc
answer_done n net net' (Err (Frozen b)) h = refl

-- a link of a node at which something is done
link_named : (net : NetState) (n : ℕ) (act : Act) (node : NodeState) → IsSound net → node_at net n ≡ Some node
    → is_enabled net (event_at n act) ≡ true → NamesLink act
link_named net n Run node sound there h = tt
link_named net n (Send l) node sound there h =
    ⊎_elim (λ k. k) (λ past. absurd (true≢false (sym h ∙ no_send net n l node sound there past))) (cases_lt l 4)
link_named net n (Data l) node sound there h =
    ⊎_elim (λ k. k) (λ past. absurd (true≢false (sym h ∙ no_data net n l node sound there past))) (cases_lt l 4)
link_named net n (Take l) node sound there h =
    ⊎_elim (λ k. k) (λ past. absurd (true≢false (sym h ∙ no_take net n l node sound there past))) (cases_lt l 4)
link_named net n (Ack l) node sound there h =
    ⊎_elim (λ k. k) (λ past. absurd (true≢false (sym h ∙ no_ack net n l node sound there past))) (cases_lt l 4)

-- an event that is enabled
named : (net : NetState) (e : Event) → IsSound net → is_enabled net e ≡ true → NamesPlace (length net.nodes) e
unfolding event_at
named net e sound h = by (node_at net e.node) refl
  where
    by : (o : Option NodeState) → node_at net e.node ≡ o → NamesPlace (length net.nodes) e
    by None k = absurd (true≢false (sym h ∙ not_there net e k))
    by (Some node) k = (slice_get_within net.nodes e.node node k, link_named net e.node e.act node sound k h)

-- each event of a run
pub events_name_places : EventsNamePlaces
events_name_places net left [] sound h = All-nil (NamesPlace (length net.nodes))
events_name_places net left (e ∷ events) sound h =
    by (λ mid. events_name_places mid left events) (after_event net e) refl h
  where
    by : ((mid : NetState) → IsSound mid → after_events events mid ≡ Some left
        → All (NamesPlace (length mid.nodes)) events) → (o : Option NetState) → after_event net e ≡ o
        → then_after (after_events events) o ≡ Some left → All (NamesPlace (length net.nodes)) (e ∷ events)
    by others None k g = cc
    by others (Some mid) k g =
        All-cons (NamesPlace (length net.nodes)) e events
        (named net e sound (answer_done e.node net mid (net_happens e net) k))
        (subst (λ (n : ℕ). All (NamesPlace n) events) (count_stays net mid e k)
        (others mid (stays_sound net mid e sound k) g))

-- the net of a plan without a fault has as many nodes as the plan, and those are few
unless_too_many : (b : Bool) (rest : Option BuildFault) → or_else (when b TooMany) rest ≡ None → b ≡ false
unless_too_many false rest h = refl
unless_too_many true rest h = cc

few_of_plan : (p : Plan) → fault_of p ≡ None → length (opening_net p).nodes ≤ 64
unfolding fault_of
few_of_plan p h =
    let few : too_many p ≡ false = unless_too_many (too_many p) _ h in
    omega (arith, (few_of p few).0, nodes_count p)

pub nets_are_small : NetsAreSmall
nets_are_small p net h = by (fault_of p) refl h
  where
    by : (f : Option BuildFault) → fault_of p ≡ f → unless_fault (opening_net p) f ≡ Ok net → length net.nodes ≤ 64
    by None e k = let same : opening_net p ≡ net = cc in
        subst (λ (w : NetState). length w.nodes ≤ 64) same (few_of_plan p e)
    by (Some f) e k = cc
