-- What an act does to a round node: how much it writes down, after which run there is none, and which room for messages
-- stands.
use Rattle.std.proofs.Common.{◌≡◌, ◌≢◌, ℕ, ◌≤◌, ◌<◌, refl, sym, ap, ◌∙◌, subst, List, length, get_or, set, map, Bool}
use Rattle.std.proofs.Common.{true, false, Option, Some, None, IfSome, ◌⊎◌, inl, inr, arith}
use Rattle.std.specs.Prelude.{if◌then◌else◌}
use Rattle.std.proofs.lemmas.Bool.{cases_eq}
use Rattle.std.proofs.lemmas.List.{set-get_or, get_or-map}
use Rattle.std.proofs.lemmas.Option.{same_Some}
use Rattle.tproc.specs.declared.offer.Offer.{Offer}
use Rattle.tlink.specs.declared.counts.Arrival.{Arrival}
use Rattle.tlink.specs.declared.event.Packet.{Packet}
use Rattle.tlink.specs.declared.event.NodeEvent.{NodeEvent}
use Rattle.tlink.specs.declared.event.NodeEvent.TheVariants as at_node
use Rattle.tlink.specs.Node.{NodeState, due_at}
use Rattle.tlink.specs.Events.{happens, node_left_by}
use Rattle.tplan.specs.declared.event.Act.{Act}
use Rattle.tplan.specs.declared.event.Act.TheVariants.{Run, Send, Data, Take, Ack}
use Rattle.tplan.specs.declared.plan.End.{End}
use Rattle.tnet.specs.declared.inbox.Inbox.{Inbox}
use Rattle.tnet.specs.declared.station.Done.{Done}
use Rattle.tnet.specs.Stations.{box_at, with_carried, asked, input_of, done_of}
use Rattle.tnet.specs.FarEnds.{far_in_row}
use Rattle.tnet.specs.Answers.{KeepsInput, HasMessageRoom}
use Rattle.tnet.proofs.AnswerKinds.{run_emits_none, due_stands}
use Rattle.trounds.specs.Parts.{act_link, sending_to, sendings}
use Rattle.trounds.specs.RoundNodes.{sendings_of}
use Rattle.trounds.proofs.PartRooms.{room_else}

one_sending : (p : Packet) (o : Option End) → length (sending_to p o) ≤ 1
one_sending p None = omega arith
one_sending p (Some e) = omega arith

some_sendings : (row : List (Option End)) (o : Option (ℕ × Packet)) → length (sendings row o) ≤ 1
some_sendings row None = omega arith
some_sendings row (Some (l, p)) = one_sending p (far_in_row row l)

-- how many sendings an act sends
pub few_sendings : (a : Act) (boxes : List Inbox) (e : NodeEvent) (n : ℕ) (far : ℕ → Option End)
    (row : List (Option End)) (node : NodeState) (d : Done)
    → asked a boxes ≡ Some e → done_of n far e node ≡ Some d → length (sendings row d.packet) ≤ sendings_of a
few_sendings Run boxes e n far row node d is did =
    let q : at_node.Run ≡ e = same_Some _ _ is in
    let h : d.packet ≡ None =
    rw did at
    (subst (λ (x : NodeEvent). IfSome (done_of n far x node) (λ (d : Done). d.packet ≡ None)) q
    (run_emits_none n far node)) in
    rw h (omega arith)
few_sendings (Send l) boxes e n far row node d is did = some_sendings row d.packet
few_sendings (Data l) boxes e n far row node d is did = some_sendings row d.packet
few_sendings (Take l) boxes e n far row node d is did = some_sendings row d.packet
few_sendings (Ack l) boxes e n far row node d is did = some_sendings row d.packet

-- an act at this link that keeps its input takes no byte for one
no_input : (a : Act) (boxes : List Inbox) (e : NodeEvent) (node : NodeState) (l : ℕ) → asked a boxes ≡ Some e
    → KeepsInput a l → l ≡ act_link a → input_of e node ≡ None
no_input Run boxes e node l is k same = absurd k
no_input (Send m) boxes e node l is k same = absurd k
no_input (Take m) boxes e node l is k same = absurd (k same)
no_input (Data m) boxes e node l is k same = by (box_at boxes m).carried is
  where
    by : (o : Option Arrival) → with_carried m o ≡ Some e → input_of e node ≡ None
    by None q = cc
    by (Some x) q = let f : at_node.Data m x.byte x.last ≡ e = same_Some _ _ q in rw (← f) refl
no_input (Ack m) boxes e node l is k same = by (box_at boxes m).acknowledged is
  where
    by : (t : Bool) → (if t then Some (at_node.Ack m) else None) ≡ Some e → input_of e node ≡ None
    by false q = cc
    by true q = let f : at_node.Ack m ≡ e = same_Some _ _ q in rw (← f) refl

-- the room that an act has for its message
pub room_for : {A : Type 0} (f : A → ℕ) (a : Act) (boxes : List Inbox) (e : NodeEvent) (node : NodeState) (vs : List A)
    (k : ℕ) (d : A)
    → asked a boxes ≡ Some e → k ≡ act_link a → k < length vs
    → ((l : ℕ) → a ≡ Take l → IfSome (due_at node l) (λ (o : Offer). o.length ≤ get_or (map f vs) l 0))
    → HasMessageRoom (input_of e node) (f (get_or vs k d))
room_for f Run boxes e node vs k d is link lt fits = let q : at_node.Run ≡ e = same_Some _ _ is in rw (← q) tt
room_for f (Send m) boxes e node vs k d is link lt fits =
    let q : at_node.Send m ≡ e = same_Some _ _ is in rw (← q) tt
room_for f (Data m) boxes e node vs k d is link lt fits =
    let q : input_of e node ≡ None = no_input (Data m) boxes e node k is tt link in rw q tt
room_for f (Ack m) boxes e node vs k d is link lt fits =
    let q : input_of e node ≡ None = no_input (Ack m) boxes e node k is tt link in rw q tt
room_for f (Take m) boxes e node vs k d is link lt fits =
    let q : at_node.Take m ≡ e = same_Some _ _ is in
    let room : get_or (map f vs) m 0 ≡ f (get_or vs k d) =
    ap (λ (i : ℕ). get_or (map f vs) i 0) (sym link) ∙ get_or-map f vs k d 0 lt in
    rw (← q, ← room) (fits m refl)

-- the room for a message whose input stands
pub room_stands : {A : Type 0} (f : A → ℕ) (a : Act) (boxes : List Inbox) (e : NodeEvent) (node node' : NodeState)
    (vs : List A) (k l : ℕ) (v d : A)
    → asked a boxes ≡ Some e → node' ≡ node_left_by node (happens e node) → k ≡ act_link a
    → (input_of e node ≡ None → v ≡ get_or vs k d) → KeepsInput a l
    → IfSome (due_at node l) (λ (o : Offer). o.length ≤ get_or (map f vs) l 0)
    → IfSome (due_at node' l) (λ (o : Offer). o.length ≤ get_or (map f (set vs k v)) l 0)
room_stands {A} f a boxes e node node' vs k l v d is left link kept keeps fits = rw (input, by (cases_eq l k)) fits
  where
    input : due_at node' l ≡ due_at node l
    input = ap (λ (x : NodeState). due_at x l) left ∙ due_stands a boxes e node l is keeps

    by : (l ≡ k) ⊎ (l ≢ k) → get_or (map f (set vs k v)) l 0 ≡ get_or (map f vs) l 0
    by (inr ne) = room_else f vs k l v ne
    by (inl q) =
        let h : v ≡ get_or vs k d = kept (no_input a boxes e node l is keeps (q ∙ link)) in
        let s : set vs k v ≡ vs = ap (set vs k) h ∙ set-get_or vs k d in
        ap (λ (xs : List A). get_or (map f xs) l 0) s
