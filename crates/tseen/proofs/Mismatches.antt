-- Where an input and the offer that is wired to it differ in length, the step of the wire stops.
use Rattle.std.proofs.Common.{◌≡◌, ◌≢◌, ℕ, ◌+◌, refl, sym, ap, subst, ◌∙◌, [], length}
use Rattle.std.proofs.Common.{Bool, true, false, Option, Some, None}
use Rattle.std.specs.List.{list_all}
use Rattle.std.specs.Prelude.{◌==◌, is_some, slice_get}
use Rattle.std.proofs.lemmas.Bool.{ne_eqb}
use Rattle.tword.specs.Stores.{Store, cells, place}
use Rattle.tlink.specs.Roles.{Role as LinkRole}
use Rattle.tplan.specs.declared.plan.End.{End}
use Rattle.tplan.specs.declared.plan.NodePlan.{NodePlan}
use Rattle.tplan.specs.declared.plan.SourcePlan.{SourcePlan}
use Rattle.tplan.specs.declared.plan.SinkPlan.{SinkPlan}
use Rattle.tplan.specs.declared.plan.Plan.{Plan}
use Rattle.tproc.specs.declared.offer.Offer.{Offer}
use Rattle.tproc.specs.declared.channels.Side.TheVariants.{Input, Output}
use Rattle.tproc.specs.LinkChannels.{link_end}
use Rattle.tplan.specs.Wires.{all_wires}
use Rattle.tnet.specs.Building.{fault_of}
use Rattle.tnet.specs.Rendezvous.{Node, Configuration, node_of, was_copied, IsMismatch, Differs}
use Rattle.tplan.specs.Wires.{end_at, far_end}
use Rattle.tagents.specs.Walks.{are_open, label_of, state_after, deed_of}
use Rattle.tprocesses.specs.Places.{LinkHalf, Messages}
use Rattle.tprocesses.specs.Values.{Value, IsLink, Offered, link_in}
use Rattle.tprocesses.specs.Parts.{Deed, walk_of}
use Rattle.tprocesses.specs.LinkMessages.{node_sends, source_sends, node_receives, received_by}
use Rattle.tprocesses.specs.Machine.{Wire, Processor, Source, role_at, site_of, process_machine, step_of}
use Rattle.tprocesses.specs.Machine.{sends, receives, passes, is_open, offer_place}
use Rattle.tprocesses.specs.Machine.{Role, take_place, is_passable, gates_between}
use Rattle.tseen.specs.Halves.{request_of}
use Rattle.tseen.specs.Scripts.{ShowsSource}
use Rattle.tseen.specs.Shown.{Shows, ShowsNode}
use Rattle.tseen.specs.Steps.{IsSteady, AreSteady}
use Rattle.tseen.specs.Linked.{IsStopped, MismatchesStop}
use Rattle.tseen.proofs.After.{State, After, after_bind, after_weaken, walked}
use Rattle.tseen.proofs.Cells.{knows-length, range-length}
use Rattle.tseen.proofs.Copies.{some_is, at_site_then}
use Rattle.tseen.proofs.EndRoles.{back, sender_found, opens, by_role}
use Rattle.tseen.proofs.WireAsks.{passes_then, asking_half, asking_awaits}
use Rattle.tseen.proofs.Sending.{node_sends_then, half_is, stay, message_known, message_length}
use Rattle.tseen.proofs.SourceSends.{has_first, lies_there, source_sends_then}

module _ (p : Plan) (c : Configuration) (s : State) (n : ℕ) (none : fault_of p ≡ None) (shows : Shows p c s)
    (steady : AreSteady c) (k : IsMismatch c n) where
  abbrev e : End
  e = end_at n k.link

  abbrev f : End
  f = k.far

  wired : far_end (all_wires p) e ≡ Some f
  wired = ap (λ ws. far_end ws e) (sym shows.wires) ∙ k.wired

  back_there : far_end (all_wires p) f ≡ Some e
  back_there = back p none e f wired

  four : length k.sender.copied ≡ 4
  four = (steady f.node k.sender k.offers.node).copied

  -- a message of the offer's length went over, and the input is still there
  abbrev WentOver : Store → State → Type 0
  WentOver message t = (length message ≡ k.out.length) × (t (LinkHalf e Input) ≡ s (LinkHalf e Input))

  -- the sender may send, and then a message of its length goes over
  record Sends (r : Role) : Type 0 where
    open_to : is_passable (offer_place r f) (s (offer_place r f)) ≡ true
    goes : After (sends p r f) s WentOver

  node_sends_there : (plan : NodePlan) → slice_get p.nodes f.node ≡ Some plan → Sends Processor
  node_sends_there plan planned =
      record {
        open_to = ap (is_passable (LinkHalf f Output)) half;
        goes = at_site_then p f.node plan (node_sends f) s WentOver planned
            (node_sends_then p s f.node plan (shows.named f.node) (shows.sent f.node) k.sender shown ready f.link k.out
            k.offers.output k.offers.fresh four WentOver (λ message t z. (
              knows-length message (cells k.sender.machine.store k.out.buffer k.out.length)
                  (message_known p s f.node plan (shows.named f.node) (shows.sent f.node) k.sender shown ready f.link
                  k.out k.offers.output k.offers.fresh four message t z)
                  ∙ message_length p s f.node plan (shows.named f.node) (shows.sent f.node) k.sender shown ready f.link
                  k.out k.offers.output k.offers.fresh four message t z,
              stay p s f.node plan (shows.named f.node) (shows.sent f.node) k.sender shown ready f.link k.out
                  k.offers.output k.offers.fresh four message t z (LinkHalf e Input) refl refl,
            )));
      }
    where
      shown : ShowsNode s f.node plan (shows.named f.node) (shows.sent f.node) k.sender
      shown =
          let there = shows.processors f.node plan planned in
          subst (ShowsNode s f.node plan (shows.named f.node) (shows.sent f.node))
          (some_is (sym there.1 ∙ k.offers.node)) there.2

      ready : IsSteady k.sender
      ready = (steady f.node k.sender k.offers.node).steady shown.role

      half : s (LinkHalf f Output) ≡ IsLink (Offered (request_of (shows.named f.node) k.out))
      half =
          half_is p s f.node plan (shows.named f.node) (shows.sent f.node) k.sender shown ready f.link k.out
          k.offers.output k.offers.fresh four

  source_sends_there : (j : ℕ) (source : SourcePlan) → slice_get p.sources j ≡ Some source
      → f.node ≡ length p.nodes + j → f.link ≡ 0 → Sends Source
  source_sends_there j source there at zero_link =
      record {
        open_to = subst (λ (d : End). is_passable (Messages d) (s (Messages d)) ≡ true)
            (ap (end_at f.node) (sym zero_link))
            (ap (is_passable (Messages (end_at f.node 0)))
            (has_first s (end_at f.node 0) k.sender shown k.out output fresh four).2);
        goes = subst (λ (d : End). After (source_sends d) s WentOver) (ap (end_at f.node) (sym zero_link))
            (source_sends_then s (end_at f.node 0) k.sender shown k.out output fresh four WentOver (λ message t z. (
              knows-length message (cells k.sender.machine.store k.out.buffer k.out.length) z.knows
                  ∙ range-length k.sender.machine.store (place k.out.buffer) k.out.length
                  (lies_there s (end_at f.node 0) k.sender shown k.out output fresh four),
              z.others (LinkHalf e Input) refl,
            )));
      }
    where
      output : (link_end k.sender.machine.control 0).output ≡ Some k.out
      output = subst (λ i. (link_end k.sender.machine.control i).output ≡ Some k.out) zero_link k.offers.output

      fresh : was_copied k.sender 0 ≡ false
      fresh = subst (λ i. was_copied k.sender i ≡ false) zero_link k.offers.fresh

      shown : ShowsSource s (end_at f.node 0) k.sender
      shown =
          let old = shows.sources j source there in
          let same : node_of c (length p.nodes + j) ≡ Some k.sender = ap (node_of c) (sym at) ∙ k.offers.node in
          subst (λ z. ShowsSource s (end_at z 0) k.sender) (sym at)
          (subst (ShowsSource s (end_at (length p.nodes + j) 0)) (some_is (sym old.1 ∙ same)) old.2)

  -- a sink offers nothing
  sink_sends_there : (j : ℕ) (sink : SinkPlan) → slice_get p.sinks j ≡ Some sink
      → f.node ≡ length p.nodes + length p.sources + j → f.link ≡ 0 → ⊥
  sink_sends_there j sink there at zero_link =
      let old = shows.sinks j sink there in
      let same : old.0 ≡ k.sender = some_is (sym old.1 ∙ ap (node_of c) (sym at) ∙ k.offers.node) in
      differ (sym k.offers.output ∙ ap (λ i. (link_end k.sender.machine.control i).output) zero_link
      ∙ ap (λ (x : Node). (link_end x.machine.control 0).output) (sym same) ∙ old.2.output)
    where
      differ : {o : Offer} → Some o ≡ None → ⊥
      differ e = cc

  sends_there : Sends (role_at p f.node)
  sends_there =
      by_role p none f e back_there Sends node_sends_there source_sends_there
      (λ j sink there at zero_link a. absurd (sink_sends_there j sink there at zero_link))

  -- the receiver is a processor, which asks for another length
  record Refuses (r : Role) : Type 0 where
    open_to : is_passable (take_place r e) (s (take_place r e)) ≡ true
    goes : (message : Store) (t : State) → length message ≡ k.out.length
        → t (LinkHalf e Input) ≡ s (LinkHalf e Input) → After (receives p r e message) t (λ _ _. ⊥)

  node_refuses : (plan : NodePlan) → slice_get p.nodes e.node ≡ Some plan → Refuses Processor
  node_refuses plan planned =
      record {
        open_to = ap (is_passable (LinkHalf e Input)) half;
        goes = λ message t long same. at_site_then p e.node plan (node_receives message e) t (λ _ _. ⊥) planned
            (subst (λ (v : Value). After (received_by (site_of e.node plan) e message (link_in v)) t (λ _ _. ⊥))
            (sym (same ∙ half)) (stops message t (ne_eqb k.inp.length (length message) (λ g.
            differs (sym long ∙ sym g)))));
      }
    where
      shown : ShowsNode s e.node plan (shows.named e.node) (shows.sent e.node) k.receiver
      shown =
          let there = shows.processors e.node plan planned in
          subst (ShowsNode s e.node plan (shows.named e.node) (shows.sent e.node))
          (some_is (sym there.1 ∙ k.asks.node)) there.2

      half : s (LinkHalf e Input) ≡ IsLink (Offered (request_of (shows.named e.node) k.inp))
      half = asking_half p none c s e f shows wired k.receiver k.inp k.asks plan planned

      differs : k.out.length ≢ k.inp.length
      differs = subst (λ (r : LinkRole). Differs r k.out k.inp) shown.role k.differ

      stops : (message : Store) (t : State) → (k.inp.length == length message) ≡ false
          → After (received_by (site_of e.node plan) e message
          (Offered (request_of (shows.named e.node) k.inp))) t (λ _ _. ⊥)
      stops message t h = rw (h, After) tt

  -- a source asks for nothing, and a sink names no length
  source_asks_not : (j : ℕ) (source : SourcePlan) → slice_get p.sources j ≡ Some source
      → e.node ≡ length p.nodes + j → e.link ≡ 0 → ⊥
  source_asks_not j source there at zero_link =
      let old = shows.sources j source there in
      let same : old.0 ≡ k.receiver = some_is (sym old.1 ∙ ap (node_of c) (sym at) ∙ k.asks.node) in
      differ (sym k.asks.input ∙ ap (λ i. (link_end k.receiver.machine.control i).input) zero_link
      ∙ ap (λ (x : Node). (link_end x.machine.control 0).input) (sym same) ∙ old.2.input)
    where
      differ : {o : Offer} → Some o ≡ None → ⊥
      differ e = cc

  sink_fits : (j : ℕ) (sink : SinkPlan) → slice_get p.sinks j ≡ Some sink
      → e.node ≡ length p.nodes + length p.sources + j → ⊥
  sink_fits j sink there at =
      let old = shows.sinks j sink there in
      let same : old.0 ≡ k.receiver = some_is (sym old.1 ∙ ap (node_of c) (sym at) ∙ k.asks.node) in
      subst (λ (r : LinkRole). Differs r k.out k.inp) (ap (λ (x : Node). x.role) (sym same) ∙ old.2.role) k.differ

  refuses_there : Refuses (role_at p e.node)
  refuses_there =
      by_role p none e f wired Refuses node_refuses
      (λ j source there at zero_link. absurd (source_asks_not j source there at zero_link))
      (λ j sink there at zero_link a. absurd (sink_fits j sink there at))

  -- so the wire has a step
  wire_opens : are_open (process_machine p) (Wire e) s ≡ true
  wire_opens =
      ap (λ (o : Option End). list_all (λ q. is_open p (Wire e) q (s q)) (gates_between p e o))
      (sender_found p none e f wired)
      ∙ rw (
        opens p none e f wired (offer_place (role_at p f.node) f) (s (offer_place (role_at p f.node) f))
            sends_there.open_to,
        opens p none e f wired (take_place (role_at p e.node) e) (s (take_place (role_at p e.node) e))
            refuses_there.open_to,
      )
      refl

  -- and it does not go through
  wire_refuses : After (step_of p (Wire e)) s (λ _ _. ⊥)
  wire_refuses =
      subst (λ (o : Option End). After (passes p o e) s (λ _ _. ⊥)) (sym (sender_found p none e f wired))
      (passes_then p e f s (λ _ _. ⊥) (asking_awaits p none c s e f shows wired k.receiver k.inp k.asks)
      (after_bind (sends p (role_at p f.node) f) _ s (λ _ _. ⊥)
      (after_weaken (sends p (role_at p f.node) f) s WentOver _ sends_there.goes (λ message t h.
      after_bind (receives p (role_at p e.node) e message) _ t (λ _ _. ⊥) (refuses_there.goes message t h.0 h.1)))))

  abbrev deed : Deed
  deed = deed_of (walk_of (step_of p (Wire e))) s

  deed_stops : is_some deed.stops ≡ true
  deed_stops = by (is_some deed.stops) refl
    where
      by : (t : Bool) → is_some deed.stops ≡ t → is_some deed.stops ≡ true
      by true h = h
      by false h =
          absurd (walked (record { changes = []; message = None; stops = None }) (step_of p (Wire e)) s (λ _ _. ⊥)
          wire_refuses h)

  pub wire_stops : IsStopped p e s
  wire_stops =
      record {
        label = label_of (process_machine p) (Wire e) s;
        after = state_after (process_machine p) deed s;
        agent = refl;
        step = rw wire_opens refl;
        stops = deed_stops;
      }

-- mismatches
pub mismatches_stop : MismatchesStop
mismatches_stop p c s n none shows steady k = wire_stops p c s n none shows steady k
