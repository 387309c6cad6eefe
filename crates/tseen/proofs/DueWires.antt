-- Where a message may go over, its wire has a step.
use Rattle.std.proofs.Common.{◌≡◌, ℕ, ◌+◌, refl, sym, ap, subst, ◌∙◌, length}
use Rattle.std.proofs.Common.{true, Option, Some, None}
use Rattle.std.specs.List.{list_all}
use Rattle.std.specs.Prelude.{slice_get}
use Rattle.tplan.specs.declared.plan.End.{End}
use Rattle.tplan.specs.declared.plan.NodePlan.{NodePlan}
use Rattle.tplan.specs.declared.plan.SourcePlan.{SourcePlan}
use Rattle.tplan.specs.declared.plan.SinkPlan.{SinkPlan}
use Rattle.tplan.specs.declared.plan.Plan.{Plan}
use Rattle.tproc.specs.declared.offer.Offer.{Offer}
use Rattle.tproc.specs.declared.channels.Side.TheVariants.{Input}
use Rattle.tproc.specs.LinkChannels.{link_end}
use Rattle.tplan.specs.Wires.{all_wires}
use Rattle.tnet.specs.Building.{fault_of}
use Rattle.tnet.specs.Rendezvous.{Node, Configuration, node_of, IsCopy}
use Rattle.tplan.specs.Wires.{end_at, far_end}
use Rattle.tprocesses.specs.Places.{LinkHalf, Kept}
use Rattle.tprocesses.specs.Machine.{Wire, Processor, Sink, role_at}
use Rattle.tprocesses.specs.Machine.{is_open, offer_place}
use Rattle.tprocesses.specs.Machine.{Role, take_place, is_passable, gates_between}
use Rattle.tseen.specs.Shown.{Shows}
use Rattle.tseen.specs.Steps.{AreSteady}
use Rattle.tseen.specs.AgentSteps.{HasStep}
use Rattle.tseen.proofs.After.{State}
use Rattle.tseen.proofs.Copies.{some_is}
use Rattle.tseen.proofs.EndRoles.{sender_found, opens, by_role}
use Rattle.tseen.proofs.Offering.{offering}
use Rattle.tseen.proofs.WireAsks.{asking_half}
use Rattle.tseen.proofs.Due.{due}

module _ (p : Plan) (c c' : Configuration) (s : State) (f e : End) (none : fault_of p ≡ None) (shows : Shows p c s)
    (steady : AreSteady c) (k : IsCopy c f e c') where
  wired : far_end (all_wires p) e ≡ Some f
  wired = ap (λ ws. far_end ws e) (sym shows.wires) ∙ k.wired

  -- the receiver may receive
  abbrev Asking : Role → Type 0
  Asking r = is_passable (take_place r e) (s (take_place r e)) ≡ true

  node_asks : (plan : NodePlan) → slice_get p.nodes e.node ≡ Some plan → Asking Processor
  node_asks plan planned =
      ap (is_passable (LinkHalf e Input))
      (asking_half p none c s e f shows wired k.receiver k.inp k.asks plan planned)

  -- a source asks for nothing
  source_asks_not : (j : ℕ) (source : SourcePlan) → slice_get p.sources j ≡ Some source
      → e.node ≡ length p.nodes + j → e.link ≡ 0 → ⊥
  source_asks_not j source there at zero_link =
      let old = shows.sources j source there in
      let same : old.0 ≡ k.receiver = some_is (sym old.1 ∙ ap (node_of c) (sym at) ∙ k.asks.node) in
      differ (sym k.asks.input ∙ ap (λ i. (link_end k.receiver.machine.control i).input) zero_link
      ∙ ap (λ (x : Node). (link_end x.machine.control 0).input) (sym same) ∙ old.2.input)
    where
      differ : {o : Offer} → Some o ≡ None → ⊥
      differ e = cc

  sink_asks : (j : ℕ) (sink : SinkPlan) → slice_get p.sinks j ≡ Some sink
      → e.node ≡ length p.nodes + length p.sources + j → e.link ≡ 0 → Asking Sink
  sink_asks j sink there at zero_link =
      subst (λ (d : End). is_passable (Kept d) (s (Kept d)) ≡ true)
      (ap (λ m. end_at m 0) (sym at) ∙ ap (end_at e.node) (sym zero_link))
      (ap (is_passable (Kept (end_at (length p.nodes + length p.sources + j) 0))) (shows.sinks j sink there).2.stands)

  asking : Asking (role_at p e.node)
  asking =
      by_role p none e f wired Asking node_asks
      (λ j source there at zero_link. absurd (source_asks_not j source there at zero_link))
      (λ j sink there at zero_link a. sink_asks j sink there at zero_link)

  -- so the wire has a step
  pub wire_due : HasStep p (Wire e) s
  wire_due =
      due p (Wire e) s
      (ap (λ (o : Option End). list_all (λ q. is_open p (Wire e) q (s q)) (gates_between p e o))
      (sender_found p none e f wired)
      ∙ rw (
        opens p none e f wired (offer_place (role_at p f.node) f) (s (offer_place (role_at p f.node) f))
            (offering p c s f e none shows steady wired k.sender k.out k.offers),
        opens p none e f wired (take_place (role_at p e.node) e) (s (take_place (role_at p e.node) e)) asking,
      )
      refl)
