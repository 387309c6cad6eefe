-- Where an end offers a message in the rendezvous machine, it offers one in the process machine.
use Rattle.std.proofs.Common.{◌≡◌, ℕ, ◌+◌, sym, ap, subst, ◌∙◌, length}
use Rattle.std.proofs.Common.{true, false, Some, None}
use Rattle.std.specs.Prelude.{slice_get}
use Rattle.tplan.specs.declared.plan.End.{End}
use Rattle.tplan.specs.declared.plan.NodePlan.{NodePlan}
use Rattle.tplan.specs.declared.plan.SourcePlan.{SourcePlan}
use Rattle.tplan.specs.declared.plan.SinkPlan.{SinkPlan}
use Rattle.tplan.specs.declared.plan.Plan.{Plan}
use Rattle.tproc.specs.declared.offer.Offer.{Offer}
use Rattle.tproc.specs.declared.channels.Side.TheVariants.{Output}
use Rattle.tproc.specs.LinkChannels.{link_end}
use Rattle.tplan.specs.Wires.{all_wires}
use Rattle.tnet.specs.Building.{fault_of}
use Rattle.tnet.specs.Rendezvous.{Node, Configuration, node_of, was_copied, Offers}
use Rattle.tplan.specs.Wires.{end_at, far_end}
use Rattle.tprocesses.specs.Places.{LinkHalf, Messages}
use Rattle.tprocesses.specs.Machine.{Role, Processor, Source, role_at, offer_place, is_passable}
use Rattle.tseen.specs.Scripts.{ShowsSource}
use Rattle.tseen.specs.Shown.{Shows, ShowsNode}
use Rattle.tseen.specs.Steps.{AreSteady}
use Rattle.tseen.proofs.After.{State}
use Rattle.tseen.proofs.EndRoles.{back, by_role}
use Rattle.tseen.proofs.Sending.{half_is}
use Rattle.tseen.proofs.SourceSends.{has_first}

some_is : {X : Type 0} {a b : X} → Some a ≡ Some b → a ≡ b
some_is e = cc

module _ (p : Plan) (c : Configuration) (s : State) (f e : End) (none : fault_of p ≡ None) (shows : Shows p c s)
    (steady : AreSteady c) (wired : far_end (all_wires p) e ≡ Some f) (sender : Node) (out : Offer)
    (offers : Offers c f sender out) where
  -- the sender may send
  abbrev pub Offering : Role → Type 0
  Offering r = is_passable (offer_place r f) (s (offer_place r f)) ≡ true

  node_offers : (plan : NodePlan) → slice_get p.nodes f.node ≡ Some plan → Offering Processor
  node_offers plan planned =
      ap (is_passable (LinkHalf f Output))
      (half_is p s f.node plan (shows.named f.node) (shows.sent f.node) sender shown
      ((steady f.node sender offers.node).steady shown.role) f.link out offers.output offers.fresh
      (steady f.node sender offers.node).copied)
    where
      shown : ShowsNode s f.node plan (shows.named f.node) (shows.sent f.node) sender
      shown =
          let there = shows.processors f.node plan planned in
          subst (ShowsNode s f.node plan (shows.named f.node) (shows.sent f.node))
          (some_is (sym there.1 ∙ offers.node)) there.2

  source_offers : (j : ℕ) (source : SourcePlan) → slice_get p.sources j ≡ Some source
      → f.node ≡ length p.nodes + j → f.link ≡ 0 → Offering Source
  source_offers j source there at zero_link =
      subst (λ (d : End). is_passable (Messages d) (s (Messages d)) ≡ true) (ap (end_at f.node) (sym zero_link))
      (ap (is_passable (Messages (end_at f.node 0)))
      (has_first s (end_at f.node 0) sender shown out
      (subst (λ i. (link_end sender.machine.control i).output ≡ Some out) zero_link offers.output)
      (subst (λ i. was_copied sender i ≡ false) zero_link offers.fresh)
      (steady f.node sender offers.node).copied).2)
    where
      shown : ShowsSource s (end_at f.node 0) sender
      shown =
          let old = shows.sources j source there in
          let same : node_of c (length p.nodes + j) ≡ Some sender = ap (node_of c) (sym at) ∙ offers.node in
          subst (λ z. ShowsSource s (end_at z 0) sender) (sym at)
          (subst (ShowsSource s (end_at (length p.nodes + j) 0)) (some_is (sym old.1 ∙ same)) old.2)

  -- a sink offers nothing
  sink_offers_not : (j : ℕ) (sink : SinkPlan) → slice_get p.sinks j ≡ Some sink
      → f.node ≡ length p.nodes + length p.sources + j → f.link ≡ 0 → ⊥
  sink_offers_not j sink there at zero_link =
      let old = shows.sinks j sink there in
      let same : old.0 ≡ sender = some_is (sym old.1 ∙ ap (node_of c) (sym at) ∙ offers.node) in
      differ (sym offers.output ∙ ap (λ i. (link_end sender.machine.control i).output) zero_link
      ∙ ap (λ (x : Node). (link_end x.machine.control 0).output) (sym same) ∙ old.2.output)
    where
      differ : {o : Offer} → Some o ≡ None → ⊥
      differ e = cc

  pub offering : Offering (role_at p f.node)
  offering =
      by_role p none f e (back p none e f wired) Offering node_offers source_offers
      (λ j sink there at zero_link a. absurd (sink_offers_not j sink there at zero_link))
