-- Sources and sinks do nothing by themselves, and of their links the first alone offers anything.
use Rattle.std.proofs.Common.{◌≡◌, ℕ, sym, ap, subst, ◌∙◌, List, false, Ok, Some, None}
use Rattle.tproc.specs.declared.offer.Offer.{Offer}
use Rattle.tproc.specs.declared.ran.Ran.TheVariants as ran
use Rattle.tproc.specs.LinkChannels.{link_end}
use Rattle.tproc.specs.Steps.{step}
use Rattle.tlink.specs.Roles.{Role, Processor, Source, Sink}
use Rattle.tlink.specs.Whole.{IsHeld}
use Rattle.tlink.proofs.Held.{script-step, source_offers, sink_offers_none}
use Rattle.tplan.specs.declared.plan.Plan.{Plan}
use Rattle.tnet.specs.Rendezvous.{Node, Configuration, node_of}
use Rattle.tnet.specs.Corollaries.{IsReached}
use Rattle.tnet.proofs.Reached.{reached_veiled}
use Rattle.treduction.specs.Firsts.{IsScript}

module _ (p : Plan) (c : Configuration) (n : ℕ) (node : Node) (r : IsReached p c) (here : node_of c n ≡ Some node) where
  held : IsHeld node.role node.machine
  held = (reached_veiled p c r n node here).0.held

  -- a script has no step
  pub script_rests : IsScript node.role → step node.machine ≡ Ok (node.machine, ran.Idle)
  script_rests = by node.role held
    where
      by : (role : Role) → IsHeld role node.machine → IsScript role → step node.machine ≡ Ok (node.machine, ran.Idle)
      by Processor h k = absurd k
      by (Source over rest) h k = script-step _ node.machine h.control
      by (Sink kept) h k = script-step _ node.machine h.control

  pub script_runs_on : IsScript node.role → node.machine.control.halted ≡ false
  script_runs_on = by node.role held
    where
      by : (role : Role) → IsHeld role node.machine → IsScript role → node.machine.control.halted ≡ false
      by Processor h k = absurd k
      by (Source over rest) h k = ap (λ x. x.halted) h.control
      by (Sink kept) h k = ap (λ x. x.halted) h.control

  -- a source offers at its first link alone
  pub source_link : (over rest : List ℕ) (l : ℕ) (o : Offer) → node.role ≡ Source over rest
      → (link_end node.machine.control l).output ≡ Some o → l ≡ 0
  source_link over rest l o e out =
      (source_offers rest node.machine l o (subst (λ (x : Role). IsHeld x node.machine) e held) out).0

  -- a sink offers nothing
  pub sink_silent : (kept : List ℕ) (l : ℕ) (o : Offer) → node.role ≡ Sink kept
      → (link_end node.machine.control l).output ≡ Some o → ⊥
  sink_silent kept l o e out =
      differ (sym (sink_offers_none kept node.machine l (subst (λ (x : Role). IsHeld x node.machine) e held)) ∙ out)
    where
      differ : None ≡ Some o → ⊥
      differ e = cc
