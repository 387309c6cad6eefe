-- The step of a wire, by who waits at the end that receives: a process that asks for a message, or one that waits for
-- several.
use Rattle.std.proofs.Common.{◌≡◌, refl, sym, ap, subst, ◌∙◌, Option, Some, None}
use Rattle.std.specs.Prelude.{slice_get}
use Rattle.tplan.specs.declared.plan.End.{End}
use Rattle.tplan.specs.declared.plan.NodePlan.{NodePlan}
use Rattle.tplan.specs.declared.plan.Plan.{Plan}
use Rattle.tplan.specs.Wires.{all_wires, far_end}
use Rattle.tproc.specs.declared.offer.Offer.{Offer}
use Rattle.tproc.specs.declared.channels.Side.TheVariants.{Input}
use Rattle.tnet.specs.Building.{fault_of}
use Rattle.tnet.specs.Rendezvous.{Node, Configuration, Asks}
use Rattle.tprocesses.specs.Places.{Name, LinkHalf}
use Rattle.tprocesses.specs.Values.{Value, IsLink, Offered, link_in}
use Rattle.tprocesses.specs.Machine.{Role, Processor, Source, Sink, Nothing, role_at, asks, crosses, passes, awaiting}
use Rattle.tseen.specs.Halves.{IsInput, request_of}
use Rattle.tseen.specs.Shown.{Shows, ShowsNode}
use Rattle.tseen.proofs.After.{State, After, after_bind}
use Rattle.tseen.proofs.EndRoles.{small_link, by_role}

-- no process waits at an end for its input and for others
abbrev pub AwaitsNone : Plan → State → End → Role → Type 0
AwaitsNone p s e r = r ≡ Processor → awaiting (link_in (s (LinkHalf e Input))) ≡ None

-- so the wire looks at nobody
pub asks_nobody : (e : End) (s : State) (r : Role) (Q : Option Name → State → Type 0)
    → (r ≡ Processor → awaiting (link_in (s (LinkHalf e Input))) ≡ None) → Q None s → After (asks r e) s Q
asks_nobody e s Processor Q none h = subst (λ (o : Option Name). Q o s) (sym (none refl)) h
asks_nobody e s Source Q none h = h
asks_nobody e s Sink Q none h = h
asks_nobody e s Nothing Q none h = h

-- and a message goes over
pub passes_then : (p : Plan) (e f : End) (s : State) (Q : Unit {0} → State → Type 0)
    → AwaitsNone p s e (role_at p e.node) → After (crosses p f e None) s Q → After (passes p (Some f) e) s Q
passes_then p e f s Q none h =
    after_bind (asks (role_at p e.node) e) (crosses p f e) s Q (asks_nobody e s (role_at p e.node) _ none h)

-- else the process that waits there
pub fires_then : (p : Plan) (e f : End) (s : State) (x : Name) (Q : Unit {0} → State → Type 0)
    → role_at p e.node ≡ Processor → awaiting (link_in (s (LinkHalf e Input))) ≡ Some x
    → After (crosses p f e (Some x)) s Q → After (passes p (Some f) e) s Q
fires_then p e f s x Q role is h =
    after_bind (asks (role_at p e.node) e) (crosses p f e) s Q
    (subst (λ (r : Role). After (asks r e) s (λ o t. After (crosses p f e o) t Q)) (sym role)
    (subst (λ (o : Option Name). After (crosses p f e o) s Q) (sym is) h))

module _ (p : Plan) (none : fault_of p ≡ None) (c : Configuration) (s : State) (e f : End) (shows : Shows p c s)
    (wired : far_end (all_wires p) e ≡ Some f) (receiver : Node) (inp : Offer) (asked : Asks c e receiver inp) where
  -- an input that is pending has its half
  pub asking_half : (plan : NodePlan) → slice_get p.nodes e.node ≡ Some plan
      → s (LinkHalf e Input) ≡ IsLink (Offered (request_of (shows.named e.node) inp))
  asking_half plan planned =
      subst (λ (o : Option Offer). IsInput (shows.named e.node) o (s (LinkHalf e Input))) asked.input
      (shown.links e.link (small_link p none e f wired)).input
    where
      some_is : {a b : Node} → Some a ≡ Some b → a ≡ b
      some_is e = cc

      shown : ShowsNode s e.node plan (shows.named e.node) (shows.sent e.node) receiver
      shown =
          let there = shows.processors e.node plan planned in
          subst (ShowsNode s e.node plan (shows.named e.node) (shows.sent e.node))
          (some_is (sym there.1 ∙ asked.node)) there.2

  -- so no process waits there for others
  pub asking_awaits : AwaitsNone p s e (role_at p e.node)
  asking_awaits =
      by_role p none e f wired (AwaitsNone p s e)
      (λ plan planned r. ap (λ (v : Value). awaiting (link_in v)) (asking_half plan planned))
      (λ j source there at zero_link r. absurd (other r)) (λ j sink there at zero_link a r. absurd (not_sink r))
    where
      other : Source ≡ Processor → ⊥
      other e = cc

      not_sink : Sink ≡ Processor → ⊥
      not_sink e = cc
