-- A wire makes the process go on that waits for its input and for others.
use Rattle.std.proofs.Common.{◌≡◌, ℕ, refl, sym, ap, subst, ◌∙◌, true, false, Option, Some}
use Rattle.std.specs.List.{list_all}
use Rattle.std.specs.Prelude.{slice_get, is_some}
use Rattle.std.proofs.lemmas.Bool.{and_from}
use Rattle.std.proofs.lemmas.Option.{slice_get_within}
use Rattle.tproc.specs.declared.channels.Side.TheVariants.{Input}
use Rattle.tplan.specs.declared.plan.End.{End}
use Rattle.tplan.specs.declared.plan.NodePlan.{NodePlan}
use Rattle.tplan.specs.declared.plan.Plan.{Plan}
use Rattle.tplan.specs.Wires.{end_at}
use Rattle.tprocesses.specs.Places.{Place, Name, Standing, LinkHalf, same_place}
use Rattle.tprocesses.specs.Values.{Value, Context, Chooses, Chosen, Awaited, Fired, IsStand, IsLink, link_in}
use Rattle.tprocesses.specs.Values.{stand_in}
use Rattle.tprocesses.specs.Changes.{Put}
use Rattle.tprocesses.specs.Parts.{Doing, HasNoStep, require, change, ◌>>=◌, ◌>>◌}
use Rattle.tprocesses.specs.Standing.{stands}
use Rattle.tprocesses.specs.Choosing.{with_choice, waiting}
use Rattle.tprocesses.specs.Machine.{Wire, Role, Processor, role_at, site_of, sender_to, offer_place, take_place}
use Rattle.tprocesses.specs.Machine.{is_passable, is_open, gates_between, awaiting, asks, crosses, passes}
use Rattle.tseen.specs.AgentSteps.{AgentMakes, HasStep}
use Rattle.tseen.specs.Shown.{HasSender}
use Rattle.tseen.proofs.After.{State, After, changed, after_bind, after_require, after_agent_step}
use Rattle.tseen.proofs.Due.{due}
use Rattle.tseen.proofs.EndRoles.{node_role}
use Rattle.tseen.proofs.Finished.{is_stand_of, place_itself, stands_then}

module _ (p : Plan) (s : State) (n : ℕ) (plan : NodePlan) (planned : slice_get p.nodes n ≡ Some plan) (l : ℕ) (x : Name)
    (sender : HasSender p s (end_at n l)) (input : s (LinkHalf (end_at n l) Input) ≡ IsLink (Awaited x)) where
  abbrev e : End
  e = end_at n l

  abbrev half : Place
  half = LinkHalf e Input

  role : role_at p n ≡ Processor
  role = node_role p n (slice_get_within p.nodes n plan planned)

  -- the wire has a step
  pub firing_due : HasStep p (Wire e) s
  firing_due =
      due p (Wire e) s
      (ap (λ (o : Option End). list_all (λ q. is_open p (Wire e) q (s q)) (gates_between p e o)) sender.joined
      ∙ rw (
        opens (offer_place (role_at p sender.from.node) sender.from) sender.sends,
        opens (take_place (role_at p n) e) taking,
      )
      refl)
    where
      opens : (q : Place) → is_passable q (s q) ≡ true → is_open p (Wire e) q (s q) ≡ true
      opens q h = and_from _ _ (ap is_some sender.joined) h

      taking : is_passable (take_place (role_at p n) e) (s (take_place (role_at p n) e)) ≡ true
      taking =
          subst (λ (r : Role). is_passable (take_place r e) (s (take_place r e)) ≡ true) (sym role)
          (ap (is_passable half) input)

  module _ (d : Context) where
    -- the process was made to go on
    pub record HasFired (t : State) : Type 0 where
      pub stands : t (Standing x) ≡ IsStand (Chosen (with_choice true d))
      pub taken : t half ≡ IsLink (Fired x)
      pub rest : (q : Place) → is_stand_of x q ≡ false → same_place half q ≡ false → t q ≡ s q

    abbrev Q : Unit {0} → State → Type 0
    Q _ t = HasFired t

    abbrev put : State
    put = changed half (Put (IsLink (Fired x))) s

    abbrev after_waiting : Context → Doing
    after_waiting c = change half (Put (IsLink (Fired x))) >> stands x (Chosen (with_choice true c))

    fires_then : s (Standing x) ≡ IsStand (Chooses d) → After (passes p (sender_to p e) e) s Q
    fires_then stood =
        subst (λ o. After (passes p o e) s Q) (sym sender.joined)
        (subst (λ (r : Role). After (asks r e >>= (λ asked. crosses p sender.from e asked)) s Q) (sym role)
        (subst (λ (v : Value). After (crosses p sender.from e (awaiting (link_in v))) s Q) (sym input)
        (after_bind (require (is_passable offers (s offers)) HasNoStep) _ s Q
        (after_require (is_passable offers (s offers)) HasNoStep s _ (λ offered.
        subst (λ (v : Value). After (waiting (stand_in v) >>= after_waiting) s Q) (sym stood)
        (stands_then (site_of n plan) p x (Chosen (with_choice true d)) put Q (λ t now. record {
          stands = now.is;
          taken = now.others half refl ∙ rw (place_itself p half) refl;
          rest = λ q f g. now.others q f ∙ rw g refl;
        })))))))
      where
        offers : Place
        offers = offer_place (role_at p sender.from.node) sender.from

    pub has_fired : s (Standing x) ≡ IsStand (Chooses d) → (t : State) → AgentMakes p (Wire e) s t → HasFired t
    has_fired stood t makes = after_agent_step p (Wire e) s t Q makes (fires_then stood)
