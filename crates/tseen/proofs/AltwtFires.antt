-- A process that waits for its alternative is made to go on, where a byte was noticed before at the input of a link.
use Rattle.std.proofs.Common.{◌≡◌, ◌<◌, ℕ, refl, sym, ap, subst, ◌∙◌, Bool, true, false, true≢false, ◌⊎◌, inl, inr}
use Rattle.std.proofs.Common.{None}
use Rattle.std.proofs.lemmas.Bool.{eq-eqb}
use Rattle.std.proofs.lemmas.Option.{slice_get_within}
use Rattle.tcode.specs.declared.instruction.Operation.TheVariants.{Altwt}
use Rattle.tproc.specs.declared.channels.Side.TheVariants.{Input}
use Rattle.tproc.specs.LinkChannels.{link_end}
use Rattle.tplan.specs.declared.plan.End.{End}
use Rattle.tplan.specs.declared.plan.Plan.{Plan}
use Rattle.tplan.specs.Wires.{end_at}
use Rattle.tnet.specs.Rendezvous.{Configuration}
use Rattle.tprocesses.specs.Places.{Place, Name, Standing, LinkHalf, same_place}
use Rattle.tprocesses.specs.Values.{Choice, Context, Awaited, IsLink}
use Rattle.tprocesses.specs.Standing.{forget}
use Rattle.tprocesses.specs.Machine.{Wire, Role, Processor, Source, Sink, Nothing, offer_place, role_at, is_passable}
use Rattle.tprocesses.specs.Machine.{site_of}
use Rattle.tprocesses.proofs.Tidy.{process_machine_is_tidy}
use Rattle.tseen.specs.AgentSteps.{AgentMakes, HasStep}
use Rattle.tseen.specs.Choices.{enables, input_channel}
use Rattle.tseen.specs.Shown.{HasSender}
use Rattle.tseen.specs.Steps.{IsCurrent}
use Rattle.tseen.proofs.After.{State}
use Rattle.tseen.proofs.AltwtMeets.{HasLetGo, WasFired, own_input, own_port, far}
use Rattle.tseen.proofs.AltwtSteps.{is_input_of, IsUnderWay, IsWaiting, port_place, awaited_value}
use Rattle.tseen.proofs.AtOperation.{IsAtOperation, context_at}
use Rattle.tseen.proofs.Finished.{is_stand_of}
use Rattle.tseen.proofs.InputChannels.{input_is_link, input_names_link}
use Rattle.tseen.proofs.EndRoles.{node_role}
use Rattle.tseen.proofs.Silent.{fires_silent}
use Rattle.tseen.proofs.Stepped.{there}
use Rattle.tseen.proofs.FiringWires.{HasFired, firing_due, has_fired}

module _ (p : Plan) (c : Configuration) (s : State) (n : ℕ) (x : Name) (k : IsCurrent p c s n x) (u : State)
    (a : IsAtOperation p c s n x k Altwt u) (choice : Choice) (v : State)
    (way : IsUnderWay (site_of n k.plan) (there p c s n x k).whole p x (context_at p c s n x k a.size) choice u v)
    (s' : State)
    (waits : IsWaiting (site_of n k.plan) (there p c s n x k).whole p x (context_at p c s n x k a.size) v s') (l : ℕ)
    (small : l < 4) (port : enables s n x (input_channel l) ≡ true)
    (noticed : (link_end k.node.machine.control l).noticed ≡ true) where
  abbrev half : Place
  half = LinkHalf (end_at n l) Input

  -- somebody sends there still
  sender : HasSender p s' (end_at n l)
  sender =
      let old : HasSender p s (end_at n l) = k.shows.noticed n l k.plan k.node k.planned k.here noticed in
      record {
        from = old.from;
        joined = old.joined;
        sends = ap (is_passable (offers old.from)) (offer_stays (role_at p old.from.node) old.from) ∙ old.sends;
      }
    where
      offers : End → Place
      offers f = offer_place (role_at p f.node) f

      offer_stays : (r : Role) (f : End) → s' (offer_place r f) ≡ s (offer_place r f)
      offer_stays Source f = far p c s n x k u a choice v way s' waits _ refl refl refl
      offer_stays Processor f = far p c s n x k u a choice v way s' waits _ refl refl refl
      offer_stays Sink f = far p c s n x k u a choice v way s' waits _ refl refl refl
      offer_stays Nothing f = far p c s n x k u a choice v way s' waits _ refl refl refl

  awaited : s' half ≡ IsLink (Awaited x)
  awaited =
      subst (λ i. s' (LinkHalf (end_at n i) Input) ≡ IsLink (Awaited x)) (input_names_link l small)
      (subst (λ b. s' (port_place n b (input_channel l)) ≡ awaited_value x b) (input_is_link l small)
      (waits.awaited (input_channel l) (own_port p c s n x k u a choice v way s' waits (input_channel l) port)))

  -- the wire has a step
  pub link_due : HasStep p (Wire (end_at n l)) s'
  link_due = firing_due p s' n k.plan k.planned l x sender awaited

  -- hands over no message
  pub link_silent : (t : State) (makes : AgentMakes p (Wire (end_at n l)) s' t) → makes.label.deed.message ≡ None
  link_silent t makes =
      fires_silent p s' t (end_at n l) sender.from sender.joined
      (node_role p n (slice_get_within p.nodes n k.plan k.planned)) (Awaited x) awaited refl makes

  -- and makes the process go on
  pub link_lets : (t : State) → AgentMakes p (Wire (end_at n l)) s' t
      → HasLetGo p c s n x k u a choice v way s' waits t
  link_lets t makes =
      record {
        stands = fired.stands;
        inputs = λ q e. by q e (same_place half q) refl;
        others = λ q e f. fired.rest q f (apart q e (same_place half q) refl);
      }
    where
      context : Context
      context = forget (context_at p c s n x k a.size)

      fired : HasFired p s' n k.plan k.planned l x sender awaited context t
      fired = has_fired p s' n k.plan k.planned l x sender awaited context waits.stands t makes

      same_there : (q : Place) → same_place half q ≡ true → half ≡ q
      same_there q e = (process_machine_is_tidy p).told.is_same_place half q e

      stand_apart : (q : Place) → is_input_of n q ≡ true → is_stand_of x q ≡ false
      stand_apart (Standing y) e = absurd (true≢false (sym e))
      stand_apart q e = refl

      apart : (q : Place) → is_input_of n q ≡ false → (b : Bool) → same_place half q ≡ b → same_place half q ≡ false
      apart q e false f = f
      apart q e true f =
          absurd (true≢false (sym (eq-eqb n n refl) ∙ ap (is_input_of n) (same_there q f) ∙ e))

      was : WasFired p c s n x k u a choice v way s' waits t half
      was = (
        l,
        refl,
        own_input p c s n x k u a choice v way s' waits l small
            (own_port p c s n x k u a choice v way s' waits (input_channel l) port),
        fired.taken,
        noticed,
      )

      by : (q : Place) → is_input_of n q ≡ true → (b : Bool) → same_place half q ≡ b
          → (t q ≡ s' q) ⊎ ((t q ≡ s q) ⊎ WasFired p c s n x k u a choice v way s' waits t q)
      by q e false f = inl (fired.rest q (stand_apart q e) f)
      by q e true f =
          inr (inr (subst (WasFired p c s n x k u a choice v way s' waits t) (same_there q f) was))
