-- Where no step of the rendezvous machine is lawful, a wire to a process that waits for its alternative has no step.
use Rattle.std.proofs.Common.{◌≡◌, refl, sym, ap, subst, ◌∙◌, true, false, true≢false, Option, Some, None}
use Rattle.std.specs.Prelude.{slice_get, slice_index_or}
use Rattle.tplan.specs.declared.plan.End.{End}
use Rattle.tplan.specs.declared.plan.NodePlan.{NodePlan}
use Rattle.tplan.specs.declared.plan.Plan.{Plan}
use Rattle.tlink.specs.Roles.{receives}
use Rattle.tproc.specs.declared.offer.Offer.{Offer}
use Rattle.tproc.specs.declared.channels.Side.TheVariants.{Input}
use Rattle.tproc.specs.LinkChannels.{link_end, quiet_end}
use Rattle.tnet.specs.Rendezvous.{Node, Configuration, Notice, Offers}
use Rattle.tplan.specs.Wires.{far_end}
use Rattle.treduction.specs.Ends.{IsOver as IsAtEnd}
use Rattle.tagents.specs.Walks.{are_open}
use Rattle.tprocesses.specs.Places.{Name, LinkHalf, Standing}
use Rattle.tprocesses.specs.Values.{Value, Stand, Absent, Rests, Runs, Waits, Ended, Chooses, Chosen, Listens, Awaited}
use Rattle.tprocesses.specs.Values.{Fired, IsLink, stand_in, link_in}
use Rattle.tprocesses.specs.Changes.{Put}
use Rattle.tprocesses.specs.Parts.{HasNoStep, require, change, ◌>>=◌, ◌>>◌}
use Rattle.tprocesses.specs.Standing.{stands}
use Rattle.tprocesses.specs.Choosing.{waiting, fires, with_choice}
use Rattle.tprocesses.specs.Machine.{Wire, process_machine, sender_to, passes, role_at, offer_place}
use Rattle.tprocesses.specs.Machine.{is_passable, awaiting}
use Rattle.tseen.specs.Choices.{IsEnabledLink, alternative_of, input_channel, is_due, link_enabler}
use Rattle.tseen.specs.Shown.{Shows, ShowsNode}
use Rattle.tseen.specs.Steps.{AreSteady}
use Rattle.tseen.specs.AgentSteps.{NothingStops}
use Rattle.tseen.proofs.After.{State, After, after_bind, after_require}
use Rattle.tseen.proofs.EndRoles.{found_at, node_role}
use Rattle.tseen.proofs.InputChannels.{input_is_link, input_names_link}
use Rattle.tseen.proofs.Resting.{node, here, shown, stopped_shut, waits_for_choice, waits_for_it}
use Rattle.tseen.proofs.WireAsks.{fires_then}
use Rattle.tseen.proofs.WireEnds.{IsNodeEnd}

-- a process that does not wait for its alternative stops a wire that would make it go on
fires_stuck : (e : End) (x : Name) (s : State) (stand : Stand) → stand_in (s (Standing x)) ≡ stand
    → waits_for_choice stand ≡ false → After (fires e x) s (λ _ _. ⊥)
fires_stuck e x s stand is idle =
    subst (λ (z : Stand). After (waiting z >>= (λ c. change (LinkHalf e Input) (Put (IsLink (Fired x))) >>
    stands x (Chosen (with_choice true c)))) s (λ _ _. ⊥)) (sym is) (by stand idle)
  where
    by : (stand : Stand) → waits_for_choice stand ≡ false
        → After (waiting stand >>= (λ c. change (LinkHalf e Input) (Put (IsLink (Fired x))) >>
        stands x (Chosen (with_choice true c)))) s (λ _ _. ⊥)
    by (Chooses d) h = absurd (true≢false h)
    by Absent h = tt
    by (Rests d) h = tt
    by (Runs d) h = tt
    by (Waits d) h = tt
    by (Chosen d) h = tt
    by Ended h = tt
    by (Listens channel d) h = tt

module _ (p : Plan) (c : Configuration) (s : State) (shows : Shows p c s) (steady : AreSteady c) (over : IsAtEnd c)
    (never : NothingStops p s) (e f : End) (wired : far_end c.wires e ≡ Some f) (joined : sender_to p e ≡ Some f)
    (at_node : IsNodeEnd p e) where
  abbrev plan : NodePlan
  plan = (found_at p.nodes e.node at_node.0).0

  abbrev planned : slice_get p.nodes e.node ≡ Some plan
  planned = (found_at p.nodes e.node at_node.0).1

  abbrev receiver : Node
  receiver = node p c s shows steady over never e.node plan planned

  there : ShowsNode s e.node plan (shows.named e.node) (shows.sent e.node) receiver
  there = shown p c s shows steady over never e.node plan planned

  module _ (sender : Node) (out : Offer) (offers : Offers c f sender out) (x : Name)
      (half : s (LinkHalf e Input) ≡ IsLink (Awaited x))
      (no_input : (link_end receiver.machine.control e.link).input ≡ None)
      (opened : are_open (process_machine p) (Wire e) s ≡ true) where
    it : IsEnabledLink s e.node e.link x
    it = there.choices.linked e.link x at_node.1 (ap (λ (v : Value). link_enabler (link_in v)) half)

    -- it would notice the byte, or the wire stops
    by_stand : (stand : Stand) → stand_in (s (Standing x)) ≡ stand → ⊥
    by_stand stand is = by stand is
      where
        stops : (stand : Stand) → stand_in (s (Standing x)) ≡ stand → waits_for_choice stand ≡ false → ⊥
        stops stand is idle =
            stopped_shut p s (Wire e) never
            (subst (λ (o : Option End). After (passes p o e) s (λ _ _. ⊥)) (sym joined)
            (fires_then p e f s x (λ _ _. ⊥) (node_role p e.node at_node.0)
            (ap (λ (v : Value). awaiting (link_in v)) half)
            (after_bind (require (is_passable (offer_place (role_at p f.node) f) (s (offer_place (role_at p f.node) f)))
            HasNoStep) (λ _. fires e x) s (λ _ _. ⊥)
            (after_require (is_passable (offer_place (role_at p f.node) f) (s (offer_place (role_at p f.node) f)))
            HasNoStep s _ (λ _. fires_stuck e x s stand is idle))))) opened

        by : (stand : Stand) → stand_in (s (Standing x)) ≡ stand → ⊥
        by (Chooses d) g =
            let own = there.choices.owner x (input_channel e.link) it.home it.port in
            let waits : own.0.waits ≡ true = waits_for_it d own.0 (sym (ap alternative_of g) ∙ own.1) in
            let unready = (there.choices.choices x own.0 it.home own.1).unready waits in
            let due : is_due s e.node receiver.machine.control.links (input_channel e.link)
            ≡ (slice_index_or receiver.machine.control.links e.link quiet_end).noticed =
            rw (input_is_link e.link at_node.1, input_names_link e.link at_node.1) refl in
            over (Notice e) _ (record {
              far = f;
              sender = sender;
              node = receiver;
              out = out;
              wired = wired;
              offers = offers;
              here = here p c s shows steady over never e.node plan planned;
              works = there.works;
              listens = ap receives there.role;
              no_input = no_input;
              not_noticed = sym due ∙ unready.1 (input_channel e.link) it.port;
              after = refl;
            })
        by Absent g = stops Absent g refl
        by (Rests d) g = stops (Rests d) g refl
        by (Runs d) g = stops (Runs d) g refl
        by (Waits d) g = stops (Waits d) g refl
        by (Chosen d) g = stops (Chosen d) g refl
        by Ended g = stops Ended g refl
        by (Listens channel d) g = stops (Listens channel d) g refl

    pub awaited_shut : ⊥
    awaited_shut = by_stand (stand_in (s (Standing x))) refl
