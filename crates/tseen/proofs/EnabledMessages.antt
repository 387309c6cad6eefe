-- A communication on a channel that is enabled is seen.
use Rattle.std.proofs.Common.{◌≡◌, ℕ, refl, sym, ap, subst, ◌∙◌, Some, ◌⊎◌, inl, inr}
use Rattle.tproc.specs.declared.channels.Side.{Side}
use Rattle.tproc.specs.declared.channels.Side.TheVariants.{Input, Output}
use Rattle.tplan.specs.declared.plan.Plan.{Plan}
use Rattle.tnet.specs.Rendezvous.{Configuration}
use Rattle.tprocesses.specs.Places.{Place, Name, Half}
use Rattle.tprocesses.specs.Values.{Value, Request, TakenBy, AwaitedBy, IsHalf, half_in}
use Rattle.tprocesses.specs.Parts.{Doing}
use Rattle.tprocesses.specs.ChannelMessages.{channel_step}
use Rattle.tprocesses.specs.Machine.{Channel, site_of}
use Rattle.tseen.specs.Alternatives.{EnabledMessagesAreSeen}
use Rattle.tseen.specs.AgentSteps.{AgentMakes, HasStep}
use Rattle.tseen.specs.Choices.{enabler_at}
use Rattle.tseen.specs.Messages.{Communicates, channel_of}
use Rattle.tseen.specs.Steps.{LeadsTo}
use Rattle.tseen.proofs.After.{State, After, after_agent_step}
use Rattle.tseen.proofs.Asked.{buffer_for}
use Rattle.tseen.proofs.Due.{due}
use Rattle.tseen.proofs.Enabler.{IsChoosing, WasInterrupted, IsQueued, found, sends}
use Rattle.tseen.proofs.FirstHalves.{half_taken}
use Rattle.tseen.proofs.HalfShown.{channels_now}
use Rattle.tseen.proofs.HalfTaken.{at_planned}
use Rattle.tseen.proofs.LetGo.{HasBeenLet, let_go_then}
use Rattle.tseen.proofs.LetGoShown.{awaited_then, stood_then, let_go_leads}
use Rattle.tseen.proofs.OfferShown.{alone, queued_leads, interrupted_leads}
use Rattle.tseen.proofs.OfferWords.{readied, readied_laid}
use Rattle.tseen.proofs.Taken.{HasTaken}
use Rattle.tseen.proofs.TakenWords.{own_half}

module _ (p : Plan) (c : Configuration) (s s' : State) (n : ℕ) (x y : Name) (k : Communicates p c s s' n x)
    (enabled : enabler_at s n (channel_of k) ≡ Some y) where
  abbrev taken : HasTaken p c s n x k.current s'
  taken = half_taken p c s s' n x k

  abbrev channel : ℕ
  channel = channel_of k

  abbrev own : Request
  own = record { process = x; buffer = buffer_for taken.operation k.current.node.machine.control.registers }

  output_then : s' (Half n channel Output) ≡ IsHalf (TakenBy own)
  output_then =
      subst (λ (side : Side). s' (Half n channel side) ≡ IsHalf (TakenBy own))
      (sends p c s n x k.current s' taken y enabled) (own_half p c s n x k.current s' taken)

  -- the step of the channel, where the process waits that has enabled it
  module _ (q : IsChoosing p c s n x k.current s' taken y enabled) where
    input_then : s' (Half n channel Input) ≡ IsHalf (AwaitedBy y)
    input_then =
        let half = (channels_now p c s n x k.current s' taken (readied p c s n x k.current s' taken y enabled)
        (readied_laid p c s n x k.current s' taken y enabled)
        (alone p c s n x k.current s' taken y enabled)).halves channel Input in
        half.1 ∙ ap IsHalf (sym (ap half_in half.1) ∙ awaited_then p c s n x k.current s' taken y enabled q)

    pub channel_goes : HasStep p (Channel n channel) s'
    channel_goes = due p (Channel n channel) s' (rw (input_then, output_then) refl)

    pub goes_on : (t : State) → AgentMakes p (Channel n channel) s' t → LeadsTo p c n t
    goes_on t makes =
        let_go_leads p c s n x k.current s' taken y enabled q t
        (after_agent_step p (Channel n channel) s' t (λ _ t. HasBeenLet
        (site_of n k.current.plan) p channel y q.context s' t)
        makes (subst (λ (d : Doing). After d s' (λ _ t. HasBeenLet (site_of n k.current.plan) p channel y q.context
        s' t))
        (sym (at_planned p n k.current.plan (channel_step channel) k.current.planned))
        (let_go_then (site_of n k.current.plan) p channel y q.context s' own
        (awaited_then p c s n x k.current s' taken y enabled q) (ap half_in output_then)
        (stood_then p c s n x k.current s' taken y enabled q))))

pub enabled_messages_are_seen : EnabledMessagesAreSeen
enabled_messages_are_seen p c s s' n x y k enabled = by (found p c s n x k.current s' taken y enabled)
  where
    taken : HasTaken p c s n x k.current s'
    taken = half_taken p c s s' n x k

    by : WasInterrupted p c s n x k.current s' taken y enabled
        ⊎ (IsQueued p c s n x k.current s' taken y enabled ⊎ IsChoosing p c s n x k.current s' taken y enabled)
        → LeadsTo p c n s' ⊎ (HasStep p (Channel n (channel_of k)) s'
        × ((t : Place → Value) → AgentMakes p (Channel n (channel_of k)) s' t → LeadsTo p c n t))
    by (inl q) = inl (interrupted_leads p c s n x k.current s' taken y enabled q)
    by (inr (inl q)) = inl (queued_leads p c s n x k.current s' taken y enabled q)
    by (inr (inr q)) =
        inr (channel_goes p c s s' n x y k enabled q, λ t makes. goes_on p c s s' n x y k enabled q t makes)
