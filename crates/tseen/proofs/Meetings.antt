-- The second of two processes at an internal channel is seen.
use Rattle.tseen.specs.Messages.{FindsOther}
use Rattle.std.proofs.Common.{◌≡◌, refl, subst, sym, ℕ}
use Rattle.tproc.specs.declared.channels.Side.TheVariants.{Input, Output}
use Rattle.tproc.specs.declared.channels.Side.{Side}
use Rattle.tplan.specs.declared.plan.Plan.{Plan}
use Rattle.tnet.specs.Rendezvous.{Configuration}
use Rattle.tprocesses.specs.Machine.{Channel, site_of}
use Rattle.tprocesses.specs.Values.{TakenBy, Rests, Request, IsHalf, Runs}
use Rattle.tprocesses.specs.Places.{Half, Name}
use Rattle.tprocesses.specs.Standing.{forget, unsave}
use Rattle.tprocesses.specs.Parts.{Doing}
use Rattle.tprocesses.specs.Touching.{Site}
use Rattle.tprocesses.specs.ChannelMessages.{channel_step}
use Rattle.tprocesses.specs.Machine.{Channel, site_of}
use Rattle.tseen.specs.AgentSteps.{HasStep, AgentMakes}
use Rattle.tseen.specs.Messages.{MeetingsGoOn, Communicates, channel_of, MeetingsAreSeen}
use Rattle.tseen.specs.Steps.{Makes}
use Rattle.tseen.proofs.Meeting.{AreThere, HaveMet, channel_then}
use Rattle.tseen.proofs.Taken.{opposite, HasTaken}
use Rattle.tseen.proofs.Asked.{side_of}
use Rattle.tseen.proofs.AtOperation.{context_at}
use Rattle.tseen.proofs.After.{State, After, after_bind, after_step, after_agent_step}
use Rattle.tseen.proofs.Due.{due, process_due}
use Rattle.tseen.proofs.Finished.{stands_then}
use Rattle.tseen.proofs.Running.{RunsThere}
use Rattle.tseen.proofs.Stepped.{there}
use Rattle.tseen.proofs.Saving.{unsave_then}
use Rattle.tseen.proofs.Jumps.{resting_then}
use Rattle.tseen.proofs.HalfTaken.{at_planned}
use Rattle.tseen.proofs.Partner.{own, asked, IsPartner, stands_there, both_there}
use Rattle.tseen.proofs.MeetingWords.{again, HaveGoneOn}
use Rattle.tseen.proofs.MeetingShown.{meeting_leads}
use Rattle.tseen.proofs.FirstHalves.{half_taken}

module _ (p : Plan) (c : Configuration) (s s' : State) (n : ℕ) (x : Name) (k : Communicates p c s s' n x)
    (differs : FindsOther k) where
  abbrev site : Site
  site = site_of n k.current.plan

  abbrev running : RunsThere s n k.current.plan k.current.node x
  running = there p c s n x k.current

  abbrev taken : HasTaken p c s n x k.current s'
  taken = half_taken p c s s' n x k

  abbrev beside : IsPartner p c s n x k.current s' taken differs
  beside = stands_there p c s n x k.current s' taken differs

  -- after the step of the channel
  abbrev Met : State → Type 0
  Met t =
      HaveMet site running.whole p (channel_of k) (side_of taken.operation) (own p c s n x k.current s' taken differs)
      (asked p c s n x k.current s' taken differs) (forget (context_at p c s n x k.current taken.size)) beside.context
      s' t

  they_meet : (t : State) → AgentMakes p (Channel n (channel_of k)) s' t → Met t
  they_meet t makes =
      after_agent_step p (Channel n (channel_of k)) s' t (λ _ t. Met t) makes
      (subst (λ (d : Doing). After d s' (λ _ t. Met t))
      (sym (at_planned p n k.current.plan (channel_step (channel_of k)) k.current.planned))
      (channel_then site running.whole p (channel_of k) (side_of taken.operation)
      (own p c s n x k.current s' taken differs) (asked p c s n x k.current s' taken differs)
      (forget (context_at p c s n x k.current taken.size)) beside.context s'
      (both_there p c s n x k.current s' taken differs) (λ _ t. Met t) (λ t met. met)))

  -- and after the second has gone on
  they_go_on : (t z : State) → Met t → Makes p x t z → HaveGoneOn p c s n x k.current s' taken differs t z
  they_go_on t z met makes =
      after_step p x t z Q makes
      (resting_then p k.current.plan n t x (again p c s n x k.current s' taken differs) Q running.home
      k.current.planned met.own_rests
      (after_bind (unsave site k.current.node.machine.control.registers.wptr) _ t Q
      (unsave_then site running.whole k.current.node.machine.control.registers.wptr t _
      taken.taken.saved.three_two taken.taken.saved.three_one taken.taken.saved.two_one (λ freed unsaved.
      stands_then site p x (Runs (again p c s n x k.current s' taken differs)) freed Q (λ v runs. record {
        met = met;
        freed = freed;
        unsaved = unsaved;
        runs = runs;
      })))))
    where
      Q : Unit {0} → State → Type 0
      Q _ v = HaveGoneOn p c s n x k.current s' taken differs t v

-- a channel of which both halves are taken has a step
taken_open : (p : Plan) (n channel : ℕ) (s : State) (side : Side) (own other : Request)
    → s (Half n channel side) ≡ IsHalf (TakenBy own) → s (Half n channel (opposite side)) ≡ IsHalf (TakenBy other)
    → HasStep p (Channel n channel) s
taken_open p n channel s Input own other e f = due p (Channel n channel) s (rw (e, f) refl)
taken_open p n channel s Output own other e f = due p (Channel n channel) s (rw (e, f) refl)

pub meetings_go_on : MeetingsGoOn
meetings_go_on p c s s' n x k differs = (
  taken_open p n (channel_of k) s' (side_of h.operation) _ _ both.own_half both.other_half,
  λ t makes. process_due p x t (Rests _) (they_meet p c s s' n x k differs t makes).own_rests refl,
)
  where
    h : HasTaken p c s n x k.current s'
    h = half_taken p c s s' n x k

    both : AreThere (site_of n k.current.plan) (there p c s n x k.current).whole p (channel_of k)
        (side_of h.operation) (own p c s n x k.current s' h differs) (asked p c s n x k.current s' h differs)
        (forget (context_at p c s n x k.current h.size)) (stands_there p c s n x k.current s' h differs).context s'
    both = both_there p c s n x k.current s' h differs

pub meetings_are_seen : MeetingsAreSeen
meetings_are_seen p c s s' t z n x k differs makes goes_on =
    meeting_leads p c s n x k.current s' (half_taken p c s s' n x k) differs t z
    (they_go_on p c s s' n x k differs t z (they_meet p c s s' n x k differs t makes) goes_on)
