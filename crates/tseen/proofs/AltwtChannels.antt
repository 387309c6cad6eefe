-- A process that waits for its alternative is made to go on, where a message was sent before on a channel.
use Rattle.std.proofs.Common.{◌≡◌, ◌≢◌, ℕ, refl, sym, ap, subst, ◌∙◌, Bool, true, false, true≢false, List, []}
use Rattle.std.proofs.Common.{◌∷◌, ◌⊎◌, inl, inr}
use Rattle.std.specs.Prelude.{◌==◌, ◌||◌, if◌then◌else◌, not}
use Rattle.tword.specs.Stores.{Store}
use Rattle.tcode.specs.declared.instruction.Operation.TheVariants.{Altwt}
use Rattle.tproc.specs.declared.channels.Side.TheVariants.{Input, Output}
use Rattle.tproc.specs.Machine.{Control}
use Rattle.tproc.specs.LinkChannels.{is_link}
use Rattle.tplan.specs.declared.plan.Plan.{Plan}
use Rattle.tnet.specs.Rendezvous.{Configuration}
use Rattle.tprocesses.specs.Places.{Place, Name, Standing, Ports, Half, same_place}
use Rattle.tprocesses.proofs.Tidy.{process_machine_is_tidy}
use Rattle.tprocesses.specs.Values.{Value, Choice, Context, Chosen, Holder, Nobody}
use Rattle.tprocesses.specs.Values.{TakenBy, EnabledBy, AwaitedBy, Request, IsHalf, stand_in}
use Rattle.tprocesses.specs.Values.{half_in, ports_in}
use Rattle.tprocesses.specs.Changes.{Put}
use Rattle.tprocesses.specs.Parts.{Doing, SeveralReady, see, change, done, ◌>>=◌, ◌>>◌}
use Rattle.tprocesses.specs.Touching.{Site}
use Rattle.tprocesses.specs.Standing.{stands}
use Rattle.tprocesses.specs.Choosing.{is_taken, with_choice, waiting, requires_no_other, requires_silence}
use Rattle.tprocesses.specs.ChannelMessages.{meet_if, channel_step}
use Rattle.tprocesses.specs.Machine.{Channel, site_of}
use Rattle.tseen.specs.AgentSteps.{AgentMakes, HasStep}
use Rattle.tseen.specs.Choices.{enables, is_sent}
use Rattle.tseen.specs.Shown.{ShowsNode}
use Rattle.tseen.specs.Steps.{IsCurrent}
use Rattle.tseen.proofs.After.{State, changed, After, after_bind, after_require, after_agent_step}
use Rattle.tseen.proofs.AltwtGoes.{on}
use Rattle.tseen.proofs.AltwtSteps.{is_input_of, input_there, other_input, no_input, IsUnderWay, IsWaiting}
use Rattle.tseen.proofs.AltwtSteps.{port_place, awaited_value}
use Rattle.tseen.proofs.AtOperation.{IsAtOperation, context_at}
use Rattle.tseen.proofs.Due.{due}
use Rattle.tseen.proofs.Finished.{is_stand_of, StandsNow, stands_then}
use Rattle.tseen.proofs.HalfTaken.{at_planned}
use Rattle.tseen.proofs.Running.{RunsThere}
use Rattle.tseen.proofs.Stepped.{shown_node, there}
use Rattle.tseen.proofs.AltwtMeets.{HasLetGo, WasFired, own_half, own_port, far, d}

-- a half that is taken has a request
taken_request : (h : Holder) → is_taken h ≡ true → (q : Request) × (h ≡ TakenBy q)
taken_request (TakenBy q) e = (q, refl)
taken_request Nobody e = absurd (true≢false (sym e))
taken_request (EnabledBy y) e = absurd (true≢false (sym e))
taken_request (AwaitedBy y) e = absurd (true≢false (sym e))

-- no other channel has a sender
no_other_then : (site : Site) (channel : ℕ) (ports : List ℕ) (s : State) (Q : Unit {0} → State → Type 0) → Q tt s
    → After (requires_no_other site channel ports) s Q
no_other_then site channel [] s Q h = h
no_other_then site channel (d ∷ ports) s Q h =
    after_bind (if (d == channel) || is_link d then done else requires_silence site d) _ s Q
    (by ((d == channel) || is_link d) (no_other_then site channel ports s Q h))
  where
    by : (b : Bool) → After (requires_no_other site channel ports) s Q
        → After (if b then done else requires_silence site d) s
        (λ _ t. After (requires_no_other site channel ports) t Q)
    by true rest = rest
    by false rest =
        after_require (not (is_taken (half_in (s (Half site.number d Output))))) SeveralReady s _ (λ e. rest)

module _ (p : Plan) (c : Configuration) (s : State) (n : ℕ) (x : Name) (k : IsCurrent p c s n x) (u : State)
    (a : IsAtOperation p c s n x k Altwt u) (choice : Choice) (v : State)
    (way : IsUnderWay (site_of n k.plan) (there p c s n x k).whole p x (context_at p c s n x k a.size) choice u v)
    (s' : State)
    (waits : IsWaiting (site_of n k.plan) (there p c s n x k).whole p x (context_at p c s n x k a.size) v s') where
  abbrev m : Control
  m = k.node.machine.control

  abbrev store : Store
  store = k.node.machine.store

  abbrev running : RunsThere s n k.plan k.node x
  running = there p c s n x k

  abbrev shown : ShowsNode s n k.plan (k.shows.named n) (k.shows.sent n) k.node
  shown = shown_node p c s n x k

  abbrev site : Site
  site = site_of n k.plan

  abbrev w : ℕ
  w = m.registers.wptr

  abbrev context : Context
  context = context_at p c s n x k a.size

  abbrev ports : List ℕ
  ports = ports_in (v (Ports x))

  module _ (channel : ℕ) (internal : is_link channel ≡ false) (port : enables s n x channel ≡ true)
      (sent : is_sent s n channel ≡ true) where
    input : s' (Half n channel Input) ≡ IsHalf (AwaitedBy x)
    input =
        subst (λ b. s' (port_place n b channel) ≡ awaited_value x b) internal
        (waits.awaited channel (own_port p c s n x k u a choice v way s' waits channel port))

    output : (q : Request) × (s' (Half n channel Output) ≡ IsHalf (TakenBy q))
    output =
        let h = shown.channels.halves channel Output in
        let t = taken_request h.0 (ap is_taken (sym (ap half_in h.1)) ∙ sent) in
        (t.0, far p c s n x k u a choice v way s' waits (Half n channel Output) refl refl refl ∙ h.1 ∙ ap IsHalf t.1)

    -- the channel has a step
    pub channel_due : HasStep p (Channel n channel) s'
    channel_due = due p (Channel n channel) s' (rw (input, output.1) refl)

    abbrev LetGo : Unit {0} → State → Type 0
    LetGo _ t = HasLetGo p c s n x k u a choice v way s' waits t

    abbrev enabled : Value
    enabled = IsHalf (EnabledBy x)

    abbrev put : State
    put = changed (Half n channel Input) (Put enabled) s'

    stand_apart : (q : Place) → is_input_of n q ≡ true → is_stand_of x q ≡ false
    stand_apart (Standing y) e = absurd (true≢false (sym e))
    stand_apart q e = refl

    has_let_go : (t : State) → StandsNow site x (Chosen (d p c s n x k u a choice v way s' waits)) put t
        → HasLetGo p c s n x k u a choice v way s' waits t
    has_let_go t now =
        record {
          stands = now.is;
          inputs = λ q e. by q e (same_place (Half n channel Input) q) refl;
          others = λ q f g. now.others q g ∙ no_input p n false channel enabled s' q f;
        }
      where
        here : t (Half n channel Input) ≡ s (Half n channel Input)
        here =
            now.others (Half n channel Input) refl ∙ input_there p n false channel enabled s'
            ∙ sym (own_half p c s n x k u a choice v way s' waits channel
            (own_port p c s n x k u a choice v way s' waits channel port) internal)

        by : (q : Place) → is_input_of n q ≡ true → (b : Bool) → same_place (Half n channel Input) q ≡ b
            → (t q ≡ s' q) ⊎ ((t q ≡ s q) ⊎ WasFired p c s n x k u a choice v way s' waits t q)
        by q e false f = inl (now.others q (stand_apart q e) ∙ other_input p n false channel enabled s' q f)
        by q e true f =
            inr (inl (subst (λ i. t i ≡ s i)
            ((process_machine_is_tidy p).told.is_same_place (Half n channel Input) q f) here))

    lets_go : After (channel_step channel site) s' LetGo
    lets_go =
        subst (λ (y : Value). After (meet_if site channel (half_in y) (half_in (s' (Half n channel Output)))) s' LetGo)
        (sym input)
        (subst (λ (y : Value). After (meet_if site channel (AwaitedBy x) (half_in y)) s' LetGo) (sym output.1)
        (subst (λ (y : Value). After (waiting (stand_in y) >>= (λ e. see (Ports x) >>= (λ seen.
        requires_no_other site channel (ports_in seen) >> (change (Half n channel Input) (Put enabled)
        >> stands x (Chosen (with_choice true e)))))) s' LetGo) (sym waits.stands)
        (after_bind (requires_no_other site channel (ports_in (s' (Ports x)))) _ s' LetGo
        (no_other_then site channel (ports_in (s' (Ports x))) s' _
        (stands_then site p x (Chosen (d p c s n x k u a choice v way s' waits)) put LetGo
        (λ t now. has_let_go t now))))))

    pub channel_lets : (t : State) → AgentMakes p (Channel n channel) s' t
        → HasLetGo p c s n x k u a choice v way s' waits t
    channel_lets t makes =
        after_agent_step p (Channel n channel) s' t LetGo makes
        (subst (λ (e : Doing). After e s' LetGo) (sym (at_planned p n k.plan (channel_step channel) k.planned)) lets_go)
