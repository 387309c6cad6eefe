-- `altwt` is seen.
use Rattle.std.proofs.Common.{◌≡◌, ℕ, refl, sym, ap, subst, ◌∙◌, true, false, true≢false, ◌⊎◌, inl, inr}
use Rattle.tword.specs.Stores.{Store, word_at}
use Rattle.tword.specs.Words.{word_below}
use Rattle.tcode.specs.declared.instruction.Operation.TheVariants.{Altwt}
use Rattle.tproc.specs.Channels.{ready}
use Rattle.tproc.specs.LinkChannels.{link_end}
use Rattle.tproc.specs.Machine.{Control}
use Rattle.tplan.specs.Wires.{end_at}
use Rattle.tplan.specs.declared.plan.End.{End}
use Rattle.tplan.specs.declared.plan.Plan.{Plan}
use Rattle.tnet.specs.Rendezvous.{Configuration}
use Rattle.tprocesses.specs.Places.{Name, Ports}
use Rattle.tprocesses.specs.Values.{Value, Choice, ports_in}
use Rattle.tprocesses.specs.Choosing.{has_port}
use Rattle.tprocesses.specs.Machine.{Agent, Channel, Wire, site_of}
use Rattle.tseen.specs.AgentSteps.{AgentMakes, HasStep, HandsNone}
use Rattle.tseen.specs.Alternatives.{AwaitsAreSeen, FollowsOnce, FollowsTwice, carrier_of}
use Rattle.tseen.specs.Choices.{IsReady, IsUnready, HasEnabled, enables, is_due, is_sent, input_channel, unready_word}
use Rattle.tseen.specs.Steps.{IsCurrent, LeadsTo}
use Rattle.tseen.proofs.After.{State, after_step}
use Rattle.tseen.proofs.AltwtGoes.{skipping_leads, it}
use Rattle.tseen.proofs.AltwtFires.{link_due, link_silent, link_lets}
use Rattle.tseen.proofs.AltwtChannels.{channel_due, channel_lets}
use Rattle.tseen.proofs.AltwtMeets.{HasLetGo, far, follows}
use Rattle.tseen.proofs.AltwtSteps.{IsUnderWay, IsWaiting, awaits_choice_then}
use Rattle.tseen.proofs.AtOperation.{IsAtOperation, context_at, operation_then}
use Rattle.tseen.proofs.AwaitingShown.{waiting_leads}
use Rattle.tseen.proofs.InputChannels.{input_is_link, input_names_link}
use Rattle.tseen.proofs.Stepped.{shown_node, there}

module _ (p : Plan) (c : Configuration) (s : State) (n : ℕ) (x : Name) (k : IsCurrent p c s n x) where
  abbrev m : Control
  m = k.node.machine.control

  -- the process waits for its alternative
  record IsAwaiting (z : State) : Type 0 where
    pub before : State
    pub operation : IsAtOperation p c s n x k Altwt before
    pub choice : Choice
    pub written : State
    pub way : IsUnderWay (site_of n k.plan) (there p c s n x k).whole p x (context_at p c s n x k operation.size) choice
        before written
    pub unskipped : choice.skips ≡ false
    pub waits : IsWaiting (site_of n k.plan) (there p c s n x k).whole p x (context_at p c s n x k operation.size)
        written z

  abbrev IsLeft : Unit {0} → State → Type 0
  IsLeft _ z = LeadsTo p c n z ⊎ IsAwaiting z

  -- an agent has a step that hands over no message and lets the process go on
  abbrev Brings : State → Agent → Type 0
  Brings z a =
      HasStep p a z × ((t : State) → (makes : AgentMakes p a z t) → HandsNone makes × FollowsOnce p c n x t)

  -- a sender was there before, or none
  awaiting_leads : (z : State) → IsAwaiting z → LeadsTo p c n z ⊎ FollowsTwice p c n x z
  awaiting_leads z h = by (it p c s n x k h.before h.operation h.choice h.written h.way).state
    where
      store : Store
      store = k.node.machine.store

      address : ℕ
      address = word_below k.node.machine.control.registers.wptr 3

      let_go : word_at store address ≡ ready → (t : State)
          → HasLetGo p c s n x k h.before h.operation h.choice h.written h.way z h.waits t → FollowsOnce p c n x t
      let_go = follows p c s n x k h.before h.operation h.choice h.written h.way z h.waits

      -- what the process has enabled it has enabled still
      port_now : (channel : ℕ) → enables s n x channel ≡ true → enables z n x channel ≡ true
      port_now channel port =
          ap (λ (v : Value). has_port channel (ports_in v))
          (far p c s n x k h.before h.operation h.choice h.written h.way z h.waits (Ports x) refl refl refl) ∙ port

      -- what is ready, by whether it is a link
      due : word_at store address ≡ ready → (channel : ℕ) → enables s n x channel ≡ true
          → is_due s n m.links channel ≡ true → HasEnabled s n channel x → Brings z (carrier_of n channel)
      due e channel port is (inl (internal, f)) = subst (Brings z) (sym carrier) brings
        where
          carrier : carrier_of n channel ≡ Channel n channel
          carrier = rw internal refl

          no_wire : (f : End) → Channel n channel ≡ Wire f → ⊥
          no_wire f g = cc

          sent : is_sent s n channel ≡ true
          sent = rw internal at is

          brings : Brings z (Channel n channel)
          brings = (
            channel_due p c s n x k h.before h.operation h.choice h.written h.way z h.waits channel internal port sent,
            λ t makes. (
              λ f g. absurd (no_wire f g),
              let_go e t (channel_lets p c s n x k h.before h.operation h.choice h.written h.way z h.waits channel
                  internal port sent t makes),
            ),
          )
      due e channel port is (inr (l, small, names, f)) = subst (Brings z) (sym carrier) brings
        where
          carrier : carrier_of n channel ≡ Wire (end_at n l)
          carrier = ap (carrier_of n) names ∙ rw (input_is_link l small, input_names_link l small) refl

          input : enables s n x (input_channel l) ≡ true
          input = ap (enables s n x) (sym names) ∙ port

          noticed : (link_end m l).noticed ≡ true
          noticed =
              sym (ap (is_due s n m.links) names
              ∙ rw (input_is_link l small, input_names_link l small) refl) ∙ is

          brings : Brings z (Wire (end_at n l))
          brings = (
            link_due p c s n x k h.before h.operation h.choice h.written h.way z h.waits l small input noticed,
            λ t makes. (
              λ f g. link_silent p c s n x k h.before h.operation h.choice h.written h.way z h.waits l small input
                  noticed t makes,
              let_go e t (link_lets p c s n x k h.before h.operation h.choice h.written h.way z h.waits l small input
                  noticed t makes),
            ),
          )

      sent : word_at store address ≡ ready → IsReady s n m.links x h.choice.skips → FollowsTwice p c n x z
      sent e (inl f) = absurd (true≢false (sym f ∙ h.unskipped))
      sent e (inr (channel, port, is)) =
          let brought = due e channel port is
          ((shown_node p c s n x k).choices.owner x channel (there p c s n x k).home port).2 in
          (channel, port_now channel port, brought.0, brought.1)

      by : ((word_at store address ≡ ready) × IsReady s n m.links x h.choice.skips)
          ⊎ ((word_at store address ≡ unready_word false) × IsUnready s n m.links x h.choice.skips)
          → LeadsTo p c n z ⊎ FollowsTwice p c n x z
      by (inl (e, f)) = inr (sent e f)
      by (inr (e, f)) =
          inl (waiting_leads p c s n x k z (record {
            before = h.before;
            operation = h.operation;
            choice = h.choice;
            written = h.written;
            way = h.way;
            waits = h.waits;
            state = e;
            unready = f;
          }))

pub awaits_are_seen : AwaitsAreSeen
awaits_are_seen p c s s' n x k next makes none =
    by (after_step p x s s' (IsLeft p c s n x k) makes (operation_then p c s n x k Altwt (IsLeft p c s n x k) next
    (λ u a. awaits_choice_then (site_of n k.plan) (there p c s n x k).whole p x (context_at p c s n x k a.size) u
    (IsLeft p c s n x k)
    (λ choice v z way skips now. inl (skipping_leads p c s n x k u a choice v way skips z now))
    (λ choice v z way skips waits. inr (record {
      before = u;
      operation = a;
      choice = choice;
      written = v;
      way = way;
      unskipped = skips;
      waits = waits;
    })))))
  where
    by : IsLeft p c s n x k tt s' → LeadsTo p c n s' ⊎ FollowsTwice p c n x s'
    by (inl e) = inl e
    by (inr e) = awaiting_leads p c s n x k s' e
