-- A notice is seen as no step, or, where it wakes a process that waits for its alternative, as the step of the wire.
use Rattle.std.proofs.Common.{◌≡◌, ℕ, ◌+◌, ◌<◌, refl, sym, ap, subst, ◌∙◌, Option, Some, None, ◌⊎◌, inl, inr}
use Rattle.std.proofs.Common.{Bool, true, false, true≢false, length, slice_get}
use Rattle.std.specs.Prelude.{◌&&◌}
use Rattle.std.specs.Prelude.{option_map}
use Rattle.std.proofs.lemmas.Bool.{cases_eq}
use Rattle.std.proofs.lemmas.Option.{slice_get_within}
use Rattle.tplan.specs.declared.plan.End.{End}
use Rattle.tplan.specs.declared.plan.NodePlan.{NodePlan}
use Rattle.tplan.specs.declared.plan.SourcePlan.{SourcePlan}
use Rattle.tplan.specs.declared.plan.SinkPlan.{SinkPlan}
use Rattle.tplan.specs.declared.plan.Plan.{Plan}
use Rattle.tplan.specs.Wires.{all_wires, end_at, far_end, same_end}
use Rattle.tlink.specs.Roles.{receives}
use Rattle.tproc.specs.Hidden.{hidden}
use Rattle.tproc.specs.Links.{notice}
use Rattle.tproc.specs.LinkChannels.{link_end}
use Rattle.tproc.specs.Machine.{Machine}
use Rattle.tproc.proofs.Noticing.{notice-links}
use Rattle.tnet.specs.Building.{fault_of}
use Rattle.tnet.specs.Rendezvous.{Node, Configuration, node_of, put_node, IsNotice}
use Rattle.tnet.proofs.Puts.{put-same, put-other}
use Rattle.tprocesses.specs.Places.{Name, Standing, LinkHalf, Messages}
use Rattle.tprocesses.specs.Values.{Value, Context, Stand, Chooses, Awaited, IsLink, link_in, stand_in}
use Rattle.tprocesses.specs.Machine.{Role, Processor, Source, Sink, Nothing, Wire, role_at, offer_place, awaiting}
use Rattle.tseen.specs.Seats.{Seat}
use Rattle.tseen.specs.Shown.{Shows, ShowsNode, HasSender}
use Rattle.tseen.specs.Steps.{IsSteady, AreSteady, NoticesAreSeen, IsNoticeSeen, stand_at}
use Rattle.tseen.specs.AgentSteps.{AgentMakes, HandsNone}
use Rattle.tseen.proofs.After.{State}
use Rattle.tprocesses.specs.Machine.{is_offered}
use Rattle.tprocesses.specs.Values.{Link}
use Rattle.tproc.specs.Telling.{is_told}
use Rattle.tproc.specs.declared.channels.Side.TheVariants.{Input, Output}
use Rattle.tseen.specs.Choices.{input_at, enabler_on, link_enabler, alternative_of}
use Rattle.tseen.specs.Halves.{IsInput}
use Rattle.tseen.specs.Scripts.{ShowsSink}
use Rattle.tseen.proofs.ChoicePlain.{alternative_context}
use Rattle.tseen.proofs.EndRoles.{by_role, node_role, sender_found, small_link}
use Rattle.tseen.proofs.FiredShown.{HasFired, fired_names, fired_is, fired_shown, fired_elsewhere}
use Rattle.tseen.proofs.LinkEnabler.{IsChoosing, Stands, found, front_told, queued_told}
use Rattle.tseen.proofs.Nets.{net_shown}
use Rattle.tseen.proofs.NoticedLinks.{noticed_before as other_noticed}
use Rattle.tseen.proofs.NoticedOffers.{has_noticed, NoticesSent, is_sending_at, offers_stay}
use Rattle.tseen.proofs.Offering.{offering}
use Rattle.tseen.proofs.Silent.{fires_silent}
use Rattle.tseen.proofs.QuietNotices.{IsEnabler, enabler_cases, quiet_shown}
use Rattle.tseen.proofs.ToldNotices.{told_shown}
use Rattle.tseen.proofs.FiringWires.{firing_due, has_fired}

some_is : {X : Type 0} {a b : X} → Some a ≡ Some b → a ≡ b
some_is e = cc

none_some : {X : Type 0} {a : X} → None ≡ Some a → ⊥
none_some e = cc

-- a processor notices
module _ (p : Plan) (none : fault_of p ≡ None) (c c' : Configuration) (s : State) (e : End) (plan : NodePlan)
    (planned : slice_get p.nodes e.node ≡ Some plan) (shows : Shows p c s) (steady : AreSteady c)
    (l : IsNotice c e c') where
  abbrev named : Seat → Name
  named = shows.named e.node

  abbrev noticing_node : Node
  noticing_node = record l.node { machine = hidden (notice e.link l.node.machine) }

  shown : ShowsNode s e.node plan (shows.named e.node) (shows.sent e.node) l.node
  shown =
      let there = shows.processors e.node plan planned in
      subst (ShowsNode s e.node plan (shows.named e.node) (shows.sent e.node)) (some_is (sym there.1 ∙ l.here)) there.2

  ready : IsSteady l.node
  ready = (steady e.node l.node l.here).steady shown.role

  wired : far_end (all_wires p) e ≡ Some l.far
  wired = ap (λ ws. far_end ws e) (sym shows.wires) ∙ l.wired

  small : e.link < 4
  small = small_link p none e l.far wired

  sends : is_sending_at p s l.far ≡ true
  sends = offering p c s l.far e none shows steady wired l.sender l.out l.offers

  -- another link has noticed what it had noticed
  noticed_before : (j : ℕ) → (j ≡ e.link → ⊥) → has_noticed noticing_node j ≡ true → has_noticed l.node j ≡ true
  noticed_before =
      other_noticed s s e.node e.link named named (shows.sent e.node) l.node noticing_node
      (notice-links e.link l.node.machine) (subst (λ z. e.link < z) (sym ready.placed.claimed.links) small)

  has_sender : (t : State) → is_sending_at p t l.far ≡ true → HasSender p t e
  has_sender t h = record { from = l.far; joined = sender_found p none e l.far wired; sends = h }

  -- what was noticed comes from somebody who sends
  notices_now : (t : State) → ((g : End) → is_sending_at p s g ≡ true → is_sending_at p t g ≡ true)
      → NoticesSent p (put_node e.node noticing_node c) t
  notices_now t still n j other x is there h = by (cases_eq n e.node)
    where
      from_old : (node : Node) → node_of c n ≡ Some node → has_noticed node j ≡ true → HasSender p t (end_at n j)
      from_old node old_there old_h =
          let old = shows.noticed n j other node is old_there old_h in
          record { from = old.from; joined = old.joined; sends = still old.from old.sends }

      at_node : n ≡ e.node → (j ≡ e.link) ⊎ (j ≡ e.link → ⊥) → HasSender p t (end_at n j)
      at_node same (inl f) =
          subst (HasSender p t) (λ i. record { node = sym same i; link = sym f i }) (has_sender t (still l.far sends))
      at_node same (inr f) =
          let is_new : noticing_node ≡ x =
          some_is (sym (put-same c e.node noticing_node l.node l.here)
          ∙ ap (node_of (put_node e.node noticing_node c)) (sym same) ∙ there) in
          from_old l.node (ap (node_of c) same ∙ l.here)
          (noticed_before j f (ap (λ (z : Node). has_noticed z j) is_new ∙ h))

      by : (n ≡ e.node) ⊎ (n ≡ e.node → ⊥) → HasSender p t (end_at n j)
      by (inl same) = at_node same (cases_eq j e.link)
      by (inr d) = from_old x (sym (put-other c e.node n noticing_node d) ∙ there) h

  -- where nothing is seen of it
  stays_shown : ShowsNode s e.node plan (shows.named e.node) (shows.sent e.node) noticing_node → Shows p c' s
  stays_shown now =
      subst (λ (z : Configuration). Shows p z s) (sym l.after)
      (net_shown p c s s shows e.node plan planned l.node l.here noticing_node (shows.named e.node)
      (shows.sent e.node) now (λ q h. refl) (notices_now s (λ g h. h)))

  -- the notice is seen as nothing where no process waits there for its alternative
  seen_as_nothing : (o : Option Stand) → ((d : Context) → o ≡ Some (Chooses d) → ⊥) → Shows p c' s
      → IsNoticeSeen o p c' e s
  seen_as_nothing (Some (Chooses d)) not_there now = absurd (not_there d refl)
  seen_as_nothing _ not_there now = now

  module _ (y : Name)
      (k : IsEnabler s e.node plan named (shows.sent e.node) l.node shown ready e.link small l.no_input l.not_noticed y)
    where
      -- where the process waits for its alternative
      module _ (choosing : IsChoosing s e.node plan named (shows.sent e.node) l.node shown ready y k.home k.alternative
          k.is) where
        awaits : input_at s e.node e.link ≡ Awaited y
        awaits = k.linked.awaited k.alternative k.is choosing.waits

        half : s (LinkHalf e Input) ≡ IsLink (Awaited y)
        half =
            let there : (h : Link) × (s (LinkHalf e Input) ≡ IsLink h) × (is_offered h ≡ false) =
            subst (λ o. IsInput named o (s (LinkHalf e Input))) l.no_input (shown.links e.link small).input in
            there.1 ∙ ap IsLink (sym (ap link_in there.1) ∙ awaits)

        stands_there : stand_at s e ≡ Some (Chooses choosing.context)
        stands_there =
            ap (λ (h : Link). option_map (λ x. stand_in (s (Standing x))) (awaiting h)) awaits
            ∙ ap (λ (v : Value). Some (stand_in v)) choosing.stood

        wire_silent : (t : State) → (makes : AgentMakes p (Wire e) s t) → HandsNone makes
        wire_silent t makes f g =
            fires_silent p s t e l.far (sender_found p none e l.far wired)
            (node_role p e.node (slice_get_within p.nodes e.node plan planned)) (Awaited y) half refl makes

        wire_shows : (t : State) → AgentMakes p (Wire e) s t → Shows p c' t
        wire_shows t makes =
            let fired =
            has_fired p s e.node plan planned e.link y (has_sender s sends) half choosing.context choosing.stood t
            makes in
            fires t (record { stands = fired.stands; input = fired.taken; rest = fired.rest })
          where
            fires : (z : State) → HasFired e.node e.link y choosing.context s z → Shows p c' z
            fires z g =
                subst (λ (w : Configuration). Shows p w z) (sym l.after)
                (net_shown p c s z shows e.node plan planned l.node l.here noticing_node
                (fired_names p s e.node plan named (shows.sent e.node) l.node shown ready e.link small l.no_input y
                k.home k.alternative k.is awaits k.remembers choosing z g) (shows.sent e.node)
                (subst (λ (m : Machine). ShowsNode z e.node plan
                (fired_names p s e.node plan named (shows.sent e.node) l.node shown ready e.link small l.no_input y
                k.home k.alternative k.is awaits k.remembers choosing z g) (shows.sent e.node)
                (record l.node { machine = m }))
                (sym (fired_is p s e.node plan named (shows.sent e.node) l.node shown ready e.link small l.no_input y
                k.home k.alternative k.is awaits k.remembers choosing z g))
                (fired_shown p s e.node plan named (shows.sent e.node) l.node shown ready e.link small l.no_input y
                k.home k.alternative k.is awaits k.remembers choosing z g))
                (fired_elsewhere p s e.node plan named (shows.sent e.node) l.node shown ready e.link small l.no_input y
                k.home k.alternative k.is awaits k.remembers choosing z g)
                (notices_now z (λ f h. offers_stay p s z f (stays (role_at p f.node) f) h)))
              where
                output : (f : End) → z (LinkHalf f Output) ≡ s (LinkHalf f Output)
                output f = g.rest (LinkHalf f Output) refl (by (same_end e f))
                  where
                    by : (b : Bool) → (b && false) ≡ false
                    by true = refl
                    by false = refl

                stays : (r : Role) (f : End) → z (offer_place r f) ≡ s (offer_place r f)
                stays Source f = g.rest (Messages f) refl refl
                stays Processor f = output f
                stays Sink f = output f
                stays Nothing f = output f

      -- where it does not, though it awaits the input
      module _ (awake : k.alternative.waits ≡ false) where
        not_choosing : (d : Context) → stand_at s e ≡ Some (Chooses d) → ⊥
        not_choosing d f = by (input_at s e.node e.link) k.enabled f
          where
            chose : stand_in (s (Standing y)) ≡ Chooses d → ⊥
            chose g =
                true≢false (sym (alternative_context false true d k.alternative
                (sym (ap alternative_of g) ∙ k.is)).3 ∙ awake)

            by : (h : Link) → link_enabler h ≡ Some y
                → option_map (λ x. stand_in (s (Standing x))) (awaiting h) ≡ Some (Chooses d) → ⊥
            by (Awaited z) i g =
                chose (sym (ap (λ x. stand_in (s (Standing x))) (some_is i)) ∙ some_is g)
            by _ i g = absurd (none_some g)

      enabler_notices : IsNoticeSeen (stand_at s e) p c' e s
      enabler_notices =
          by (found s e.node plan named (shows.sent e.node) l.node shown ready y k.home k.alternative k.is)
        where
          told : k.alternative.waits ≡ false
              → is_told l.node.machine (k.alternative.wptr + k.alternative.priority) ≡ true
              → IsNoticeSeen (stand_at s e) p c' e s
          told awake reached =
              seen_as_nothing (stand_at s e) (not_choosing awake)
              (stays_shown (told_shown p s e.node plan named (shows.sent e.node) l.node shown ready e.link small
              l.no_input l.not_noticed y k awake reached))

          by : Stands s e.node plan named (shows.sent e.node) l.node shown ready y k.home k.alternative k.is
              → IsNoticeSeen (stand_at s e) p c' e s
          by (inl front) =
              told front.waits (front_told s e.node plan named (shows.sent e.node) l.node shown ready y k.home
              k.alternative k.is front)
          by (inr (inl queued)) =
              told queued.waits (queued_told s e.node plan named (shows.sent e.node) l.node shown ready y k.home
              k.alternative k.is queued)
          by (inr (inr choosing)) =
              subst (λ o. IsNoticeSeen o p c' e s) (sym (stands_there choosing)) (
                firing_due p s e.node plan planned e.link y (has_sender s sends) (half choosing),
                λ t makes. (wire_silent choosing t makes, wire_shows choosing t makes),
              )

  pub processor_notices : IsNoticeSeen (stand_at s e) p c' e s
  processor_notices =
      by (enabler_cases s e.node plan named (shows.sent e.node) l.node shown ready e.link small l.no_input
      l.not_noticed)
    where
      nobody_awaits : (h : Link) → link_enabler h ≡ None → awaiting h ≡ None
      nobody_awaits (Awaited y) f = absurd (none_some (sym f))
      nobody_awaits _ f = refl

      by : ((y : Name) × IsEnabler s e.node plan named (shows.sent e.node) l.node shown ready e.link small l.no_input
          l.not_noticed y)
          ⊎ (enabler_on s e.node e.link ≡ None)
          → IsNoticeSeen (stand_at s e) p c' e s
      by (inl (y, k)) = enabler_notices y k
      by (inr nobody) =
          subst (λ o. IsNoticeSeen (option_map (λ x. stand_in (s (Standing x))) o) p c' e s)
          (sym (nobody_awaits (input_at s e.node e.link) nobody))
          (stays_shown (quiet_shown s e.node plan named (shows.sent e.node) l.node shown ready e.link small
          l.no_input l.not_noticed nobody))

-- a source notices nothing, and a sink has an input at its only link
module _ (p : Plan) (none : fault_of p ≡ None) (c c' : Configuration) (s : State) (e : End) (shows : Shows p c s)
    (l : IsNotice c e c') where
  no_source : (k : ℕ) (source : SourcePlan) → slice_get p.sources k ≡ Some source → length p.nodes + k ≡ e.node → ⊥
  no_source k source is same =
      let old = shows.sources k source is in
      true≢false (sym l.listens ∙ ap (λ (x : Node). receives x.role) (some_is (sym l.here
      ∙ ap (node_of c) (sym same) ∙ old.1)) ∙ ap receives old.2.role)

  no_sink : (k : ℕ) (sink : SinkPlan) → slice_get p.sinks k ≡ Some sink
      → length p.nodes + length p.sources + k ≡ e.node → e.link ≡ 0 → ⊥
  no_sink k sink is same zero_link = none_some (sym input ∙ old.2.input)
    where
      old : (node : Node) × (node_of c (length p.nodes + length p.sources + k) ≡ Some node)
          × ShowsSink s (end_at (length p.nodes + length p.sources + k) 0) node
      old = shows.sinks k sink is

      here : l.node ≡ old.0
      here = some_is (sym l.here ∙ ap (node_of c) (sym same) ∙ old.1)

      input : (link_end old.0.machine.control 0).input ≡ None
      input =
          ap (λ (x : Node). (link_end x.machine.control 0).input) (sym here)
          ∙ ap (λ j. (link_end l.node.machine.control j).input) (sym zero_link) ∙ l.no_input

  -- so it is a processor that notices
  pub noticing : (plan : NodePlan) × (slice_get p.nodes e.node ≡ Some plan)
  noticing =
      by_role p none e l.far (ap (λ ws. far_end ws e) (sym shows.wires) ∙ l.wired)
      (λ (r : Role). (plan : NodePlan) × (slice_get p.nodes e.node ≡ Some plan)) (λ plan planned. (plan, planned))
      (λ k source is at zero_link. absurd (no_source k source is (sym at)))
      (λ k sink is at zero_link near. absurd (no_sink k sink is (sym at) zero_link))

-- notices
pub notices_are_seen : NoticesAreSeen
notices_are_seen p c c' s e none shows steady l =
    let there = noticing p none c c' s e shows l in
    processor_notices p none c c' s e there.0 there.1 shows steady l
