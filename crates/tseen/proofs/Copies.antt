-- A copy is seen as the step of its wire: the message goes over from its sender, then it comes in at its receiver.
use Rattle.std.proofs.Common.{◌≡◌, ℕ, zero, suc, ◌+◌, ◌<◌, refl, sym, ap, subst, ◌∙◌, List, [], ◌∷◌, length}
use Rattle.std.proofs.Common.{true, false, Option, Some, None, arith, ◌⊎◌, inl, inr}
use Rattle.std.specs.Prelude.{slice_get, slice_set}
use Rattle.std.proofs.lemmas.Bool.{cases_eq}
use Rattle.std.proofs.lemmas.Option.{slice_get_within}
use Rattle.tword.specs.Stores.{Store, HoldsBytes, cells, with_cells}
use Rattle.tlink.specs.Roles.{Role as LinkRole, Sink, role_filled, filled}
use Rattle.tplan.specs.declared.plan.End.{End}
use Rattle.tplan.specs.declared.plan.NodePlan.{NodePlan}
use Rattle.tplan.specs.declared.plan.SourcePlan.{SourcePlan}
use Rattle.tplan.specs.declared.plan.SinkPlan.{SinkPlan}
use Rattle.tplan.specs.declared.plan.Plan.{Plan}
use Rattle.tproc.specs.Hidden.{hidden}
use Rattle.tproc.specs.LinkChannels.{link_end}
use Rattle.tplan.specs.Wires.{all_wires}
use Rattle.tnet.specs.Building.{fault_of}
use Rattle.tnet.specs.Rendezvous.{Node, Configuration, node_of, put_node, marked, marked_at, copied_at, was_copied}
use Rattle.tnet.specs.Rendezvous.{given}
use Rattle.tnet.specs.Rendezvous.{IsCopy}
use Rattle.tplan.specs.Wires.{end_at, far_end}
use Rattle.tnet.proofs.Puts.{put-same, put-other}
use Rattle.tprocesses.specs.Parts.{Part}
use Rattle.tprocesses.specs.Touching.{Site}
use Rattle.tprocesses.specs.Machine.{Wire, Processor, Source, Sink as SinkRole, site_of, at_site, role_at}
use Rattle.tprocesses.specs.Machine.{sends, receives, passes, step_of}
use Rattle.tprocesses.specs.LinkMessages.{node_sends, source_sends, node_receives, sink_receives}
use Rattle.tseen.specs.Known.{KnowsCells}
use Rattle.tseen.specs.Scripts.{ShowsSource, ShowsSink}
use Rattle.tseen.specs.Shown.{Shows, ShowsNode}
use Rattle.tseen.specs.Steps.{IsSteady, AreSteady}
use Rattle.tseen.specs.Linked.{CopiesAreSeen}
use Rattle.tseen.proofs.After.{State, After, after_bind, after_agent_step}
use Rattle.tseen.proofs.Nets.{net_shown}
use Rattle.tseen.proofs.NetScripts.{net_source, net_sink}
use Rattle.tseen.proofs.CopyNotices.{sent_notices, source_offers, sink_offers}
use Rattle.tseen.proofs.EndRoles.{back, sender_found, by_role, sink_role}
use Rattle.tseen.proofs.NoticedOffers.{NoticesSent, KeepsOffers, own_notices, offers_stay, script_notices}
use Rattle.tseen.proofs.WireAsks.{passes_then, asking_awaits}
use Rattle.tseen.proofs.Receiving.{node_receives_then, received_shown, received_elsewhere}
use Rattle.tseen.proofs.Receiving.{renamed_to, filled_is, received_keeps}
use Rattle.tseen.proofs.Sending.{node_sends_then, sent_shown, sent_elsewhere, sent_others, message_known}
use Rattle.tseen.proofs.Sending.{message_length, sent'}
use Rattle.tseen.proofs.SinkReceives.{sink_receives_then}
use Rattle.tseen.proofs.SourceSends.{source_sends_then}
use Rattle.tseen.proofs.SteadySteps.{marks_keep, cells_hold}

pub some_is : {X : Type 0} {a b : X} → Some a ≡ Some b → a ≡ b
some_is e = cc

-- what is set twice, and what is set at two places
set_twice : {X : Type 0} (xs : List X) (i : ℕ) (a b : X) → slice_set (slice_set xs i a) i b ≡ slice_set xs i b
set_twice [] i a b = refl
set_twice (x ∷ xs) zero a b = refl
set_twice (x ∷ xs) (suc i) a b = ap (λ ys. x ∷ ys) (set_twice xs i a b)

set_swap : {X : Type 0} (xs : List X) (i j : ℕ) (a b : X) → (i ≡ j → ⊥)
    → slice_set (slice_set xs i a) j b ≡ slice_set (slice_set xs j b) i a
set_swap [] i j a b h = refl
set_swap (x ∷ xs) zero zero a b h = absurd (h refl)
set_swap (x ∷ xs) zero (suc j) a b h = refl
set_swap (x ∷ xs) (suc i) zero a b h = refl
set_swap (x ∷ xs) (suc i) (suc j) a b h = ap (λ ys. x ∷ ys) (set_swap xs i j a b (λ e. h (ap suc e)))

-- a step of a node of the plan
pub at_site_then : {A : Type 0} (p : Plan) (n : ℕ) (plan : NodePlan) (step : Site → Part A) (s : State)
    (Q : A → State → Type 0) → slice_get p.nodes n ≡ Some plan → After (step (site_of n plan)) s Q
    → After (at_site p n step) s Q
at_site_then p n plan step s Q planned h = rw (planned, After) h

module _ (p : Plan) (c c' : Configuration) (s : State) (f e : End) (none : fault_of p ≡ None) (shows : Shows p c s)
    (steady : AreSteady c) (l : IsCopy c f e c') where
  abbrev message_there : Store
  message_there = cells l.sender.machine.store l.out.buffer l.out.length

  abbrev mid : Configuration
  mid = copied_at f c

  wired : far_end (all_wires p) e ≡ Some f
  wired = ap (λ ws. far_end ws e) (sym shows.wires) ∙ l.wired

  -- the message went over
  record IsSentOver (message : Store) (t : State) : Type 0 where
    shown : Shows p mid t
    knows : KnowsCells message message_there
    long : f.node < length p.nodes → length message_there ≡ l.out.length

  mid_is : mid ≡ put_node f.node (marked f.link true l.sender) c
  mid_is = ap (marked_at f.node f.link true c) l.offers.node

  four : length l.sender.copied ≡ 4
  four = (steady f.node l.sender l.offers.node).copied

  fresh : was_copied l.sender f.link ≡ false
  fresh = l.offers.fresh

  module _ (Q : Store → State → Type 0) (go : (message : Store) (t : State) → IsSentOver message t → Q message t) where
    node_sent : (plan : NodePlan) → slice_get p.nodes f.node ≡ Some plan → After (sends p Processor f) s Q
    node_sent plan planned =
        at_site_then p f.node plan (node_sends f) s Q planned
        (node_sends_then p s f.node plan (shows.named f.node) (shows.sent f.node) l.sender shown ready f.link l.out
        l.offers.output fresh four Q (λ message t k.
        go message t (record {
          shown = subst (λ (w : Configuration). Shows p w t) (sym mid_is)
              (net_shown p c s t shows f.node plan planned l.sender l.offers.node (marked f.link true l.sender)
              (shows.named f.node)
              (sent' p s f.node plan (shows.named f.node) (shows.sent f.node) l.sender shown ready f.link l.out
              l.offers.output fresh four message t k)
              (sent_shown p s f.node plan (shows.named f.node) (shows.sent f.node) l.sender shown ready f.link l.out
              l.offers.output fresh four message t k)
              (sent_elsewhere p s f.node plan (shows.named f.node) (shows.sent f.node) l.sender shown ready f.link
              l.out l.offers.output fresh four message t k)
              (sent_notices p none c s f e shows wired l.receiver l.inp l.asks l.sender l.offers.node t
              (λ g d joined other.
              offers_stay p s t g (sent_others p s f.node plan (shows.named f.node) (shows.sent f.node) l.sender shown
              ready f.link l.out l.offers.output fresh four message t k (role_at p g.node) g other))));
          knows = message_known p s f.node plan (shows.named f.node) (shows.sent f.node) l.sender shown ready f.link
              l.out l.offers.output fresh four message t k;
          long = λ h. message_length p s f.node plan (shows.named f.node) (shows.sent f.node) l.sender shown ready
              f.link l.out l.offers.output fresh four message t k;
        })))
      where
        shown : ShowsNode s f.node plan (shows.named f.node) (shows.sent f.node) l.sender
        shown =
            let there = shows.processors f.node plan planned in
            subst (ShowsNode s f.node plan (shows.named f.node) (shows.sent f.node))
            (some_is (sym there.1 ∙ l.offers.node)) there.2

        ready : IsSteady l.sender
        ready = (steady f.node l.sender l.offers.node).steady shown.role

    source_sent : (j : ℕ) (source : SourcePlan) → slice_get p.sources j ≡ Some source → f.node ≡ length p.nodes + j
        → f.link ≡ 0 → After (sends p Source f) s Q
    source_sent j source there at zero_link =
        subst (λ (d : End). After (source_sends d) s Q) (ap (end_at f.node) (sym zero_link))
        (source_sends_then s (end_at f.node 0) l.sender shown l.out
        (subst (λ i. (link_end l.sender.machine.control i).output ≡ Some l.out) zero_link l.offers.output)
        (subst (λ i. was_copied l.sender i ≡ false) zero_link fresh) four Q (λ message t k.
        go message t (record {
          shown = subst (λ (w : Configuration). Shows p w t)
              (ap (λ i. put_node f.node (marked i true l.sender) c) (sym zero_link) ∙ sym mid_is)
              (net_source p c s t shows f.node l.sender l.offers.node (marked 0 true l.sender) k.others
              (subst (λ i. NoticesSent p (put_node f.node (marked i true l.sender) c) t) zero_link
              (sent_notices p none c s f e shows wired l.receiver l.inp l.asks l.sender l.offers.node t
              (source_offers p none s t f (omega (arith, at)) zero_link k.others))) j source there at k.shows);
          knows = k.knows;
          long = λ h. absurd (omega (arith, h, at));
        })))
      where
        shown : ShowsSource s (end_at f.node 0) l.sender
        shown =
            let old = shows.sources j source there in
            let same : node_of c (length p.nodes + j) ≡ Some l.sender = ap (node_of c) (sym at) ∙ l.offers.node in
            subst (λ z. ShowsSource s (end_at z 0) l.sender) (sym at)
            (subst (ShowsSource s (end_at (length p.nodes + j) 0)) (some_is (sym old.1 ∙ same)) old.2)

    -- whoever sends
    sends_then : After (sends p (role_at p f.node) f) s Q
    sends_then =
        by_role p none f e (back p none e f wired) (λ r. After (sends p r f) s Q) node_sent source_sent
        (λ j sink there at zero_link a. tt)

  -- the receiver, where the message went over
  record IsReceiver : Type 0 where
    node : Node
    here : node_of mid e.node ≡ Some node
    machine : node.machine ≡ l.receiver.machine
    after : c' ≡ put_node e.node (given l.out l.sender e.link l.inp node) mid

  abbrev full : Node → Node
  full node = given l.out l.sender e.link l.inp node

  receiver_there : IsReceiver
  receiver_there = by (cases_eq e.node f.node)
    where
      by : (e.node ≡ f.node) ⊎ (e.node ≡ f.node → ⊥) → IsReceiver
      by (inl g) =
          let same : l.sender ≡ l.receiver = some_is (sym l.offers.node ∙ ap (node_of c) (sym g) ∙ l.asks.node) in
          record {
            node = marked f.link true l.receiver;
            here = ap (λ (w : Configuration). node_of w e.node) mid_is
                ∙ ap (node_of (put_node f.node (marked f.link true l.sender) c)) g
                ∙ put-same c f.node (marked f.link true l.sender) l.sender l.offers.node
                ∙ ap (λ (z : Node). Some (marked f.link true z)) same;
            machine = refl;
            after = l.after
                ∙ ap (marked_at f.node f.link true (put_node e.node (full l.receiver) c))
                (ap (λ i. node_of (put_node i (full l.receiver) c) f.node) g
                ∙ put-same c f.node (full l.receiver) l.sender l.offers.node)
                ∙ ap (λ i. put_node f.node (marked f.link true (full l.receiver)) (put_node i (full l.receiver) c)) g
                ∙ ap (λ (xs : List Node). record c { nodes = xs })
                (set_twice c.nodes f.node (full l.receiver) (marked f.link true (full l.receiver)))
                ∙ ap (λ (xs : List Node). record c { nodes = xs })
                (sym (set_twice c.nodes f.node (marked f.link true l.sender) (marked f.link true (full l.receiver))))
                ∙ ap (λ i. put_node i (marked f.link true (full l.receiver))
                (put_node f.node (marked f.link true l.sender) c)) (sym g)
                ∙ ap (put_node e.node (marked f.link true (full l.receiver))) (sym mid_is);
          }
      by (inr g) =
          record {
            node = l.receiver;
            here = ap (λ (w : Configuration). node_of w e.node) mid_is
                ∙ put-other c f.node e.node (marked f.link true l.sender) g ∙ l.asks.node;
            machine = refl;
            after = l.after
                ∙ ap (marked_at f.node f.link true (put_node e.node (full l.receiver) c))
                (put-other c e.node f.node (full l.receiver) (λ h. g (sym h)) ∙ l.offers.node)
                ∙ ap (λ (xs : List Node). record c { nodes = xs })
                (set_swap c.nodes e.node f.node (full l.receiver) (marked f.link true l.sender) g)
                ∙ ap (put_node e.node (full l.receiver)) (sym mid_is);
          }

  steady_mid : AreSteady mid
  steady_mid = marks_keep c f.node f.link true (node_of c f.node) refl steady

  bytes_there : HoldsBytes message_there
  bytes_there =
      cells_hold l.sender.machine.store l.out.buffer l.out.length (steady f.node l.sender l.offers.node).bytes

  module _ (message : Store) (t : State) (k : IsSentOver message t) where
    abbrev Seen : Unit {0} → State → Type 0
    Seen _ z = Shows p c' z

    abbrev r : IsReceiver
    r = receiver_there

    asks_mid : (link_end r.node.machine.control e.link).input ≡ Some l.inp
    asks_mid = ap (λ m. (link_end m.control e.link).input) r.machine ∙ l.asks.input

    node_received : (plan : NodePlan) → slice_get p.nodes e.node ≡ Some plan
        → After (receives p Processor e message) t Seen
    node_received plan planned =
        at_site_then p e.node plan (node_receives message e) t Seen planned
        (node_receives_then p t e.node plan (k.shown.named e.node) (k.shown.sent e.node) r.node shown ready e.link l.inp
        asks_mid message message_there k.knows bytes_there Seen (λ z q.
        subst (λ (w : Configuration). Shows p w z) (sym r.after)
        (net_shown p mid t z k.shown e.node plan planned r.node r.here (full r.node)
        (renamed_to p t e.node plan (k.shown.named e.node) (k.shown.sent e.node) r.node shown ready e.link l.inp
        asks_mid message message_there k.knows bytes_there z q) (k.shown.sent e.node)
        (subst (ShowsNode z e.node plan (renamed_to p t e.node plan (k.shown.named e.node) (k.shown.sent e.node) r.node
        shown ready e.link l.inp asks_mid message message_there k.knows bytes_there z q) (k.shown.sent e.node))
        (sym (filled_is p t e.node plan (k.shown.named e.node) (k.shown.sent e.node) r.node shown ready e.link l.inp
        asks_mid message message_there k.knows bytes_there z q l.out.length))
        (received_shown p t e.node plan (k.shown.named e.node) (k.shown.sent e.node) r.node shown ready e.link l.inp
        asks_mid message message_there k.knows bytes_there z q))
        (received_elsewhere p t e.node plan (k.shown.named e.node) (k.shown.sent e.node) r.node shown ready e.link
        l.inp asks_mid message message_there k.knows bytes_there z q)
        (own_notices p mid t z e.node plan r.node (full r.node) planned r.here k.shown.noticed
        (subst (KeepsOffers t z e.node r.node)
        (sym (filled_is p t e.node plan (k.shown.named e.node) (k.shown.sent e.node) r.node shown ready e.link l.inp
        asks_mid message message_there k.knows bytes_there z q l.out.length))
        (received_keeps p t e.node plan (k.shown.named e.node) (k.shown.sent e.node) r.node shown ready e.link l.inp
        asks_mid message message_there k.knows bytes_there z q))
        (received_elsewhere p t e.node plan (k.shown.named e.node) (k.shown.sent e.node) r.node shown ready e.link
        l.inp asks_mid message message_there k.knows bytes_there z q)))))
      where
        shown : ShowsNode t e.node plan (k.shown.named e.node) (k.shown.sent e.node) r.node
        shown =
            let there = k.shown.processors e.node plan planned in
            subst (ShowsNode t e.node plan (k.shown.named e.node) (k.shown.sent e.node))
            (some_is (sym there.1 ∙ r.here)) there.2

        ready : IsSteady r.node
        ready = (steady_mid e.node r.node r.here).steady shown.role

    sink_received : (j : ℕ) (sink : SinkPlan) → slice_get p.sinks j ≡ Some sink
        → e.node ≡ length p.nodes + length p.sources + j → e.link ≡ 0 → f.node < length p.nodes
        → After (receives p SinkRole e message) t Seen
    sink_received j sink there at zero_link sender =
        subst (λ (d : End). After (sink_receives message d) t Seen) (ap (end_at e.node) (sym zero_link))
        (sink_receives_then t (end_at e.node 0) r.node shown l.inp
        (subst (λ i. (link_end r.node.machine.control i).input ≡ Some l.inp) zero_link asks_mid) message message_there
        l.out.length k.knows (k.long sender) Seen (λ z q.
        subst (λ (w : Configuration). Shows p w z)
        (ap (λ (x : Node). put_node e.node x mid) (kept_is shown.kept shown.role) ∙ sym r.after)
        (net_sink p mid t z k.shown e.node r.node r.here _ q.others
        (script_notices p mid t z e.node _ (omega (arith, at)) k.shown.noticed (sink_offers p t z e.node role q.others))
        j sink there at q.shows)))
      where
        role : role_at p e.node ≡ SinkRole
        role = sink_role p e.node (omega (arith, at)) (omega (arith, at, slice_get_within p.sinks j sink there))

        shown : ShowsSink t (end_at e.node 0) r.node
        shown =
            let old = k.shown.sinks j sink there in
            let same : node_of mid (length p.nodes + length p.sources + j) ≡ Some r.node =
            ap (node_of mid) (sym at) ∙ r.here in
            subst (λ z. ShowsSink t (end_at z 0) r.node) (sym at)
            (subst (ShowsSink t (end_at (length p.nodes + length p.sources + j) 0)) (some_is (sym old.1 ∙ same)) old.2)

        kept_is : (kept : List ℕ) → r.node.role ≡ Sink kept → record r.node {
          role = role_filled l.out.length (Sink kept);
          machine = hidden (filled (Sink kept) 0 l.out.length (record r.node.machine {
            store = with_cells r.node.machine.store l.inp.buffer message_there;
          }));
        }
            ≡ full r.node
        kept_is kept is =
            ap (λ (x : LinkRole). record r.node {
              role = role_filled l.out.length x;
              machine = hidden (filled x 0 l.out.length (record r.node.machine {
                store = with_cells r.node.machine.store l.inp.buffer message_there;
              }));
            }) (sym is)
            ∙ ap (λ i. given l.out l.sender i l.inp r.node) (sym zero_link)

    -- whoever receives
    receives_then : After (receives p (role_at p e.node) e message) t Seen
    receives_then =
        by_role p none e f wired (λ r. After (receives p r e message) t Seen) node_received
        (λ j source there at zero_link. tt) sink_received

  -- the step of the wire
  pub wire_then : After (step_of p (Wire e)) s (λ _ z. Shows p c' z)
  wire_then =
      subst (λ (o : Option End). After (passes p o e) s (λ _ z. Shows p c' z)) (sym (sender_found p none e f wired))
      (passes_then p e f s (λ _ z. Shows p c' z)
      (asking_awaits p none c s e f shows wired l.receiver l.inp l.asks)
      (after_bind (sends p (role_at p f.node) f) _ s (λ _ z. Shows p c' z)
      (sends_then _ (λ message t k.
      after_bind (receives p (role_at p e.node) e message) _ t (λ _ z. Shows p c' z) (receives_then message t k)))))

-- copies
pub copies_are_seen : CopiesAreSeen
copies_are_seen p c c' s s' f e none shows steady l carries =
    after_agent_step p (Wire e) s s' (λ _ z. Shows p c' z) carries
    (wire_then p c c' s f e none shows steady l)
