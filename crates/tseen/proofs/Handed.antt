-- What the step of a wire hands over is known to be the message that goes over.
use Rattle.std.proofs.Common.{◌≡◌, ◌∷◌, ◌++◌, [], sym, ap, subst, ◌∙◌, ℕ, ◌+◌, length, Bool, true, false, true≢false}
use Rattle.std.proofs.Common.{Option, Some, None, refl}
use Rattle.std.specs.Prelude.{is_some, slice_get}
use Rattle.tword.specs.Stores.{Store, cells}
use Rattle.tplan.specs.declared.plan.End.{End}
use Rattle.tplan.specs.declared.plan.NodePlan.{NodePlan}
use Rattle.tplan.specs.declared.plan.SourcePlan.{SourcePlan}
use Rattle.tplan.specs.declared.plan.SinkPlan.{SinkPlan}
use Rattle.tplan.specs.declared.plan.Plan.{Plan}
use Rattle.tproc.specs.declared.offer.Offer.{Offer}
use Rattle.tproc.specs.LinkChannels.{link_end}
use Rattle.tplan.specs.Wires.{all_wires}
use Rattle.tnet.specs.Building.{fault_of}
use Rattle.tnet.specs.Rendezvous.{Node, Configuration, node_of, was_copied, IsCopy}
use Rattle.tplan.specs.Wires.{end_at, far_end}
use Rattle.tagents.specs.Walks.{deed_of, are_open, label_of, next_step, state_after}
use Rattle.tprocesses.specs.Parts.{Part, gives, stopping, seeing, changing, telling, done, Doing, Deed, walk_from}
use Rattle.tprocesses.specs.Parts.{◌>>=◌}
use Rattle.tprocesses.specs.LinkMessages.{node_sends, source_sends}
use Rattle.tprocesses.specs.Machine.{Agent, Wire, Role, Processor, Source, process_machine, step_of, role_at, sends}
use Rattle.tprocesses.specs.Machine.{Sink, Nothing, receives, asks, crosses, passes}
use Rattle.tprocesses.specs.Places.{Name}
use Rattle.tprocesses.specs.Certified.{ProcessStep}
use Rattle.tseen.specs.Known.{KnowsCells}
use Rattle.tseen.specs.Scripts.{ShowsSource}
use Rattle.tseen.specs.Shown.{Shows, ShowsNode}
use Rattle.tseen.specs.Steps.{AreSteady}
use Rattle.tseen.specs.AgentSteps.{AgentMakes}
use Rattle.tseen.proofs.After.{State, changed, After, after_all, after_weaken, so_far-more, so_far, deed_at, if_open}
use Rattle.tseen.proofs.Copies.{some_is, at_site_then}
use Rattle.tseen.proofs.EndRoles.{back, sender_found, by_role}
use Rattle.tseen.proofs.WireAsks.{AwaitsNone, asking_awaits}
use Rattle.tseen.proofs.Sending.{node_sends_then, message_known}
use Rattle.tseen.proofs.SourceSends.{source_sends_then}

-- what holds of the message that a step hands over, if it goes through
abbrev pub Tells : Doing → State → Option Store → (Option Store → Type 0) → Type 0
Tells (gives x) s o Q = Q o
Tells (stopping why) s o Q = Unit {0}
Tells (seeing p next) s o Q = Tells (next (s p)) s o Q
Tells (changing p c next) s o Q = Tells next (changed p c s) o Q
Tells (telling m next) s o Q = Tells next s (Some m) Q

walked_told : (d : Deed) (step : Doing) (s : State) (Q : Option Store → Type 0)
    → Tells step (so_far d.changes s) d.message Q → is_some (deed_of (walk_from d step) s).stops ≡ false
    → Q (deed_of (walk_from d step) s).message
walked_told d (gives x) s Q h none = h
walked_told d (stopping why) s Q h none = absurd (true≢false none)
walked_told d (seeing p next) s Q h none = walked_told d (next (so_far d.changes s p)) s Q h none
walked_told d (changing p c next) s Q h none =
    walked_told (record d { changes = d.changes ++ record { place = p; change = c } ∷ [] }) next s Q
    (subst (λ (t : State). Tells next t d.message Q) (sym (so_far-more d.changes p c s)) h) none
walked_told d (telling m next) s Q h none = walked_told (record d { message = Some m }) next s Q h none

told_bind : {A : Type 0} (part : Part A) (f : A → Doing) (s : State) (o : Option Store) (Q : Option Store → Type 0)
    → After part s (λ x t. (o' : Option Store) → Tells (f x) t o' Q) → Tells (part >>= f) s o Q
told_bind (gives x) f s o Q h = h o
told_bind (stopping why) f s o Q h = tt
told_bind (seeing p next) f s o Q h = told_bind (next (s p)) f s o Q h
told_bind (changing p c next) f s o Q h = told_bind next f (changed p c s) o Q h
told_bind (telling m next) f s o Q h = told_bind next f s (Some m) Q h

-- the same holds for a step that an agent makes
pub agent_told : (p : Plan) (a : Agent) (s s' : State) (Q : Option Store → Type 0) → (m : AgentMakes p a s s')
    → Tells (step_of p a) s None Q → Q m.label.deed.message
agent_told p a s s' Q m h =
    by (are_open (process_machine p) a s)
    (subst (λ (b : Agent). next_step (process_machine p) b s ≡ Some (m.label, s')) m.agent m.step)
  where
    by : (t : Bool) → if_open t (label_of (process_machine p) a s, state_after (process_machine p) (deed_at p a s) s)
        ≡ Some (m.label, s') → Q m.label.deed.message
    by false e = cc
    by true e =
        let both : ◌≡◌ {A = ProcessStep × State}
        (label_of (process_machine p) a s, state_after (process_machine p) (deed_at p a s) s)
        (m.label, s') = cc in
        let stops : is_some (deed_at p a s).stops ≡ false =
        ap (λ (q : ProcessStep × State). is_some q.0.deed.stops) both ∙ m.goes_on in
        subst (λ (q : ProcessStep × State). Q q.0.deed.message) both
        (walked_told (record { changes = []; message = None; stops = None }) (step_of p a) s Q h stops)

module _ (p : Plan) (c c' : Configuration) (s s' : State) (f e : End) (none : fault_of p ≡ None) (shows : Shows p c s)
    (steady : AreSteady c) (k : IsCopy c f e c') (makes : AgentMakes p (Wire e) s s') where
  abbrev gone : Store
  gone = cells k.sender.machine.store k.out.buffer k.out.length

  -- a message is known to be the one that goes over
  abbrev pub IsKnown : Option Store → Type 0
  IsKnown None = ⊥
  IsKnown (Some message) = KnowsCells message gone

  wired : far_end (all_wires p) e ≡ Some f
  wired = ap (λ ws. far_end ws e) (sym shows.wires) ∙ k.wired

  back_there : far_end (all_wires p) f ≡ Some e
  back_there = back p none e f wired

  abbrev Sends : Role → Type 0
  Sends r = After (sends p r f) s (λ message t. KnowsCells message gone)

  node_sends_known : (plan : NodePlan) → slice_get p.nodes f.node ≡ Some plan → Sends Processor
  node_sends_known plan planned =
      at_site_then p f.node plan (node_sends f) s (λ message t. KnowsCells message gone) planned
      (node_sends_then p s f.node plan (shows.named f.node) (shows.sent f.node) k.sender shown
      ((steady f.node k.sender k.offers.node).steady shown.role) f.link k.out k.offers.output k.offers.fresh
      (steady f.node k.sender k.offers.node).copied (λ message t. KnowsCells message gone) (λ message t z.
      message_known p s f.node plan (shows.named f.node) (shows.sent f.node) k.sender shown
      ((steady f.node k.sender k.offers.node).steady shown.role) f.link k.out k.offers.output k.offers.fresh
      (steady f.node k.sender k.offers.node).copied message t z))
    where
      shown : ShowsNode s f.node plan (shows.named f.node) (shows.sent f.node) k.sender
      shown =
          let there = shows.processors f.node plan planned in
          subst (ShowsNode s f.node plan (shows.named f.node) (shows.sent f.node))
          (some_is (sym there.1 ∙ k.offers.node)) there.2

  source_sends_known : (j : ℕ) (source : SourcePlan) → slice_get p.sources j ≡ Some source
      → f.node ≡ length p.nodes + j → f.link ≡ 0 → Sends Source
  source_sends_known j source there at zero_link =
      subst (λ (d : End). After (source_sends d) s (λ message t. KnowsCells message gone))
      (ap (end_at f.node) (sym zero_link))
      (source_sends_then s (end_at f.node 0) k.sender shown k.out
      (subst (λ i. (link_end k.sender.machine.control i).output ≡ Some k.out) zero_link k.offers.output)
      (subst (λ i. was_copied k.sender i ≡ false) zero_link k.offers.fresh)
      (steady f.node k.sender k.offers.node).copied (λ message t. KnowsCells message gone) (λ message t z. z.knows))
    where
      shown : ShowsSource s (end_at f.node 0) k.sender
      shown =
          let old = shows.sources j source there in
          let same : node_of c (length p.nodes + j) ≡ Some k.sender = ap (node_of c) (sym at) ∙ k.offers.node in
          subst (λ z. ShowsSource s (end_at z 0) k.sender) (sym at)
          (subst (ShowsSource s (end_at (length p.nodes + j) 0)) (some_is (sym old.1 ∙ same)) old.2)

  sink_sends_not : (j : ℕ) (sink : SinkPlan) → slice_get p.sinks j ≡ Some sink
      → f.node ≡ length p.nodes + length p.sources + j → f.link ≡ 0 → ⊥
  sink_sends_not j sink there at zero_link =
      let old = shows.sinks j sink there in
      let same : old.0 ≡ k.sender = some_is (sym old.1 ∙ ap (node_of c) (sym at) ∙ k.offers.node) in
      differ (sym k.offers.output ∙ ap (λ i. (link_end k.sender.machine.control i).output) zero_link
      ∙ ap (λ (x : Node). (link_end x.machine.control 0).output) (sym same) ∙ old.2.output)
    where
      differ : {o : Offer} → Some o ≡ None → ⊥
      differ e = cc

  sends_known : Sends (role_at p f.node)
  sends_known =
      by_role p none f e back_there Sends node_sends_known source_sends_known
      (λ j sink there at zero_link a. absurd (sink_sends_not j sink there at zero_link))

  -- no process waits at the receiver for its input and for others
  asks_told : (r : Role) → AwaitsNone p s e r → Tells (crosses p f e None) s None IsKnown
      → Tells (asks r e >>= crosses p f e) s None IsKnown
  asks_told Processor nobody h =
      subst (λ (o : Option Name). Tells (crosses p f e o) s None IsKnown) (sym (nobody refl)) h
  asks_told Source nobody h = h
  asks_told Sink nobody h = h
  asks_told Nothing nobody h = h

  pub handed_known : IsKnown makes.label.deed.message
  handed_known =
      agent_told p (Wire e) s s' IsKnown makes
      (subst (λ (o : Option End). Tells (passes p o e) s None IsKnown) (sym (sender_found p none e f wired))
      (asks_told (role_at p e.node) (asking_awaits p none c s e f shows wired k.receiver k.inp k.asks)
      (told_bind (sends p (role_at p f.node) f) _ s None IsKnown
      (after_weaken (sends p (role_at p f.node) f) s (λ message t. KnowsCells message gone) _ sends_known
      (λ message t known o.
      told_bind (receives p (role_at p e.node) e message) (λ _. telling message done) t o IsKnown
      (after_all (receives p (role_at p e.node) e message) t _ (λ x u o'. known)))))))
