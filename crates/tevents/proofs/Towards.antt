-- For each move that is lawful in what is seen of a net, the event that is found is seen as its step, or as none.
use Rattle.std.proofs.Common.{◌≡◌, ℕ, ◌+◌, ◌<◌, refl, sym, ap, ◌∙◌, subst, Bool, true, false, [], ◌∷◌, Err}
use Rattle.std.proofs.Common.{Option, Some, None, ◌⊎◌, inl, inr, arith}
use Rattle.std.specs.Prelude.{◌==◌, ◌||◌, Result}
use Rattle.std.proofs.lemmas.Option.{same_Some}
use Rattle.std.proofs.lemmas.Bool.{and_parts, eqb-true, eq-eqb}
use Rattle.tword.specs.declared.breaks.Break.{Break}
use Rattle.tword.specs.declared.breaks.Break.TheVariants.{LengthMismatch}
use Rattle.tproc.specs.declared.offer.Offer.{Offer}
use Rattle.tproc.specs.Steps.{step}
use Rattle.tproc.specs.LinkChannels.{link_end}
use Rattle.tlink.specs.declared.counts.Arrival.{Arrival}
use Rattle.tlink.specs.declared.counts.Counts.{Counts}
use Rattle.tlink.specs.declared.event.Emitted.{Emitted}
use Rattle.tlink.specs.declared.event.StepFault.{StepFault}
use Rattle.tlink.specs.Node.{NodeState, counts_at, output_at, input_at}
use Rattle.tlink.specs.Roles.{Role, receives, has_room, is_full}
use Rattle.tplan.specs.declared.event.Act.{Act}
use Rattle.tplan.specs.declared.event.Act.TheVariants.{Run, Data, Take, Ack}
use Rattle.tplan.specs.declared.event.Event.{Event}
use Rattle.tplan.specs.declared.plan.End.{End}
use Rattle.tplan.specs.Wires.{end_at, far_end}
use Rattle.tnet.specs.Net.{NetState, inboxes_at, inbox_at, node_at}
use Rattle.tnet.specs.Packets.{answered, net_happens}
use Rattle.tnet.specs.Rendezvous.{Node, Configuration, Step, Local, Notice, Copy, Wake, Freeze_at, node_of, was_copied}
use Rattle.tnet.specs.Rendezvous.{Offers, Asks, IsLocal, IsNotice, IsCopy, IsWake, IsMismatch, IsFreeze, Lawful}
use Rattle.tnet.specs.View.{view_node, view, data_image, take_image, is_copied}
use Rattle.tnet.specs.Sound.{IsSound, IsSoundNode, IsOrderly, IsDirection, Flying, WasCopied, Answered, Traffic}
use Rattle.tnet.specs.Sound.{traffic}
use Rattle.tnet.proofs.DoneEvents.{event_at}
use Rattle.tnet.proofs.SeenNets.{node_of-view, was_copied-view, unacknowledged}
use Rattle.tnet.proofs.SoundNodes.{node_sound}
use Rattle.tnet.proofs.WireStages.{acknowledged_by}
use Rattle.treduction.specs.Quiet.{OffersFrozen, TakesFrozen}
use Rattle.treduction.proofs.Quiet.{IsSeen, is_seen, asks_listens, fit_room, differ_room, not_all_acked}
use Rattle.treduction.proofs.Waiting.{wired_link}
use Rattle.tevents.specs.declared.moves.Move.{Move}
use Rattle.tevents.specs.declared.moves.Move.TheVariants as moves
use Rattle.tevents.specs.Finding.{IsMove, events_between, events_for, next_event, ends_message, ends}
use Rattle.tevents.proofs.Enabled.{own_step, own_break, takes, acknowledges, enabled_at, taken_told}
use Rattle.tevents.proofs.WireSteps.{Shows, IsTowards, towards, NextOnWire, EndsAtReceiver, next_on_wire, copy_seen}
use Rattle.tevents.proofs.WireSteps.{mismatch_seen}

-- the event that is found for a move
pub record NextEvent (net : NetState) (m : Move) (s : Step) : Type 0 where
  pub event : Event
  pub first : next_event m net ≡ Some event
  pub towards : IsTowards net event m s

-- where all is sent, an acknowledge is the last
last_acked : (out : Offer) (t : Traffic) → t.sent ≡ out.length → Answered out.length t ⊎ WasCopied out.length t
    → t.acked + 1 ≡ out.length
last_acked out t all (inl h) = absurd (omega (arith, h.more, all))
last_acked out t all (inr h) = h.one_unacked

module _ (net : NetState) (sound : IsSound net) where
  -- an own step
  pub local : (n : ℕ) (w' : Configuration) → IsLocal (view net) n w'
      → IsTowards net (event_at n Run) (moves.Own n) (Local n)
  local n w' k = by (is_seen net n k.node sound k.here)
    where
      by : IsSeen net n k.node → IsTowards net (event_at n Run) (moves.Own n) (Local n)
      by s =
          towards net (event_at n Run) (moves.Own n) (Local n) (Local n ∷ [])
          (own_step net n s.node s.there (ap (λ (x : Node). x.broken) s.looks ∙ k.works) sound k.machine k.ran
          (ap (λ (x : Node). step x.machine) s.looks ∙ k.steps) k.is_step) (inl (refl, refl))

  -- a break
  pub breaks : (n : ℕ) (s : Node) (b : Break) → node_of (view net) n ≡ Some s → s.broken ≡ None
      → step s.machine ≡ Err b → IsTowards net (event_at n Run) (moves.Own n) (Freeze_at n b)
  breaks n s b here works h = by (is_seen net n s sound here)
    where
      by : IsSeen net n s → IsTowards net (event_at n Run) (moves.Own n) (Freeze_at n b)
      by t =
          towards net (event_at n Run) (moves.Own n) (Freeze_at n b) (Freeze_at n b ∷ [])
          (own_break net n t.node t.there (ap (λ (x : Node). x.broken) t.looks ∙ works) sound b
          (ap (λ (x : Node). step x.machine) t.looks ∙ h)) (inl (refl, refl))

  -- a sender that is woken
  pub wakes : (f : End) (w' : Configuration) → IsWake (view net) f w'
      → IsTowards net (event_at f.node (Ack f.link)) (moves.Wake f) (Wake f)
  wakes f w' k = by (is_seen net f.node k.node sound k.copied.node)
    where
      by : IsSeen net f.node k.node → IsTowards net (event_at f.node (Ack f.link)) (moves.Wake f) (Wake f)
      by s = on (inbox_at net f).acknowledged refl
        where
          out : output_at s.node f.link ≡ Some k.out
          out = ap (λ (x : Node). (link_end x.machine.control f.link).output) s.looks ∙ k.copied.output

          works : s.node.broken ≡ None
          works = ap (λ (x : Node). x.broken) s.looks ∙ k.works

          copied : is_copied (output_at s.node f.link) (counts_at s.node f.link) (inbox_at net f) ≡ true
          copied = sym (was_copied-view net f.node f.link s.node)
              ∙ ap (λ (x : Node). was_copied x f.link) s.looks ∙ k.copied.copied

          all_sent : (counts_at s.node f.link).sent ≡ k.out.length
          all_sent = eqb-true _ _ (and_parts _ _ (rw out at copied)).0

          done_by : (counts_at s.node f.link).acked + 1 ≡ k.out.length → (inbox_at net f).acknowledged ≡ true
              → IsTowards net (event_at f.node (Ack f.link)) (moves.Wake f) (Wake f)
          done_by one lies =
              let test : ((counts_at s.node f.link).acked + 1 == k.out.length) ≡ true = eq-eqb _ _ one in
              towards net (event_at f.node (Ack f.link)) (moves.Wake f) (Wake f) _
              (acknowledges net f.node s.node s.there works f.link k.out out lies (all_sent ∙ sym one))
              (inl (rw test refl, refl))

          at_wire : (far : Option End) → far_end net.wires f ≡ far → (inbox_at net f).acknowledged ≡ true
              → IsTowards net (event_at f.node (Ack f.link)) (moves.Wake f) (Wake f)
          at_wire None e lies =
              let no : false ≡ true = sym (sound.bare f s.node s.there e).no_acknowledge ∙ lies in absurd cc
          at_wire (Some e) wire lies =
              let d : IsDirection net f e = sound.directions f e wire in
              let same : d.sender ≡ s.node = same_Some _ _ (sym d.sends ∙ s.there) in
              let h : IsOrderly (output_at s.node f.link) (traffic s.node d.receiver net f e) =
              subst (λ (x : NodeState). IsOrderly (output_at x f.link) (traffic x d.receiver net f e)) same d.orderly in
              done_by
              (last_acked k.out (traffic s.node d.receiver net f e) all_sent
              (acknowledged_by k.out (traffic s.node d.receiver net f e) (rw out at h) lies)) lies

          on : (b : Bool) → (inbox_at net f).acknowledged ≡ b
              → IsTowards net (event_at f.node (Ack f.link)) (moves.Wake f) (Wake f)
          on true lies = at_wire (far_end net.wires f) refl lies
          on false lies =
              let no : false ≡ true =
              sym (unacknowledged (output_at s.node f.link) (counts_at s.node f.link) (inbox_at net f) lies) ∙ copied in
              absurd cc

  -- what is offered by a node that works goes on along its wire
  module _ (f e : End) (wire : far_end net.wires e ≡ Some f) (s r : Node) (out : Offer)
      (offers : Offers (view net) f s out) (there : node_of (view net) e.node ≡ Some r) (works : r.broken ≡ None)
      (listens : receives r.role ≡ true) (free : OffersFrozen (view net) f e → ⊥) where
    awake : s.broken ≡ None
    awake = by s.broken refl
      where
        by : (o : Option Break) → s.broken ≡ o → s.broken ≡ None
        by None h = h
        by (Some b) h =
            absurd (free (record {
              sender = s;
              receiver = r;
              out = out;
              break = b;
              wired = wire;
              offers = offers;
              frozen = h;
              there = there;
              works = works;
              listens = listens;
            }))

    d : IsDirection net f e
    d = sound.directions f e (sound.wires.back e f wire)

    sends : view_node (d.sender, inboxes_at net f.node) ≡ s
    unfolding d
    sends = same_Some _ _ (sym (node_of-view net f.node d.sender sound.boxes d.sends) ∙ offers.node)

    comes : view_node (d.receiver, inboxes_at net e.node) ≡ r
    unfolding d
    comes = same_Some _ _ (sym (node_of-view net e.node d.receiver sound.boxes d.receives) ∙ there)

    output : output_at d.sender f.link ≡ Some out
    unfolding d
    output = ap (λ (x : Node). (link_end x.machine.control f.link).output) sends ∙ offers.output

    fresh : is_copied (Some out) (counts_at d.sender f.link) (inbox_at net f) ≡ false
    unfolding d
    fresh = ap (λ (o : Option Offer). is_copied o (counts_at d.sender f.link) (inbox_at net f)) (sym output)
        ∙ sym (was_copied-view net f.node f.link d.sender) ∙ ap (λ (x : Node). was_copied x f.link) sends
        ∙ offers.fresh

    on_wire : (m : Move) (t : Step) → EndsAtReceiver m
        → ((receiver : NodeState) → view_node (receiver, inboxes_at net e.node) ≡ r
        → (told : Result Emitted StepFault)
        → Shows t (data_image e (input_at receiver e.link)) (ends m (Data e.link) told))
        → ((sender receiver : NodeState) → node_at net f.node ≡ Some sender → output_at sender f.link ≡ Some out
        → node_at net e.node ≡ Some receiver → view_node (receiver, inboxes_at net e.node) ≡ r
        → (h : Flying out.length (traffic sender receiver net f e))
        → (counts_at receiver e.link).arrived ≡ Some h.byte → IsTowards net (event_at e.node (Take e.link)) m t)
        → NextOnWire net f e m t
    unfolding d
    on_wire m t quiet lies waits =
        next_on_wire net f e sound wire d.sender d.receiver out d.sends d.receives
        (ap (λ (x : Node). x.broken) sends ∙ awake) (ap (λ (x : Node). x.broken) comes ∙ works)
        (ap (λ (x : Node). receives x.role) comes ∙ listens) output fresh m t quiet (lies d.receiver comes)
        (waits d.sender d.receiver d.sends output d.receives comes) (rw output at d.orderly)

  -- so an offer is noticed
  pub notices : (e : End) (w' : Configuration) → (k : IsNotice (view net) e w')
      → (TakesFrozen (view net) (Notice e) → ⊥) → NextOnWire net k.far e (moves.Notice e) (Notice e)
  notices e w' k free =
      on_wire k.far e k.wired k.sender k.node k.out k.offers k.here k.works k.listens (λ o. free (k.far, o))
      (moves.Notice e) (Notice e) (λ l told. (refl, refl)) lies waits
    where
      none : (receiver : NodeState) → view_node (receiver, inboxes_at net e.node) ≡ k.node
          → input_at receiver e.link ≡ None
      none receiver looks = ap (λ (x : Node). (link_end x.machine.control e.link).input) looks ∙ k.no_input

      lies : (receiver : NodeState) → view_node (receiver, inboxes_at net e.node) ≡ k.node
          → (told : Result Emitted StepFault)
          → Shows (Notice e) (data_image e (input_at receiver e.link)) (ends (moves.Notice e) (Data e.link) told)
      lies receiver looks told = inl (rw (none receiver looks) refl, refl)

      waits : (sender receiver : NodeState) → node_at net k.far.node ≡ Some sender
          → output_at sender k.far.link ≡ Some k.out → node_at net e.node ≡ Some receiver
          → view_node (receiver, inboxes_at net e.node) ≡ k.node
          → (h : Flying k.out.length (traffic sender receiver net k.far e))
          → (counts_at receiver e.link).arrived ≡ Some h.byte
          → IsTowards net (event_at e.node (Take e.link)) (moves.Notice e) (Notice e)
      waits sender receiver sends output there looks h waiting =
          let not_yet : (link_end receiver.machine.control e.link).noticed ≡ false =
          ap (λ (x : Node). (link_end x.machine.control e.link).noticed) looks ∙ k.not_noticed in
          let s : IsSoundNode receiver = node_sound net e.node receiver sound there in
          let no : false ≡ true =
          sym not_yet ∙ s.whole.counted.noticed e.link (wired_link net e k.far sound k.wired)
          ∙ rw (none receiver looks, waiting) refl in
          absurd cc

  -- or is taken by an input, as far as the input has room for it
  module _ (f e : End) (wire : far_end net.wires e ≡ Some f) (s r : Node) (out inp : Offer)
      (offers : Offers (view net) f s out) (asks : Asks (view net) e r inp) (works : r.broken ≡ None)
      (free : OffersFrozen (view net) f e → ⊥)
      (room : (c : Counts) → c.got < out.length → has_room r.role inp c ≡ true) (m : Move) (t : Step)
      (quiet : EndsAtReceiver m) (comes : (l : ℕ) (told : Result Emitted StepFault) → ends m (Data l) told ≡ false)
      (takes_end : (l : ℕ) (told : Result Emitted StepFault) → ends m (Take l) told ≡ ends_message told)
      (seen : (a : Arrival) (c : Counts) (sent : ℕ) → a.last ≡ (sent == out.length) → sent ≡ c.got + 1
      → Shows t (take_image net.wires e r.role (Some a) (Some inp) c) (a.last || is_full r.role a inp c)) where
    input : (receiver : NodeState) → view_node (receiver, inboxes_at net e.node) ≡ r
        → input_at receiver e.link ≡ Some inp
    input receiver looks = ap (λ (x : Node). (link_end x.machine.control e.link).input) looks ∙ asks.input

    lies_asked : (receiver : NodeState) → view_node (receiver, inboxes_at net e.node) ≡ r
        → (told : Result Emitted StepFault)
        → Shows t (data_image e (input_at receiver e.link)) (ends m (Data e.link) told)
    lies_asked receiver looks told = inr (rw (input receiver looks) refl, comes e.link told)

    takes_asked : (sender receiver : NodeState) → node_at net f.node ≡ Some sender
        → output_at sender f.link ≡ Some out → node_at net e.node ≡ Some receiver
        → view_node (receiver, inboxes_at net e.node) ≡ r
        → (h : Flying out.length (traffic sender receiver net f e))
        → (counts_at receiver e.link).arrived ≡ Some h.byte → IsTowards net (event_at e.node (Take e.link)) m t
    takes_asked sender receiver sends output there looks h waiting =
        towards net (event_at e.node (Take e.link)) m t _
        (takes net e.node receiver there here e.link h.byte inp waiting (input receiver looks) enough)
        (subst
        (λ (x : Bool). Shows t
        (take_image net.wires e receiver.role (Some h.byte) (Some inp) (counts_at receiver e.link)) x)
        (sym (takes_end e.link (answered (net_happens (event_at e.node (Take e.link)) net))
        ∙ taken_told net e.node e.link receiver h.byte inp there here waiting (input receiver looks) enough))
        shown)
      where
        here : receiver.broken ≡ None
        here = ap (λ (x : Node). x.broken) looks ∙ works

        role : receiver.role ≡ r.role
        role = ap (λ (x : Node). x.role) looks

        more : (counts_at sender f.link).acked < out.length
        more = not_all_acked sender f.link out (node_sound net f.node sender sound sends) output

        less : (counts_at receiver e.link).got < out.length
        less = rw (← h.got_before) at more

        enough : has_room receiver.role inp (counts_at receiver e.link) ≡ true
        enough = ap (λ (x : Role). has_room x inp (counts_at receiver e.link)) role
            ∙ room (counts_at receiver e.link) less

        shown : Shows t (take_image net.wires e receiver.role (Some h.byte) (Some inp) (counts_at receiver e.link))
            (h.byte.last || is_full receiver.role h.byte inp (counts_at receiver e.link))
        shown =
            subst
            (λ (x : Role). Shows t (take_image net.wires e x (Some h.byte) (Some inp) (counts_at receiver e.link))
            (h.byte.last || is_full x h.byte inp (counts_at receiver e.link))) (sym role)
            (seen h.byte (counts_at receiver e.link) (counts_at sender f.link).sent h.marked
            (h.one_sent ∙ ap (λ (k : ℕ). k + 1) (sym h.got_before)))

    listens_asked : receives r.role ≡ true
    listens_asked = by (is_seen net e.node r sound asks.node)
      where
        by : IsSeen net e.node r → receives r.role ≡ true
        by u =
            ap (λ (x : Node). receives x.role) (sym u.looks)
            ∙ asks_listens u.node e.link inp (node_sound net e.node u.node sound u.there)
            (ap (λ (x : Node). (link_end x.machine.control e.link).input) u.looks ∙ asks.input)

    asked : NextOnWire net f e m t
    asked =
        on_wire f e wire s r out offers asks.node works listens_asked free m t quiet lies_asked takes_asked

  -- a message goes over
  pub copies : (f e : End) (w' : Configuration) → IsCopy (view net) f e w'
      → (TakesFrozen (view net) (Copy f e) → ⊥) → NextOnWire net f e (moves.Copy e) (Copy f e)
  copies f e w' k free =
      asked f e k.wired k.sender k.receiver k.out k.inp k.offers k.asks k.works free
      (λ c more. fit_room k.receiver.role k.out k.inp c k.fits more) (moves.Copy e) (Copy f e) (λ l told. (refl, refl))
      (λ l told. refl) (λ l told. refl)
      (λ a c sent last one. copy_seen net.wires f e k.receiver.role k.out k.inp a c sent k.wired k.fits last one)

  -- or is of another length
  pub differs : (n : ℕ) (m : IsMismatch (view net) n) → m.receiver.broken ≡ None
      → (OffersFrozen (view net) m.far (end_at n m.link) → ⊥)
      → NextOnWire net m.far (end_at n m.link) (moves.Mismatch (end_at n m.link)) (Freeze_at n LengthMismatch)
  differs n m works free =
      asked m.far (end_at n m.link) m.wired m.sender m.receiver m.out m.inp m.offers m.asks works free
      (λ c more. differ_room m.receiver.role m.out m.inp c m.differ) (moves.Mismatch (end_at n m.link))
      (Freeze_at n LengthMismatch) (λ l told. (refl, refl)) (λ l told. refl) (λ l told. refl)
      (λ a c sent last one. mismatch_seen net.wires (end_at n m.link) m.receiver.role m.out m.inp a c sent m.differ last
      one)

  -- the event that is found
  alone : (m : Move) (s : Step) (n : ℕ) (act : Act) → events_for m net ≡ event_at n act ∷ []
      → IsTowards net (event_at n act) m s → NextEvent net m s
  alone m s n act only t =
      record {
        event = event_at n act;
        first = rw (only, enabled_at net t.left n act t.done) refl;
        towards = t;
      }

  on_its_wire : (m : Move) (f e : End) (s : Step) → events_for m net ≡ events_between (far_end net.wires e) e
      → far_end net.wires e ≡ Some f → NextOnWire net f e m s → NextEvent net m s
  on_its_wire m f e s these wire n =
      record { event = n.event; first = rw (these, wire) n.first; towards = n.towards }

  by_own : (n : ℕ) (s : Step) (w' : Configuration) → IsMove (view net) (moves.Own n) s → Lawful (view net) s w'
      → NextEvent net (moves.Own n) s
  by_own n s w' (inl e) k =
      subst (λ (t : Step). NextEvent net (moves.Own n) t) (sym e)
      (alone (moves.Own n) (Local n) n Run refl (local n w' (subst (λ (t : Step). Lawful (view net) t w') e k)))
  by_own n s w' (inr (b, e, h)) k =
      subst (λ (t : Step). NextEvent net (moves.Own n) t) (sym e)
      (alone (moves.Own n) (Freeze_at n b) n Run refl
      (breaks n h.node b h.here (works (subst (λ (t : Step). Lawful (view net) t w') e k)) h.breaks))
    where
      works : IsFreeze (view net) n b w' → h.node.broken ≡ None
      works f = ap (λ (x : Node). x.broken) (same_Some _ _ (sym h.here ∙ f.here)) ∙ f.works

  by_mismatch : (e : End) (w' : Configuration) (m : IsMismatch (view net) e.node) → m.link ≡ e.link
      → IsFreeze (view net) e.node LengthMismatch w' → (TakesFrozen (view net) (Freeze_at e.node LengthMismatch) → ⊥)
      → NextEvent net (moves.Mismatch e) (Freeze_at e.node LengthMismatch)
  by_mismatch e w' m at k free =
      let same : k.node ≡ m.receiver = same_Some _ _ (sym k.here ∙ m.asks.node) in
      let end : end_at e.node m.link ≡ e = ap (λ (l : ℕ). end_at e.node l) at in
      let d : NextOnWire net m.far (end_at e.node m.link) (moves.Mismatch (end_at e.node m.link))
      (Freeze_at e.node LengthMismatch) =
      differs e.node m (ap (λ (x : Node). x.broken) (sym same) ∙ k.works) (λ o. free (refl, m.link, m.far, o)) in
      subst (λ (x : End). NextEvent net (moves.Mismatch x) (Freeze_at e.node LengthMismatch)) end
      (on_its_wire (moves.Mismatch (end_at e.node m.link)) m.far (end_at e.node m.link)
      (Freeze_at e.node LengthMismatch) refl m.wired d)

  -- of each move
  pub next_event_of : (m : Move) (s : Step) (w' : Configuration) → IsMove (view net) m s → Lawful (view net) s w'
      → (TakesFrozen (view net) s → ⊥) → NextEvent net m s
  next_event_of (moves.Own n) s w' is k free = by_own n s w' is k
  next_event_of (moves.Notice e) s w' is k free =
      subst (λ (t : Step). NextEvent net (moves.Notice e) t) (sym is)
      (found (subst (λ (t : Step). Lawful (view net) t w') is k)
      (subst (λ (t : Step). TakesFrozen (view net) t → ⊥) is free))
    where
      found : IsNotice (view net) e w' → (TakesFrozen (view net) (Notice e) → ⊥)
          → NextEvent net (moves.Notice e) (Notice e)
      found l f = on_its_wire (moves.Notice e) l.far e (Notice e) refl l.wired (notices e w' l f)
  next_event_of (moves.Copy e) s w' (f, is) k free =
      subst (λ (t : Step). NextEvent net (moves.Copy e) t) (sym is)
      (found (subst (λ (t : Step). Lawful (view net) t w') is k)
      (subst (λ (t : Step). TakesFrozen (view net) t → ⊥) is free))
    where
      found : IsCopy (view net) f e w' → (TakesFrozen (view net) (Copy f e) → ⊥)
          → NextEvent net (moves.Copy e) (Copy f e)
      found l g = on_its_wire (moves.Copy e) f e (Copy f e) refl l.wired (copies f e w' l g)
  next_event_of (moves.Wake f) s w' is k free =
      subst (λ (t : Step). NextEvent net (moves.Wake f) t) (sym is)
      (alone (moves.Wake f) (Wake f) f.node (Ack f.link) refl
      (wakes f w' (subst (λ (t : Step). Lawful (view net) t w') is k)))
  next_event_of (moves.Mismatch e) s w' (is, m, at) k free =
      subst (λ (t : Step). NextEvent net (moves.Mismatch e) t) (sym is)
      (by_mismatch e w' m at (subst (λ (t : Step). Lawful (view net) t w') is k)
      (subst (λ (t : Step). TakesFrozen (view net) t → ⊥) is free))

-- each lawful step is a move
pub move_of : (w w' : Configuration) (s : Step) → Lawful w s w' → (m : Move) × IsMove w m s
move_of w w' (Local n) k = (moves.Own n, inl refl)
move_of w w' (Notice e) k = (moves.Notice e, refl)
move_of w w' (Copy f e) k = (moves.Copy e, (f, refl))
move_of w w' (Wake f) k = (moves.Wake f, refl)
move_of w w' (Freeze_at n b) k = by k.reason
  where
    by : (step k.node.machine ≡ Err b) ⊎ ((b ≡ LengthMismatch) × IsMismatch w n)
        → (m : Move) × IsMove w m (Freeze_at n b)
    by (inl h) = (moves.Own n, inr (b, refl, record { node = k.node; here = k.here; breaks = h }))
    by (inr (e, m)) = (moves.Mismatch (end_at n m.link), (ap (λ (c : Break). Freeze_at n c) e, m, refl))
