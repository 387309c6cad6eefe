-- A wire with an offer that was not copied: the event of it that comes next.
use Rattle.std.proofs.Common.{◌≡◌, ℕ, ◌+◌, ◌<◌, refl, sym, ap, ◌∙◌, Bool, true, false, List, [], ◌∷◌, Some, None}
use Rattle.std.proofs.Common.{◌⊎◌, inl, inr, ◌≢◌, arith}
use Rattle.std.specs.Prelude.{◌==◌, ◌||◌, Result}
use Rattle.std.proofs.lemmas.Bool.{and_from, eq-eqb, ne_eqb, eqb-true}
use Rattle.tword.specs.declared.breaks.Break.TheVariants.{LengthMismatch}
use Rattle.tproc.specs.declared.offer.Offer.{Offer}
use Rattle.tlink.specs.declared.counts.Arrival.{Arrival}
use Rattle.tlink.specs.declared.counts.Counts.{Counts}
use Rattle.tlink.specs.declared.event.Emitted.{Emitted}
use Rattle.tlink.specs.declared.event.StepFault.{StepFault}
use Rattle.tlink.specs.Node.{NodeState, counts_at, output_at, input_at}
use Rattle.tlink.specs.Roles.{Role, Processor, Source, Sink, receives, is_full}
use Rattle.tplan.specs.declared.event.Act.TheVariants.{Send, Data, Take, Ack}
use Rattle.tplan.specs.declared.event.Event.{Event}
use Rattle.tplan.specs.declared.plan.End.{End}
use Rattle.tplan.specs.declared.plan.Wire.{Wire}
use Rattle.tplan.specs.Wires.{far_end}
use Rattle.tnet.specs.Net.{NetState, inbox_at, node_at}
use Rattle.tnet.specs.Packets.{after_event, answered, net_happens}
use Rattle.tnet.specs.Rendezvous.{Step, Copy, Freeze_at, Fits, Differs}
use Rattle.tnet.specs.View.{image, data_image, take_image, ack_image, is_copied}
use Rattle.tnet.specs.Sound.{IsSound, IsOrderly, Resting, Flying, Answered, traffic}
use Rattle.tnet.proofs.DoneEvents.{event_at}
use Rattle.tnet.proofs.WireStages.{about_nothing}
use Rattle.treduction.proofs.Waiting.{knows_wire, waits_or_lies}
use Rattle.tevents.specs.declared.moves.Move.{Move}
use Rattle.tevents.specs.Finding.{first_enabled, wire_events, ends}
use Rattle.tevents.proofs.Enabled.{Does, sends, comes, acknowledges, enabled_at, no_packet, none_taken}

-- what is seen of an event is this step, and then it ends a move, or it is none
abbrev pub Shows : Step → List Step → Bool → Type 0
Shows s steps last = ((steps ≡ s ∷ []) × (last ≡ true)) ⊎ ((steps ≡ []) × (last ≡ false))

-- an event is done for a move, and is seen as this step, with which the move ends, or as none
pub record IsTowards (net : NetState) (e : Event) (m : Move) (s : Step) : Type 0 where
  pub left : NetState
  pub done : after_event net e ≡ Some left
  pub seen : Shows s (image net e) (ends m e.act (answered (net_happens e net)))

pub towards : (net : NetState) (e : Event) (m : Move) (s : Step) (steps : List Step) → Does net e steps
    → Shows s steps (ends m e.act (answered (net_happens e net))) → IsTowards net e m s
towards net e m s steps d which = record { left = d.left; done = d.done; seen = by which }
  where
    by : Shows s steps (ends m e.act (answered (net_happens e net)))
        → Shows s (image net e) (ends m e.act (answered (net_happens e net)))
    by (inl h) = inl (d.seen ∙ h.0, h.1)
    by (inr h) = inr (d.seen ∙ h.0, h.1)

-- the byte that is taken is the last one of a message that fits, just where it is marked
full_agrees : (role : Role) (out inp : Offer) (a : Arrival) (c : Counts) (sent : ℕ) → Fits role out inp
    → a.last ≡ (sent == out.length) → sent ≡ c.got + 1 → is_full role a inp c ≡ a.last
full_agrees Processor out inp a c sent fits last one =
    sym (last ∙ ap (λ (k : ℕ). k == out.length) one ∙ ap (λ (k : ℕ). c.got + 1 == k) fits)
full_agrees (Source done rest) out inp a c sent fits last one =
    sym (last ∙ ap (λ (k : ℕ). k == out.length) one ∙ ap (λ (k : ℕ). c.got + 1 == k) fits)
full_agrees (Sink kept) out inp a c sent fits last one = refl

-- so it is seen as the message that goes over, or as nothing
pub copy_seen : (wires : List Wire) (f e : End) (role : Role) (out inp : Offer) (a : Arrival) (c : Counts) (sent : ℕ)
    → far_end wires e ≡ Some f → Fits role out inp → a.last ≡ (sent == out.length) → sent ≡ c.got + 1
    → Shows (Copy f e) (take_image wires e role (Some a) (Some inp) c) (a.last || is_full role a inp c)
copy_seen wires f e role out inp a c sent wire fits last one = by a.last refl
  where
    full : is_full role a inp c ≡ a.last
    full = full_agrees role out inp a c sent fits last one

    by : (b : Bool) → a.last ≡ b
        → Shows (Copy f e) (take_image wires e role (Some a) (Some inp) c) (a.last || is_full role a inp c)
    by true h = inl (rw (full, h, wire) refl, rw h refl)
    by false h = inr (rw (full, h) refl, rw (full, h) refl)

-- a message of another length has another last byte
lengths_differ : (role : Role) (out inp : Offer) → Differs role out inp → out.length ≢ inp.length
lengths_differ Processor out inp d = d
lengths_differ (Source done rest) out inp d = d
lengths_differ (Sink kept) out inp d = absurd d

full_length : (role : Role) (out inp : Offer) (a : Arrival) (c : Counts) → Differs role out inp
    → is_full role a inp c ≡ true → c.got + 1 ≡ inp.length
full_length Processor out inp a c d h = eqb-true _ _ h
full_length (Source done rest) out inp a c d h = eqb-true _ _ h
full_length (Sink kept) out inp a c d h = absurd d

pub mismatch_seen : (wires : List Wire) (e : End) (role : Role) (out inp : Offer) (a : Arrival) (c : Counts) (sent : ℕ)
    → Differs role out inp → a.last ≡ (sent == out.length) → sent ≡ c.got + 1
    → Shows (Freeze_at e.node LengthMismatch) (take_image wires e role (Some a) (Some inp) c)
    (a.last || is_full role a inp c)
mismatch_seen wires e role out inp a c sent d last one = by a.last (is_full role a inp c) refl refl
  where
    by : (x y : Bool) → a.last ≡ x → is_full role a inp c ≡ y
        → Shows (Freeze_at e.node LengthMismatch) (take_image wires e role (Some a) (Some inp) c)
        (a.last || is_full role a inp c)
    by true true h k =
        let x : sent ≡ out.length = eqb-true _ _ (sym last ∙ h) in
        absurd (lengths_differ role out inp d (sym x ∙ one ∙ full_length role out inp a c d k))
    by false false h k = inr (rw (k, h) refl, rw (k, h) refl)
    by true false h k = inl (rw (k, h) refl, rw (k, h) refl)
    by false true h k = inl (rw (k, h) refl, rw (k, h) refl)

-- an acknowledge that is not the last is not seen
ack_unseen : (f : End) (o : Offer) (c : Counts) → c.acked + 1 < o.length → ack_image f (Some o) c ≡ []
ack_unseen f o c more =
    let t : (c.acked + 1 == o.length) ≡ false = ne_eqb _ _ (λ e. absurd (omega (arith, e, more))) in
    rw t refl

-- the first event of a wire that is enabled
pub record NextOnWire (net : NetState) (f e : End) (m : Move) (s : Step) : Type 0 where
  pub event : Event
  pub first : first_enabled (wire_events f e) net ≡ Some event
  pub towards : IsTowards net event m s

-- a byte that is sent, or its acknowledge, ends no such move
abbrev pub EndsAtReceiver : Move → Type 0
EndsAtReceiver m = (l : ℕ) (told : Result Emitted StepFault) → (ends m (Send l) told ≡ false)
    × (ends m (Ack l) told ≡ false)

module _ (net : NetState) (f e : End) (sound : IsSound net) (wire : far_end net.wires e ≡ Some f)
    (sender receiver : NodeState) (out : Offer) (sends_here : node_at net f.node ≡ Some sender)
    (there : node_at net e.node ≡ Some receiver) (awake : sender.broken ≡ None) (works : receiver.broken ≡ None)
    (listens : receives receiver.role ≡ true) (offers : output_at sender f.link ≡ Some out)
    (fresh : is_copied (Some out) (counts_at sender f.link) (inbox_at net f) ≡ false) (m : Move) (s : Step)
    (quiet : EndsAtReceiver m)
    (lies : (told : Result Emitted StepFault)
    → Shows s (data_image e (input_at receiver e.link)) (ends m (Data e.link) told))
    (waits : (h : Flying out.length (traffic sender receiver net f e))
    → (counts_at receiver e.link).arrived ≡ Some h.byte → IsTowards net (event_at e.node (Take e.link)) m s) where
  -- nothing is on its way: the next byte is sent
  rests : Resting out.length (traffic sender receiver net f e) → NextOnWire net f e m s
  rests h =
      let none = about_nothing (counts_at receiver e.link).arrived (inbox_at net e).carried h.nothing in
      let d : Does net (event_at f.node (Send f.link)) [] =
      sends net f.node sender sends_here awake f.link out offers
      (knows_wire net f e sender sound sends_here (sound.wires.back e f wire)) h.all_acked h.more in
      record {
        event = event_at f.node (Send f.link);
        first = rw (
          none_taken net e.node e.link receiver there none.0,
          no_packet net e.node (Data e.link) (rw none.1 refl),
          no_packet net f.node (Ack f.link) (rw h.no_acknowledge refl),
          enabled_at net d.left f.node (Send f.link) d.done,
        ) refl;
        towards = towards net (event_at f.node (Send f.link)) m s [] d (inr (refl, (quiet f.link _).0));
      }

  -- a byte is on its way: it comes in, or is taken
  flies : Flying out.length (traffic sender receiver net f e) → NextOnWire net f e m s
  flies h = by (waits_or_lies (counts_at receiver e.link).arrived (inbox_at net e).carried h.byte h.just_it)
    where
      by : ((counts_at receiver e.link).arrived ≡ Some h.byte)
          ⊎ (((counts_at receiver e.link).arrived ≡ None) × ((inbox_at net e).carried ≡ Some h.byte))
          → NextOnWire net f e m s
      by (inl k) =
          let t : IsTowards net (event_at e.node (Take e.link)) m s = waits h k in
          record {
            event = event_at e.node (Take e.link);
            first = rw (enabled_at net t.left e.node (Take e.link) t.done) refl;
            towards = t;
          }
      by (inr k) =
          let d : Does net (event_at e.node (Data e.link)) (data_image e (input_at receiver e.link)) =
          comes net e.node receiver there works e.link h.byte k.1 listens
          (knows_wire net e f receiver sound there wire) k.0 in
          record {
            event = event_at e.node (Data e.link);
            first = rw (
              none_taken net e.node e.link receiver there k.0,
              enabled_at net d.left e.node (Data e.link) d.done,
            ) refl;
            towards = towards net (event_at e.node (Data e.link)) m s _ d (lies _);
          }

  -- it was taken: the acknowledge comes in
  answers : Answered out.length (traffic sender receiver net f e) → NextOnWire net f e m s
  answers h =
      let none = about_nothing (counts_at receiver e.link).arrived (inbox_at net e).carried h.nothing in
      let d : Does net (event_at f.node (Ack f.link)) (ack_image f (Some out) (counts_at sender f.link)) =
      acknowledges net f.node sender sends_here awake f.link out offers h.acknowledge h.one_sent in
      record {
        event = event_at f.node (Ack f.link);
        first = rw (
          none_taken net e.node e.link receiver there none.0,
          no_packet net e.node (Data e.link) (rw none.1 refl),
          enabled_at net d.left f.node (Ack f.link) d.done,
        ) refl;
        towards = towards net (event_at f.node (Ack f.link)) m s _ d
            (inr (ack_unseen f out (counts_at sender f.link) (omega (arith, h.one_sent, h.more)), (quiet f.link _).1));
      }

  pub next_on_wire : IsOrderly (Some out) (traffic sender receiver net f e) → NextOnWire net f e m s
  next_on_wire (inl h) = rests h
  next_on_wire (inr (inl h)) = flies h
  next_on_wire (inr (inr (inl h))) = answers h
  next_on_wire (inr (inr (inr h))) =
      let all : ((counts_at sender f.link).sent == out.length) ≡ true = eq-eqb _ _ h.all_sent in
      let no : true ≡ false = sym (and_from _ _ all h.acknowledge) ∙ fresh in
      absurd cc
