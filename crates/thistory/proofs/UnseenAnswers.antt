-- What a node answers, and what its links count, does not depend on what the buffers of pending inputs hold.
use Rattle.std.proofs.Common.{◌≡◌, ℕ, ◌+◌, ◌<◌, refl, sym, ap, ◌∙◌, Bool, true, false, not, Option, Some, None}
use Rattle.std.proofs.Common.{Result, Ok, Err, arith, unwrap_or}
use Rattle.std.specs.Prelude.{◌&&◌, ◌==◌, nat_lt, is_none, if◌then◌else◌}
use Rattle.std.proofs.lemmas.Bool.{and_parts, ltb-true}
use Rattle.tword.specs.declared.breaks.Break.{Break}
use Rattle.tword.specs.Claims.{is_input}
use Rattle.tword.specs.Touches.{byte_span}
use Rattle.tword.proofs.Hiding.{within_uncovered}
use Rattle.tproc.specs.declared.offer.Offer.{Offer}
use Rattle.tproc.specs.declared.ran.Ran.{Ran}
use Rattle.tproc.specs.declared.ran.Ran.TheVariants as ran
use Rattle.tproc.specs.Machine.{Machine, buffer_of, claims_of}
use Rattle.tproc.specs.LinkChannels.{link_end}
use Rattle.tproc.specs.Hidden.{hidden, hidden_step}
use Rattle.tproc.specs.Steps.{step}
use Rattle.tproc.proofs.Handing.{output_apart}
use Rattle.tproc.proofs.LinkClaims.{apart_from_inputs}
use Rattle.tlink.specs.declared.counts.Arrival.{Arrival}
use Rattle.tlink.specs.declared.counts.Counts.{Counts}
use Rattle.tlink.specs.declared.event.NodeEvent.{NodeEvent}
use Rattle.tlink.specs.declared.event.NodeEvent.TheVariants.{Run, Send, Data, Take, Ack}
use Rattle.tlink.specs.declared.event.StepFault.TheVariants.{NotEnabled}
use Rattle.tlink.specs.declared.event.Mark.TheVariants.{Nothing}
use Rattle.tlink.specs.declared.event.Packet.TheVariants as packet
use Rattle.tlink.specs.Node.{NodeState, counts_at, input_at, is_wired, output_at, with_counts}
use Rattle.tlink.specs.Events.{Answer, after_ack, after_data, after_run, after_send, after_take, at_work}
use Rattle.tlink.specs.Events.{emitting, ended, happens, next_byte, noticed_by, silently, take_marked, unless_frozen}
use Rattle.tlink.specs.Roles.{Role, Processor, Source, Sink, has_room, is_full, receives}
use Rattle.tlink.specs.Whole.{IsHeld}
use Rattle.tlink.proofs.Held.{sink_offers_none, source_asks_none}
use Rattle.tnet.proofs.BlindRoles.{step-blind}
use Rattle.twhere.specs.Unseen.{hidden_node}
use Rattle.thistory.proofs.HiddenBytes.{byte_kept}

-- a node without what stands behind its links, and without its break
abbrev pub frame : Machine → NodeState → NodeState
frame blank n = record n { role = Processor; machine = blank; broken = None }

-- an answer with just that of its node
abbrev pub framed : Machine → Answer → Answer
framed blank (Ok (n, e)) = Ok (frame blank n, e)
framed blank (Err f) = Err f

-- a byte of an output is no input's
sent_free : (role : Role) (m : Machine) (l : ℕ) (o : Offer) (k : ℕ) → IsHeld role m
    → (link_end m.control l).output ≡ Some o → k < o.length
    → is_input (claims_of m.control) (byte_span (o.buffer + k)) ≡ false
sent_free Processor m l o k held offers below =
    within_uncovered (claims_of m.control).inputs (buffer_of o) (o.buffer + k) (omega arith) (omega (arith, below))
    (output_apart m l o held.1 offers)
sent_free (Source over rest) m l o k held offers below =
    apart_from_inputs (byte_span (o.buffer + k)) m.control.links (λ j. rw (source_asks_none rest m j held) refl)
sent_free (Sink kept) m l o k held offers below =
    let wrong : None ≡ Some o = sym (sink_offers_none kept m l held) ∙ offers in cc

module _ (blank : Machine) where
  -- one of two answers
  if_framed : (b : Bool) (x x' y y' : Answer) → framed blank x ≡ framed blank x' → framed blank y ≡ framed blank y'
      → framed blank (if b then x else y) ≡ framed blank (if b then x' else y')
  if_framed true x x' y y' h k = h
  if_framed false x x' y y' h k = k

  -- a step
  run_framed : (s : NodeState) (x : Result (Machine × Ran) Break)
      → framed blank (after_run (hidden_node s) x) ≡ framed blank (after_run s (hidden_step x))
  run_framed s (Ok (m, ran.Instruction)) = refl
  run_framed s (Ok (m, ran.Dispatch)) = refl
  run_framed s (Ok (m, ran.LinkOut l)) = refl
  run_framed s (Ok (m, ran.LinkIn l)) = refl
  run_framed s (Ok (m, ran.Halting)) = refl
  run_framed s (Ok (m, ran.Idle)) = refl
  run_framed s (Ok (m, ran.Halted)) = refl
  run_framed s (Err b) = refl

  run_again : (s : NodeState) (x : Result (Machine × Ran) Break)
      → framed blank (after_run s (hidden_step x)) ≡ framed blank (after_run s x)
  run_again s (Ok (m, ran.Instruction)) = refl
  run_again s (Ok (m, ran.Dispatch)) = refl
  run_again s (Ok (m, ran.LinkOut l)) = refl
  run_again s (Ok (m, ran.LinkIn l)) = refl
  run_again s (Ok (m, ran.Halting)) = refl
  run_again s (Ok (m, ran.Idle)) = refl
  run_again s (Ok (m, ran.Halted)) = refl
  run_again s (Err b) = refl

  -- a byte that is noticed or not
  noticed_framed : (l : ℕ) (o : Option Offer) (n : NodeState) → frame blank (noticed_by l o n) ≡ frame blank n
  noticed_framed l None n = refl
  noticed_framed l (Some o) n = refl

  module _ (s : NodeState) (held : IsHeld s.role s.machine) where
    run_same : framed blank (at_work Run (hidden_node s)) ≡ framed blank (at_work Run s)
    run_same =
        run_framed s (step (hidden s.machine))
        ∙ ap (λ (x : Result (Machine × Ran) Break). framed blank (after_run s x)) (step-blind s.role s.machine held)
        ∙ run_again s (step s.machine)

    -- a byte that is sent
    byte_same : (l : ℕ) (o : Offer) (k : ℕ) → output_at s l ≡ Some o → k < o.length
        → next_byte (hidden_node s) o k ≡ next_byte s o k
    byte_same l o k offers below =
        ap (λ (b : Option ℕ). unwrap_or b 0)
        (byte_kept s.machine (o.buffer + k) (sent_free s.role s.machine l o k held offers below))

    send_same : (l : ℕ) (o : Option Offer) (c : Counts) → output_at s l ≡ o
        → framed blank (after_send l o c (hidden_node s)) ≡ framed blank (after_send l o c s)
    send_same l None c h = refl
    send_same l (Some o) c h = by (is_wired s l && (c.acked == c.sent) && nat_lt c.sent o.length) refl
      where
        by : (b : Bool) → (is_wired s l && (c.acked == c.sent) && nat_lt c.sent o.length) ≡ b
            → framed blank (if b
            then emitting l (packet.Data (next_byte (hidden_node s) o c.sent) (c.sent + 1 == o.length)) Nothing
            (with_counts l (record c { sent = c.sent + 1 }) (hidden_node s))
            else Err NotEnabled)
            ≡ framed blank (if b
            then emitting l (packet.Data (next_byte s o c.sent) (c.sent + 1 == o.length)) Nothing
            (with_counts l (record c { sent = c.sent + 1 }) s)
            else Err NotEnabled)
        by false e = refl
        by true e =
            let parts = and_parts (is_wired s l && (c.acked == c.sent)) (nat_lt c.sent o.length) e in
            ap (λ (byte : ℕ). framed blank (emitting l (packet.Data byte (c.sent + 1 == o.length)) Nothing
            (with_counts l (record c { sent = c.sent + 1 }) s)))
            (byte_same l o c.sent h (ltb-true c.sent o.length parts.1))

    data_same : (l : ℕ) (a : Arrival) (c : Counts)
        → framed blank (after_data l a c (hidden_node s)) ≡ framed blank (after_data l a c s)
    data_same l a c =
        if_framed (receives s.role && is_wired s l && is_none c.arrived)
        (silently Nothing (noticed_by l (input_at s l) (with_counts l (record c { arrived = Some a }) (hidden_node s))))
        (silently Nothing (noticed_by l (input_at s l) (with_counts l (record c { arrived = Some a }) s)))
        (Err NotEnabled) (Err NotEnabled)
        (ap (λ (n : NodeState). Ok (n, record { packet = None; mark = Nothing }))
        (noticed_framed l (input_at s l) (with_counts l (record c { arrived = Some a }) (hidden_node s))
        ∙ sym (noticed_framed l (input_at s l) (with_counts l (record c { arrived = Some a }) s)))) refl

    take_marked_same : (l : ℕ) (marked full : Bool) (byte : ℕ) (o : Offer) (c : Counts)
        → framed blank (take_marked l marked full byte o c (hidden_node s))
        ≡ framed blank (take_marked l marked full byte o c s)
    take_marked_same l true true byte o c = refl
    take_marked_same l true false byte o c = refl
    take_marked_same l false true byte o c = refl
    take_marked_same l false false byte o c = refl

    take_same : (l : ℕ) (a : Option Arrival) (o : Option Offer) (c : Counts)
        → framed blank (after_take l a o c (hidden_node s)) ≡ framed blank (after_take l a o c s)
    take_same l None None c = refl
    take_same l None (Some o) c = refl
    take_same l (Some a) None c = refl
    take_same l (Some a) (Some o) c =
        if_framed (has_room s.role o c)
        (take_marked l a.last (is_full s.role a o c) a.byte o c (hidden_node s))
        (take_marked l a.last (is_full s.role a o c) a.byte o c s)
        (Err NotEnabled) (Err NotEnabled)
        (take_marked_same l a.last (is_full s.role a o c) a.byte o c) refl

    ack_same : (l : ℕ) (o : Option Offer) (c : Counts)
        → framed blank (after_ack l o c (hidden_node s)) ≡ framed blank (after_ack l o c s)
    ack_same l None c = refl
    ack_same l (Some o) c =
        if_framed (not (c.sent == c.acked + 1)) (Err NotEnabled) (Err NotEnabled)
        (if c.acked + 1 == o.length then silently Nothing (ended l c (hidden_node s))
        else silently Nothing (with_counts l (record c { acked = c.acked + 1 }) (hidden_node s)))
        (if c.acked + 1 == o.length then silently Nothing (ended l c s)
        else silently Nothing (with_counts l (record c { acked = c.acked + 1 }) s)) refl
        (if_framed (c.acked + 1 == o.length)
        (silently Nothing (ended l c (hidden_node s))) (silently Nothing (ended l c s))
        (silently Nothing (with_counts l (record c { acked = c.acked + 1 }) (hidden_node s)))
        (silently Nothing (with_counts l (record c { acked = c.acked + 1 }) s)) refl refl)

    work_same : (e : NodeEvent) → framed blank (at_work e (hidden_node s)) ≡ framed blank (at_work e s)
    work_same Run = run_same
    work_same (Send l) = send_same l (output_at s l) (counts_at s l) refl
    work_same (Data l byte last) = data_same l (record { byte = byte; last = last }) (counts_at s l)
    work_same (Take l) = take_same l (counts_at s l).arrived (input_at s l) (counts_at s l)
    work_same (Ack l) = ack_same l (output_at s l) (counts_at s l)

    frozen_same : (b : Option Break) (e : NodeEvent)
        → framed blank (unless_frozen b (at_work e (hidden_node s))) ≡ framed blank (unless_frozen b (at_work e s))
    frozen_same None e = work_same e
    frozen_same (Some b) e = refl

    -- an event of a node
    pub happens_same : (e : NodeEvent) → framed blank (happens e (hidden_node s)) ≡ framed blank (happens e s)
    unfolding happens
    happens_same e = frozen_same s.broken e
