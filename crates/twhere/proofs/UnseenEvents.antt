-- Which events are enabled does not depend on what the buffers of pending inputs hold.
use Rattle.std.proofs.Common.{◌≡◌, ℕ, zero, suc, refl, sym, ap, ap₂, ◌∙◌, List, [], ◌∷◌, length, Bool, true, false}
use Rattle.std.proofs.Common.{not, ◌&&◌, ◌+◌, Option, Some, None, Result, Ok, Err}
use Rattle.std.specs.Prelude.{◌==◌, nat_lt, is_none, option_map, slice_get, if◌then◌else◌}
use Rattle.std.specs.List.{list_all}
use Rattle.std.proofs.lemmas.List.{length-map}
use Rattle.std.proofs.lemmas.Option.{slice_get-map}
use Rattle.tword.specs.declared.breaks.Break.{Break}
use Rattle.tproc.specs.declared.offer.Offer.{Offer}
use Rattle.tproc.specs.declared.ran.Ran.{Ran}
use Rattle.tproc.specs.declared.ran.Ran.TheVariants as ran
use Rattle.tproc.specs.Machine.{Machine}
use Rattle.tproc.specs.Hidden.{hidden, hidden_step}
use Rattle.tproc.specs.Steps.{step}
use Rattle.tlink.specs.declared.counts.Arrival.{Arrival}
use Rattle.tlink.specs.declared.counts.Counts.{Counts}
use Rattle.tlink.specs.declared.event.NodeEvent.{NodeEvent}
use Rattle.tlink.specs.declared.event.NodeEvent.TheVariants.{Run, Send, Data, Take, Ack}
use Rattle.tlink.specs.declared.event.StepFault.TheVariants.{NotEnabled, Frozen}
use Rattle.tlink.specs.declared.event.Mark.TheVariants.{Nothing}
use Rattle.tlink.specs.declared.event.Packet.TheVariants as packet
use Rattle.tlink.specs.Node.{NodeState, counts_at, input_at, is_wired, output_at, with_counts}
use Rattle.tlink.specs.Events.{Answer, after_ack, after_data, after_run, after_send, after_take, at_work, happens}
use Rattle.tlink.specs.Events.{emitting, ended, is_node_done, next_byte, noticed_by, silently, take_marked}
use Rattle.tlink.specs.Events.{unless_frozen}
use Rattle.tlink.specs.Roles.{has_room, is_full, receives}
use Rattle.tlink.specs.Whole.{IsHeld}
use Rattle.tplan.specs.declared.event.Act.{Act}
use Rattle.tplan.specs.declared.event.Event.{Event}
use Rattle.tnet.specs.Net.{NetState}
use Rattle.tnet.specs.Packets.{answer_of, is_done, is_enabled, net_answer, net_happens, node_event}
use Rattle.tnet.specs.Quiet.{is_quiet, is_quiet_from, node_events}
use Rattle.tnet.specs.Sound.{IsSound}
use Rattle.tnet.proofs.BlindRoles.{step-blind}
use Rattle.tnet.proofs.SoundNodes.{node_sound}
use Rattle.twhere.specs.Unseen.{hidden_net, hidden_node}

-- one of two answers, each of which is done or not like another
if_done : (b : Bool) (x x' y y' : Answer) → is_node_done x ≡ is_node_done x' → is_node_done y ≡ is_node_done y'
    → is_node_done (if b then x else y) ≡ is_node_done (if b then x' else y')
if_done true x x' y y' h k = h
if_done false x x' y y' h k = k

-- a step, whatever state it began in
run_hidden : (s t : NodeState) (x : Result (Machine × Ran) Break)
    → is_node_done (after_run s x) ≡ is_node_done (after_run t (hidden_step x))
run_hidden s t (Ok (m, ran.Instruction)) = refl
run_hidden s t (Ok (m, ran.Dispatch)) = refl
run_hidden s t (Ok (m, ran.LinkOut l)) = refl
run_hidden s t (Ok (m, ran.LinkIn l)) = refl
run_hidden s t (Ok (m, ran.Halting)) = refl
run_hidden s t (Ok (m, ran.Idle)) = refl
run_hidden s t (Ok (m, ran.Halted)) = refl
run_hidden s t (Err b) = refl

-- what an event does where it is enabled: a byte is sent, one comes, an acknowledge comes
abbrev sent : ℕ → Offer → Counts → NodeState → Answer
sent l o c n =
    emitting l (packet.Data (next_byte n o c.sent) (c.sent + 1 == o.length)) Nothing
    (with_counts l (record c { sent = c.sent + 1 }) n)

abbrev come : ℕ → Arrival → Counts → NodeState → Answer
come l a c n =
    silently Nothing (noticed_by l (input_at n l) (with_counts l (record c { arrived = Some a }) n))

abbrev acknowledged : ℕ → Offer → Counts → NodeState → Answer
acknowledged l o c n =
    if c.acked + 1 == o.length then silently Nothing (ended l c n)
    else silently Nothing (with_counts l (record c { acked = c.acked + 1 }) n)

module _ (s : NodeState) (held : IsHeld s.role s.machine) where
  run_same : is_node_done (at_work Run (hidden_node s)) ≡ is_node_done (at_work Run s)
  run_same =
      run_hidden (hidden_node s) s (step (hidden s.machine))
      ∙ ap (λ (x : Result (Machine × Ran) Break). is_node_done (after_run s x)) (step-blind s.role s.machine held)
      ∙ sym (run_hidden s s (step s.machine))

  send_same : (l : ℕ) (o : Option Offer) (c : Counts)
      → is_node_done (after_send l o c (hidden_node s)) ≡ is_node_done (after_send l o c s)
  send_same l None c = refl
  send_same l (Some o) c =
      if_done (is_wired s l && (c.acked == c.sent) && nat_lt c.sent o.length) (sent l o c (hidden_node s))
      (sent l o c s) (Err NotEnabled) (Err NotEnabled) refl refl

  take_marked_same : (l : ℕ) (marked full : Bool) (byte : ℕ) (o : Offer) (c : Counts)
      → is_node_done (take_marked l marked full byte o c (hidden_node s))
      ≡ is_node_done (take_marked l marked full byte o c s)
  take_marked_same l true true byte o c = refl
  take_marked_same l true false byte o c = refl
  take_marked_same l false true byte o c = refl
  take_marked_same l false false byte o c = refl

  take_same : (l : ℕ) (a : Option Arrival) (o : Option Offer) (c : Counts)
      → is_node_done (after_take l a o c (hidden_node s)) ≡ is_node_done (after_take l a o c s)
  take_same l None None c = refl
  take_same l None (Some o) c = refl
  take_same l (Some a) None c = refl
  take_same l (Some a) (Some o) c =
      if_done (has_room s.role o c)
      (take_marked l a.last (is_full s.role a o c) a.byte o c (hidden_node s))
      (take_marked l a.last (is_full s.role a o c) a.byte o c s)
      (Err NotEnabled) (Err NotEnabled)
      (take_marked_same l a.last (is_full s.role a o c) a.byte o c) refl

  ack_same : (l : ℕ) (o : Option Offer) (c : Counts)
      → is_node_done (after_ack l o c (hidden_node s)) ≡ is_node_done (after_ack l o c s)
  ack_same l None c = refl
  ack_same l (Some o) c =
      if_done (not (c.sent == c.acked + 1)) (Err NotEnabled) (Err NotEnabled)
      (acknowledged l o c (hidden_node s)) (acknowledged l o c s) refl
      (if_done (c.acked + 1 == o.length)
      (silently Nothing (ended l c (hidden_node s))) (silently Nothing (ended l c s))
      (silently Nothing (with_counts l (record c { acked = c.acked + 1 }) (hidden_node s)))
      (silently Nothing (with_counts l (record c { acked = c.acked + 1 }) s)) refl refl)

  data_same : (l : ℕ) (a : Arrival) (c : Counts)
      → is_node_done (after_data l a c (hidden_node s)) ≡ is_node_done (after_data l a c s)
  data_same l a c =
      if_done (receives s.role && is_wired s l && is_none c.arrived) (come l a c (hidden_node s)) (come l a c s)
      (Err NotEnabled) (Err NotEnabled) refl refl

  work_same : (e : NodeEvent) → is_node_done (at_work e (hidden_node s)) ≡ is_node_done (at_work e s)
  work_same Run = run_same
  work_same (Send l) = send_same l (output_at s l) (counts_at s l)
  work_same (Data l byte last) = data_same l (record { byte = byte; last = last }) (counts_at s l)
  work_same (Take l) = take_same l (counts_at s l).arrived (input_at s l) (counts_at s l)
  work_same (Ack l) = ack_same l (output_at s l) (counts_at s l)

  frozen_same : (b : Option Break) (e : NodeEvent)
      → is_node_done (unless_frozen b (at_work e (hidden_node s))) ≡ is_node_done (unless_frozen b (at_work e s))
  frozen_same None e = work_same e
  frozen_same (Some b) e = refl

  -- an event of a node
  happens_same : (e : NodeEvent) → is_node_done (happens e (hidden_node s)) ≡ is_node_done (happens e s)
  unfolding happens
  happens_same e = frozen_same s.broken e

-- the answer of a net is done where that of the node is
done_as : (n : ℕ) (act : Act) (net : NetState) (x : Answer) → is_done (net_answer n act net x) ≡ is_node_done x
done_as n act net (Ok (s, e)) = refl
done_as n act net (Err NotEnabled) = refl
done_as n act net (Err (Frozen b)) = refl

module _ (net : NetState) (sound : IsSound net) where
  answer_same : (n : ℕ) (act : Act) (e : Option NodeEvent) (s : Option NodeState)
      → slice_get net.nodes n ≡ s
      → is_done (answer_of n act (hidden_net net) e (option_map hidden_node s)) ≡ is_done (answer_of n act net e s)
  answer_same n act None None h = refl
  answer_same n act None (Some s) h = refl
  answer_same n act (Some e) None h = refl
  answer_same n act (Some e) (Some s) h =
      done_as n act (hidden_net net) (happens e (hidden_node s))
      ∙ happens_same s (node_sound net n s sound h).whole.held e
      ∙ sym (done_as n act net (happens e s))

  enabled_same : (e : Event) → is_enabled (hidden_net net) e ≡ is_enabled net e
  unfolding net_happens
  enabled_same e =
      ap (λ (s : Option NodeState). is_done (answer_of e.node e.act (hidden_net net) (node_event net e.node e.act) s))
      (slice_get-map hidden_node net.nodes e.node)
      ∙ answer_same e.node e.act (node_event net e.node e.act) (slice_get net.nodes e.node) refl

  none_same : (es : List Event)
      → list_all (λ e. not (is_enabled (hidden_net net) e)) es ≡ list_all (λ e. not (is_enabled net e)) es
  none_same [] = refl
  none_same (e ∷ es) = ap₂ (λ (a b : Bool). not a && b) (enabled_same e) (none_same es)

  from_same : (n k : ℕ) → is_quiet_from (hidden_net net) n k ≡ is_quiet_from net n k
  from_same n zero = refl
  from_same n (suc k) = ap₂ (λ (a b : Bool). a && b) (none_same (node_events n)) (from_same (suc n) k)

  -- whether no event is enabled
  pub quiet_same : is_quiet (hidden_net net) ≡ is_quiet net
  quiet_same =
      ap (λ (k : ℕ). is_quiet_from (hidden_net net) 0 k) (length-map net.nodes hidden_node)
      ∙ from_same 0 (length net.nodes)
