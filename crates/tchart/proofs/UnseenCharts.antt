-- Pictures do not depend on what the buffers of pending inputs hold.
use Rattle.std.proofs.Common.{◌≡◌, ℕ, zero, suc, refl, sym, ap, ap₂, ◌∙◌, subst, Bool, false, List, [], ◌∷◌, Option}
use Rattle.std.proofs.Common.{Some, None, Result, Ok, Err}
use Rattle.std.specs.Prelude.{map, option_map, is_some, slice_get, if◌then◌else◌}
use Rattle.std.proofs.lemmas.Option.{slice_get-map}
use Rattle.tword.specs.Limits.{most_nodes}
use Rattle.tword.specs.Words.{most_neg}
use Rattle.tproc.specs.declared.offer.Offer.{Offer}
use Rattle.tproc.specs.declared.waiter.Reason.{Reason}
use Rattle.tproc.specs.declared.waiter.Waiter.{Waiter}
use Rattle.tproc.specs.Machine.{Machine}
use Rattle.tproc.specs.Hidden.{hidden}
use Rattle.tlink.specs.declared.event.Emitted.{Emitted}
use Rattle.tlink.specs.declared.event.Mark.{Mark}
use Rattle.tlink.specs.declared.event.Mark.TheVariants.{Nothing, Halted, Completed}
use Rattle.tlink.specs.declared.event.StepFault.{StepFault}
use Rattle.tlink.specs.declared.event.StepFault.TheVariants.{NotEnabled, Frozen}
use Rattle.tlink.specs.Roles.{Role, Processor, Source, Sink, offering, script_machine}
use Rattle.tlink.specs.Scripts.{processor_of}
use Rattle.tlink.specs.Node.{NodeState}
use Rattle.tplan.specs.declared.event.Act.{Act}
use Rattle.tplan.specs.declared.event.Act.TheVariants.{Run, Send, Data, Take, Ack}
use Rattle.tplan.specs.declared.event.Event.{Event}
use Rattle.tplan.specs.declared.plan.End.{End}
use Rattle.tplan.specs.declared.plan.Wire.{Wire}
use Rattle.tnet.specs.Net.{NetState, node_at}
use Rattle.tnet.specs.Notes.{event_note}
use Rattle.tnet.specs.Packets.{NetAnswer, after_answer, answered, net_happens, net_left_by}
use Rattle.tnet.specs.Rendezvous.{Configuration, IsRun, Step}
use Rattle.tnet.specs.Sound.{IsSound}
use Rattle.tnet.specs.View.{image, view}
use Rattle.tplan.specs.Wires.{far_ends}
use Rattle.tnet.proofs.Determined.{run_is_determined}
use Rattle.tnet.proofs.DoneEvents.{event_at}
use Rattle.tnet.proofs.SeenEvents.{step_simulation}
use Rattle.twhere.specs.Unseen.{hidden_net, hidden_node}
use Rattle.thistory.specs.declared.deed.Deed.{Deed}
use Rattle.thistory.specs.declared.deed.Deed.TheVariants as deed
use Rattle.thistory.specs.declared.deed.Done.{Done}
use Rattle.thistory.specs.Deeds.{deed_of, done_of, net_behind, processor_in}
use Rattle.thistory.proofs.UnseenDeeds.{deed_alike, done_alike, processor_same}
use Rattle.thistory.proofs.UnseenNets.{answer_alike, images_alike, sound_behind, stays_alike, views_alike}
use Rattle.tchart.specs.declared.layout.Column.{Column}
use Rattle.tchart.specs.declared.marks.Pause.{Pause}
use Rattle.tchart.specs.declared.shown.Before.{Before}
use Rattle.tchart.specs.declared.shown.Message.{Message}
use Rattle.tchart.specs.declared.shown.Shown.{Shown}
use Rattle.tchart.specs.declared.shown.Shown.TheVariants.{Run as Ran, Sent, Taken}
use Rattle.tchart.specs.Layout.{chart_of_plot, columns_below, laid_from, laid_one, with_column}
use Rattle.tchart.specs.Plots.{PlotState, freed, goes_on, laid, lane_at, lane_over, most_lanes, opening, over, track_at}
use Rattle.tchart.specs.Shown as spec
use Rattle.tchart.specs.Waits as waits
use Rattle.tchart.specs.Unseen.{ChartIsOfTheView}
use Rattle.tchart.proofs.UnseenMessages.{take_told, told_message}

-- a machine for frames
blank : Machine
blank = script_machine (offering most_neg []) []

-- ---- before an event

first_node : (l : ℕ) (s : Option NodeState) → spec.is_first l (option_map hidden_node s) ≡ spec.is_first l s
first_node l None = refl
first_node l (Some s) = refl

due_node : (l : ℕ) (s : Option NodeState) → spec.due_in l (option_map hidden_node s) ≡ spec.due_in l s
due_node l None = refl
due_node l (Some s) = refl

sender_same : (l : ℕ) (m : Option Machine) → spec.sender l (option_map hidden m) ≡ spec.sender l m
sender_same l None = refl
sender_same l (Some m) = refl

receiver_same : (l : ℕ) (m : Option Machine) → spec.receiver l (option_map hidden m) ≡ spec.receiver l m
receiver_same l None = refl
receiver_same l (Some m) = refl

module _ (net : NetState) (n : ℕ) where
  send_same : (l : ℕ) → spec.before_send (hidden_net net) n l ≡ spec.before_send net n l
  send_same l =
      ap₂ (λ (first : Bool) (process : Option ℕ). record { is_first = first; process = process; due = None })
      (ap (spec.is_first l) (slice_get-map hidden_node net.nodes n) ∙ first_node l (slice_get net.nodes n))
      (ap (spec.sender l) (processor_same net n) ∙ sender_same l (processor_in net n))

  take_same : (l : ℕ) → spec.before_take (hidden_net net) n l ≡ spec.before_take net n l
  take_same l =
      ap₂ (λ (process : Option ℕ) (due : Option Offer). record { is_first = false; process = process; due = due })
      (ap (spec.receiver l) (processor_same net n) ∙ receiver_same l (processor_in net n))
      (ap (spec.due_in l) (slice_get-map hidden_node net.nodes n) ∙ due_node l (slice_get net.nodes n))

  before_same : (act : Act) → spec.before_act (hidden_net net) n act ≡ spec.before_act net n act
  before_same Run = refl
  before_same (Send l) = send_same l
  before_same (Data l) = refl
  before_same (Take l) = take_same l
  before_same (Ack l) = refl

before_alike : (a b : NetState) → hidden_net a ≡ hidden_net b → (e : Event) → spec.before_of a e ≡ spec.before_of b e
before_alike a b same e =
    sym (before_same a e.node e.act) ∙ ap (λ (w : NetState). spec.before_of w e) same ∙ before_same b e.node e.act

-- ---- what is waited for, and by whom

runner_same : (m : Option Machine) → spec.runner (option_map hidden m) ≡ spec.runner m
runner_same None = refl
runner_same (Some m) = refl

-- what a process waits for does not depend on the memory
module _ (process : ℕ) where
  reason_role : (m : Machine) (r : Role)
      → waits.reason_of process (processor_of r (hidden m)) ≡ waits.reason_of process (processor_of r m)
  reason_role m Processor = refl
  reason_role m (Source over rest) = refl
  reason_role m (Sink kept) = refl

  reason_node : (s : Option NodeState)
      → waits.reason_at process (option_map hidden_node s) ≡ waits.reason_at process s
  reason_node None = refl
  reason_node (Some n) =
      ap (λ (r : Option Reason). if is_some n.broken then None else r) (reason_role n.machine n.role)

  reason_alike : (a b : NetState) → hidden_net a ≡ hidden_net b → (n : ℕ)
      → waits.reason_at process (node_at a n) ≡ waits.reason_at process (node_at b n)
  reason_alike a b same n =
      sym
      (ap (waits.reason_at process) (slice_get-map hidden_node a.nodes n) ∙ reason_node (slice_get a.nodes n))
      ∙ ap (λ (w : NetState). waits.reason_at process (node_at w n)) same
      ∙ (ap (waits.reason_at process) (slice_get-map hidden_node b.nodes n) ∙ reason_node (slice_get b.nodes n))

runner_alike : (a b : NetState) → hidden_net a ≡ hidden_net b → (n : ℕ)
    → spec.runner (processor_in a n) ≡ spec.runner (processor_in b n)
runner_alike a b same n =
    sym (ap spec.runner (processor_same a n) ∙ runner_same (processor_in a n))
    ∙ ap (λ (w : NetState). spec.runner (processor_in w n)) same
    ∙ (ap spec.runner (processor_same b n) ∙ runner_same (processor_in b n))

waiter_alike : (a b : NetState) → hidden_net a ≡ hidden_net b → (n process : ℕ)
    → spec.waiter_behind a n process ≡ spec.waiter_behind b n process
waiter_alike a b same n process =
    ap₂ (λ (r : Option ℕ) (w : Option Reason). if is_some r then None else spec.waiter process w)
    (runner_alike a b same n) (reason_alike process a b same n)

-- ---- an event

-- an event that broke no rule was done
was_answered : (e : Event) (net : NetState) (x : NetAnswer) (em : Emitted) → answered x ≡ Ok em
    → after_answer e.node net x ≡ Some (net_left_by e net x)
was_answered e net (Ok (w, m)) em h = refl
was_answered e net (Err NotEnabled) em h = cc
was_answered e net (Err (Frozen broken)) em h = cc

-- nothing that was not due is complete
not_due : (from : Option End) (process : Option ℕ) (s : Option NodeState) → spec.message_in from process None s ≡ None
not_due None process s = refl
not_due (Some f) process s = refl

none_of : (far : ℕ → Option End) (s : Option NodeState) (b : Before) → b.due ≡ None → (m : Mark)
    → spec.message_of far b s m ≡ None
none_of far s b h Nothing = refl
none_of far s b h Halted = refl
none_of far s b h (Completed l) = rw h (not_due (far l) b.process s)

module _ (a b : NetState) (sound_a : IsSound a) (sound_b : IsSound b) (same : hidden_net a ≡ hidden_net b)
    (e : Event) where
  stays : hidden_net (net_behind a e) ≡ hidden_net (net_behind b e)
  stays = stays_alike blank a b sound_a sound_b same e

  told : done_of a e ≡ done_of b e
  told =
      done_alike a b e (deed_alike a b sound_a sound_b same e) (answer_alike blank a b sound_a sound_b same e)

  wires : (net_behind a e).wires ≡ (net_behind b e).wires
  wires = ap (λ (w : NetState). w.wires) stays

  far_alike : (l : ℕ) → far_ends (net_behind a e).wires e.node l ≡ far_ends (net_behind b e).wires e.node l
  far_alike l = ap (λ (ws : List Wire). far_ends ws e.node l) wires

  notes_alike : (em : Emitted) → answered (net_happens e a) ≡ Ok em → event_note a e ≡ event_note b e
  notes_alike em h =
      let run_a = step_simulation a (net_behind a e) e sound_a (was_answered e a (net_happens e a) em h) in
      let run_b = step_simulation b (net_behind b e) e sound_b
      (was_answered e b (net_happens e b) em (sym (answer_alike blank a b sound_a sound_b same e) ∙ h)) in
      let moved : IsRun (view a) (image a e) (event_note b e) (view (net_behind b e)) =
      subst (λ (v : Configuration). IsRun v (image a e) (event_note b e) (view (net_behind b e)))
      (sym (views_alike a b same))
      (subst (λ (ss : List Step). IsRun (view b) ss (event_note b e) (view (net_behind b e)))
      (sym (images_alike a b sound_a sound_b same e)) run_b) in
      (run_is_determined (view a) (view (net_behind a e)) (view (net_behind b e)) (image a e) (event_note a e)
      (event_note b e) run_a moved).0

-- the message of an event
module _ (a b : NetState) (sound_a : IsSound a) (sound_b : IsSound b) (same : hidden_net a ≡ hidden_net b)
    (n : ℕ) (em : Emitted) where
  abbrev IsAlike : Act → Type 0
  IsAlike act =
      answered (net_happens (event_at n act) a) ≡ Ok em
      → spec.message_of (far_ends (net_behind a (event_at n act)).wires n) (spec.before_act a n act)
      (node_at (net_behind a (event_at n act)) n) em.mark
      ≡ spec.message_of (far_ends (net_behind b (event_at n act)).wires n) (spec.before_act a n act)
      (node_at (net_behind b (event_at n act)) n) em.mark

  none_due : (act : Act) → (spec.before_act a n act).due ≡ None → IsAlike act
  none_due act d h =
      none_of (far_ends (net_behind a (event_at n act)).wires n) (node_at (net_behind a (event_at n act)) n)
      (spec.before_act a n act) d em.mark
      ∙ sym
      (none_of (far_ends (net_behind b (event_at n act)).wires n) (node_at (net_behind b (event_at n act)) n)
      (spec.before_act a n act) d em.mark)

  message_alike : (act : Act) → IsAlike act
  message_alike Run h = none_due Run refl h
  message_alike (Send l) h = none_due (Send l) refl h
  message_alike (Data l) h = none_due (Data l) refl h
  message_alike (Ack l) h = none_due (Ack l) refl h
  message_alike (Take l) h =
      let e = event_at n (Take l) in
      let answered_b : answered (net_happens e b) ≡ Ok em = sym (answer_alike blank a b sound_a sound_b same e) ∙ h in
      let before : spec.before_take a n l ≡ spec.before_take b n l = before_alike a b same e in
      let told_a = take_told a (net_behind a e) n l (was_answered e a (net_happens e a) em h) em h in
      let told_b = take_told b (net_behind b e) n l (was_answered e b (net_happens e b) em answered_b) em answered_b in
      told_a
      ∙ ap (told_message (spec.before_take a n l).process (spec.before_take a n l).due)
      (notes_alike a b sound_a sound_b same e em h)
      ∙ ap (λ (k : Before). told_message k.process k.due (event_note b e)) before
      ∙ sym told_b
      ∙ ap (λ (k : Before). spec.message_of (far_ends (net_behind b e).wires n) k (node_at (net_behind b e) n) em.mark)
      (sym before)

module _ (a b : NetState) (sound_a : IsSound a) (sound_b : IsSound b) (same : hidden_net a ≡ hidden_net b)
    (e : Event) where
  abbrev behind_a : NetState
  behind_a = net_behind a e

  abbrev behind_b : NetState
  behind_b = net_behind b e

  runs : spec.runner (processor_in behind_a e.node) ≡ spec.runner (processor_in behind_b e.node)
  runs = runner_alike behind_a behind_b (stays a b sound_a sound_b same e) e.node

  deed_same : (em : Emitted) → answered (net_happens e a) ≡ Ok em → (d : Deed)
      → spec.deed_shown behind_a (spec.before_of a e) e.node em.mark d
      ≡ spec.deed_shown behind_b (spec.before_of a e) e.node em.mark d
  deed_same em h (deed.Instruction process iptr fetched) =
      ap (λ (w : Option Waiter). Ran (Some process) (spec.is_halt em.mark) w)
      (waiter_alike behind_a behind_b (stays a b sound_a sound_b same e) e.node process)
  deed_same em h deed.Dispatch = ap (λ (r : Option ℕ). Ran r (spec.is_halt em.mark) None) runs
  deed_same em h (deed.Send l) =
      ap (λ (f : Option End). Sent l f (spec.before_of a e).is_first (spec.before_of a e).process)
      (far_alike a b sound_a sound_b same e l)
  deed_same em h (deed.Data l x) = refl
  deed_same em h (deed.Take l x) =
      ap₂ (λ (f : Option End) (m : Option Message). Taken l f m) (far_alike a b sound_a sound_b same e l)
      (message_alike a b sound_a sound_b same e.node em e.act h)
  deed_same em h (deed.Ack l) = refl

  shown_alike : spec.shown_of a e ≡ spec.shown_of b e
  shown_alike =
      by (answered (net_happens e a)) refl
      ∙ ap₂ (λ (k : Before) (d : Done). spec.shown_by behind_b k d) (before_alike a b same e)
      (told a b sound_a sound_b same e)
    where
      by : (x : Result Emitted StepFault) → answered (net_happens e a) ≡ x
          → spec.answer_shown behind_a (spec.before_of a e) e.node (deed_of a e) x
          ≡ spec.answer_shown behind_b (spec.before_of a e) e.node (deed_of a e) x
      by (Ok em) h = deed_same em h (deed_of a e)
      by (Err NotEnabled) h = refl
      by (Err (Frozen broken)) h = refl

-- ---- the picture

-- the pauses that are over behind an event
module _ (a b : NetState) (same : hidden_net a ≡ hidden_net b) (n k : ℕ) where
  goes_alike : (q : Option Pause) → goes_on q (node_at a n) ≡ goes_on q (node_at b n)
  goes_alike None = refl
  goes_alike (Some q) =
      ap (λ (r : Option Reason). is_some r) (reason_alike q.process a b same n)

  lane_alike : (lane : ℕ) (p : PlotState) → lane_over n k (node_at a n) lane p ≡ lane_over n k (node_at b n) lane p
  lane_alike lane p =
      ap
      (λ (g : Bool). if g then p else freed n (track_at p n).row (Some k) lane (lane_at p n lane) p)
      (goes_alike (lane_at p n lane))

  over_alike : (lane : ℕ) (p : PlotState) → over lane n k (node_at a n) p ≡ over lane n k (node_at b n) p
  over_alike zero p = refl
  over_alike (suc lane) p =
      ap (lane_over n k (node_at a n) lane) (over_alike lane p) ∙ lane_alike lane (over lane n k (node_at b n) p)

one_alike : (k : ℕ) (e : Event) (a b : NetState) (p : PlotState) → IsSound a → IsSound b
    → hidden_net a ≡ hidden_net b → laid_one k e a p ≡ laid_one k e b p
one_alike k e a b p sound_a sound_b same =
    ap
    (λ (s : Shown). over most_lanes e.node k (node_at (net_behind a e) e.node) (laid e.node k s p))
    (shown_alike a b sound_a sound_b same e)
    ∙ over_alike (net_behind a e) (net_behind b e) (stays a b sound_a sound_b same e) e.node k most_lanes
    (laid e.node k (spec.shown_of b e) p)

laid_alike : (k : ℕ) (es : List Event) (a b : NetState) (p : PlotState) → IsSound a → IsSound b
    → hidden_net a ≡ hidden_net b → laid_from k es a p ≡ laid_from k es b p
laid_alike k [] a b p sound_a sound_b same = refl
laid_alike k (e ∷ es) a b p sound_a sound_b same =
    ap (λ (p : PlotState). laid_from (suc k) es (net_behind a e) p) (one_alike k e a b p sound_a sound_b same)
    ∙ laid_alike (suc k) es (net_behind a e) (net_behind b e) (laid_one k e b p) (sound_behind a e sound_a)
    (sound_behind b e sound_b) (stays a b sound_a sound_b same e)

-- a column does not depend on the memory
column_hidden : (k : ℕ) (s : Option NodeState) (columns : List Column)
    → with_column k (option_map hidden_node s) columns ≡ with_column k s columns
column_hidden k None columns = refl
column_hidden k (Some s) columns = refl

columns_hidden : (k : ℕ) (nodes : List NodeState) → columns_below k (map hidden_node nodes) ≡ columns_below k nodes
columns_hidden zero nodes = refl
columns_hidden (suc k) nodes =
    ap₂ (λ (s : Option NodeState) (columns : List Column). with_column k s columns) (slice_get-map hidden_node nodes k)
    (columns_hidden k nodes)
    ∙ column_hidden k (slice_get nodes k) (columns_below k nodes)

pub chart_is_of_the_view : ChartIsOfTheView
chart_is_of_the_view es a b sound_a sound_b same =
    ap₂ (λ (columns : List Column) (p : PlotState). chart_of_plot columns p)
    (sym (columns_hidden most_nodes a.nodes)
    ∙ ap (λ (w : NetState). columns_below most_nodes w.nodes) same
    ∙ columns_hidden most_nodes b.nodes)
    (laid_alike 0 es a b opening sound_a sound_b same)
