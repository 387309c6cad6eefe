-- What a net answers, and the net behind an event except for hidden bytes, do not depend on hidden bytes.
use Rattle.std.proofs.Common.{◌≡◌, ℕ, ◌+◌, refl, sym, ap, ap₂, ◌∙◌, subst, List, [], ◌∷◌, length, Bool, true, false}
use Rattle.std.proofs.Common.{Option, Some, None, Result, Ok, Err, ◌⊎◌, inl, inr, arith}
use Rattle.std.specs.Prelude.{map, option_map, slice_get, zip}
use Rattle.std.proofs.lemmas.List.{map-set}
use Rattle.std.proofs.lemmas.Option.{slice_get-map}
use Rattle.tword.specs.declared.breaks.Break.{Break}
use Rattle.tproc.specs.declared.ran.Ran.{Ran}
use Rattle.tproc.specs.Machine.{Machine}
use Rattle.tproc.specs.Hidden.{hidden, hidden_step}
use Rattle.tproc.specs.Steps.{step}
use Rattle.tlink.specs.declared.event.Emitted.{Emitted}
use Rattle.tlink.specs.declared.event.NodeEvent.{NodeEvent}
use Rattle.tlink.specs.declared.event.Packet.{Packet}
use Rattle.tlink.specs.declared.event.StepFault.{StepFault}
use Rattle.tlink.specs.declared.event.StepFault.TheVariants.{NotEnabled, Frozen}
use Rattle.tlink.specs.Node.{NodeState, counts_at, frozen, output_at}
use Rattle.tlink.specs.Events.{Answer, happens, node_answered}
use Rattle.tplan.specs.declared.event.Act.{Act}
use Rattle.tplan.specs.declared.event.Act.TheVariants.{Run, Send, Data, Take, Ack}
use Rattle.tplan.specs.declared.event.Event.{Event}
use Rattle.tplan.specs.declared.plan.End.{End}
use Rattle.tnet.specs.declared.inbox.Inbox.{Inbox}
use Rattle.tnet.specs.Net.{NetState, node_at, with_node}
use Rattle.tnet.specs.Notes.{event_note}
use Rattle.tnet.specs.Packets.{NetAnswer, after_answer, after_event, answer_of, answered, delivered}
use Rattle.tnet.specs.Packets.{net_answer, net_happens, net_left_by, node_event, received, sent_off, with_frozen}
use Rattle.tnet.specs.Rendezvous.{Configuration, IsRun, Node, Step}
use Rattle.tnet.specs.Sound.{IsSound}
use Rattle.tnet.specs.View.{image, image_at, is_copied, link_copied, run_image, view, view_node}
use Rattle.tplan.specs.Wires.{end_at, far_end}
use Rattle.tnet.proofs.BlindRoles.{step-blind}
use Rattle.tnet.proofs.Determined.{run_is_determined}
use Rattle.tnet.proofs.SeenEvents.{step_simulation}
use Rattle.tnet.proofs.SoundEvents.{stays_sound}
use Rattle.tnet.proofs.SoundNodes.{node_sound}
use Rattle.twhere.specs.Unseen.{hidden_net, hidden_node}
use Rattle.thistory.specs.Deeds.{net_behind}
use Rattle.thistory.proofs.UnseenAnswers.{frame, framed, happens_same}

-- ---- what the links count, and what lies at the wires

module _ (blank : Machine) where
  -- a net with the frames of its nodes
  abbrev frame_net : NetState → NetState
  frame_net net = record net { nodes = map (frame blank) net.nodes }

  -- the net that an answer leaves, by the frames of its nodes
  abbrev frame_left : ℕ → Act → NetState → Option NodeState → Answer → NetState
  frame_left n act net there (Ok (s, e)) = sent_off n e.packet (with_node n s (received n act net))
  frame_left n act net there (Err NotEnabled) = net
  frame_left n act net None (Err (Frozen b)) = net
  frame_left n act net (Some s) (Err (Frozen b)) = with_node n s net

  frame_delivered : (p : Packet) (e : Option End) (net : NetState)
      → frame_net (delivered p e net) ≡ delivered p e (frame_net net)
  frame_delivered p None net = refl
  frame_delivered p (Some e) net = refl

  frame_sent : (n : ℕ) (p : Option (ℕ × Packet)) (net : NetState)
      → frame_net (sent_off n p net) ≡ sent_off n p (frame_net net)
  frame_sent n None net = refl
  frame_sent n (Some (l, p)) net = frame_delivered p (far_end net.wires (end_at n l)) net

  frame_received : (n : ℕ) (act : Act) (net : NetState)
      → frame_net (received n act net) ≡ received n act (frame_net net)
  frame_received n Run net = refl
  frame_received n (Send l) net = refl
  frame_received n (Data l) net = refl
  frame_received n (Take l) net = refl
  frame_received n (Ack l) net = refl

  frame_with : (n : ℕ) (s : NodeState) (net : NetState)
      → frame_net (with_node n s net) ≡ with_node n (frame blank s) (frame_net net)
  frame_with n s net = ap (λ (ns : List NodeState). record net { nodes = ns }) (map-set (frame blank) net.nodes n s)

  frame_of_left : (n : ℕ) (act : Act) (net : NetState) (node : Option NodeState) (x : Answer) → node_at net n ≡ node
      → frame_net (net_left_by (record { node = n; act = act }) net (net_answer n act net x))
      ≡ frame_left n act (frame_net net) (option_map (frame blank) node) (framed blank x)
  frame_of_left n act net there (Ok (s, e)) h =
      frame_sent n e.packet (with_node n s (received n act net))
      ∙ ap (λ (w : NetState). sent_off n e.packet w)
      (frame_with n s (received n act net)
      ∙ ap (λ (w : NetState). with_node n (frame blank s) w) (frame_received n act net))
  frame_of_left n act net there (Err NotEnabled) h = refl
  frame_of_left n act net None (Err (Frozen b)) h =
      ap (λ (o : Option NodeState). frame_net (with_frozen n b o net)) h
  frame_of_left n act net (Some s) (Err (Frozen b)) h =
      ap (λ (o : Option NodeState). frame_net (with_frozen n b o net)) h ∙ frame_with n (frozen b s) net

  -- hidden bytes are not in a frame
  frames_same : (nodes : List NodeState) → map (frame blank) (map hidden_node nodes) ≡ map (frame blank) nodes
  frames_same [] = refl
  frames_same (n ∷ ns) = ap (λ (fs : List NodeState). frame blank n ∷ fs) (frames_same ns)

  frame_hidden : (net : NetState) → frame_net (hidden_net net) ≡ frame_net net
  frame_hidden net = ap (λ (ns : List NodeState). record net { nodes = ns }) (frames_same net.nodes)

  -- what the caller is told
  answered_by : (n : ℕ) (act : Act) (net : NetState) (x : Answer)
      → answered (net_answer n act net x) ≡ node_answered (framed blank x)
  answered_by n act net (Ok (s, e)) = refl
  answered_by n act net (Err f) = refl

  module _ (net : NetState) (sound : IsSound net) (n : ℕ) (act : Act) where
    abbrev at : Event
    at = record { node = n; act = act }

    -- the answers of the net and of the net with hidden bytes, by node and event
    told_by : (e : Option NodeEvent) (s : Option NodeState) → slice_get net.nodes n ≡ s
        → answered (answer_of n act (hidden_net net) e (option_map hidden_node s)) ≡ answered (answer_of n act net e s)
    told_by None None h = refl
    told_by None (Some s) h = refl
    told_by (Some e) None h = refl
    told_by (Some e) (Some s) h =
        answered_by n act (hidden_net net) (happens e (hidden_node s))
        ∙ ap node_answered (happens_same blank s (node_sound net n s sound h).whole.held e)
        ∙ sym (answered_by n act net (happens e s))

    pub told_same : answered (net_happens at (hidden_net net)) ≡ answered (net_happens at net)
    unfolding net_happens
    told_same =
        ap (λ (s : Option NodeState). answered (answer_of n act (hidden_net net) (node_event net n act) s))
        (slice_get-map hidden_node net.nodes n)
        ∙ told_by (node_event net n act) (slice_get net.nodes n) refl

    left_by : (e : Option NodeEvent) (s : Option NodeState) → slice_get net.nodes n ≡ s
        → frame_net (net_left_by at (hidden_net net) (answer_of n act (hidden_net net) e (option_map hidden_node s)))
        ≡ frame_net (net_left_by at net (answer_of n act net e s))
    left_by None None h = frame_hidden net
    left_by None (Some s) h = frame_hidden net
    left_by (Some e) None h = frame_hidden net
    left_by (Some e) (Some s) h =
        frame_of_left n act (hidden_net net) (Some (hidden_node s)) (happens e (hidden_node s))
        (slice_get-map hidden_node net.nodes n ∙ ap (option_map hidden_node) h)
        ∙ ap₂ (λ (w : NetState) (x : Answer). frame_left n act w (Some (frame blank s)) x) (frame_hidden net)
        (happens_same blank s (node_sound net n s sound h).whole.held e)
        ∙ sym (frame_of_left n act net (Some s) (happens e s) h)

    left_same : frame_net (net_behind (hidden_net net) at) ≡ frame_net (net_behind net at)
    unfolding net_happens
    left_same =
        ap (λ (s : Option NodeState). frame_net (net_left_by at (hidden_net net)
        (answer_of n act (hidden_net net) (node_event net n act) s))) (slice_get-map hidden_node net.nodes n)
        ∙ left_by (node_event net n act) (slice_get net.nodes n) refl

  -- nets that agree except for hidden bytes leave nets with the same frames
  frames_alike : (a b : NetState) → IsSound a → IsSound b → hidden_net a ≡ hidden_net b → (e : Event)
      → frame_net (net_behind a e) ≡ frame_net (net_behind b e)
  frames_alike a b sound_a sound_b same e =
      sym (left_same a sound_a e.node e.act)
      ∙ ap (λ (w : NetState). frame_net (net_behind w e)) same
      ∙ left_same b sound_b e.node e.act

-- ---- what the rendezvous machine sees

-- the output of each link was copied, or not
copied_same : (s : NodeState) (l : ℕ) (boxes : List Inbox) → link_copied (hidden_node s) l boxes ≡ link_copied s l boxes
copied_same s l [] = refl
copied_same s l (i ∷ is) =
    ap (λ (bs : List Bool). is_copied (output_at s l) (counts_at s l) i ∷ bs) (copied_same s (l + 1) is)

-- a node as it is seen, where its bytes are hidden already
abbrev bare_node : NodeState × List Inbox → Node
bare_node (n, boxes) =
    record { role = n.role; machine = n.machine; copied = link_copied n 0 boxes; broken = n.broken }

views_same : (nodes : List NodeState) (boxes : List (List Inbox))
    → map view_node (zip nodes boxes) ≡ map bare_node (zip (map hidden_node nodes) boxes)
views_same [] boxes = refl
views_same (n ∷ ns) [] = refl
views_same (n ∷ ns) (i ∷ is) =
    ap₂ (λ (c : List Bool) (rest : List Node).
    record { role = n.role; machine = hidden n.machine; copied = c; broken = n.broken } ∷ rest)
    (sym (copied_same n 0 i)) (views_same ns is)

abbrev bare : NetState → Configuration
bare net = record { nodes = map bare_node (zip net.nodes net.inboxes); wires = net.wires }

view_hidden : (net : NetState) → view net ≡ bare (hidden_net net)
view_hidden net =
    ap (λ (ns : List Node). record { nodes = ns; wires = net.wires }) (views_same net.nodes net.inboxes)

pub views_alike : (a b : NetState) → hidden_net a ≡ hidden_net b → view a ≡ view b
views_alike a b same = view_hidden a ∙ ap bare same ∙ sym (view_hidden b)

-- which step an event is
run_image-hidden : (n : ℕ) (x : Result (Machine × Ran) Break) → run_image n (hidden_step x) ≡ run_image n x
run_image-hidden n (Ok x) = refl
run_image-hidden n (Err b) = refl

module _ (net : NetState) (sound : IsSound net) where
  image_by : (n : ℕ) (act : Act) (s : Option NodeState) → slice_get net.nodes n ≡ s
      → image_at (hidden_net net) n act (option_map hidden_node s) ≡ image_at net n act s
  image_by n act None h = refl
  image_by n Run (Some s) h =
      sym (run_image-hidden n (step (hidden s.machine)))
      ∙ ap (run_image n) (step-blind s.role s.machine (node_sound net n s sound h).whole.held)
      ∙ run_image-hidden n (step s.machine)
  image_by n (Send l) (Some s) h = refl
  image_by n (Data l) (Some s) h = refl
  image_by n (Take l) (Some s) h = refl
  image_by n (Ack l) (Some s) h = refl

  image_same : (e : Event) → image (hidden_net net) e ≡ image net e
  image_same e =
      ap (λ (s : Option NodeState). image_at (hidden_net net) e.node e.act s)
      (slice_get-map hidden_node net.nodes e.node)
      ∙ image_by e.node e.act (slice_get net.nodes e.node) refl

pub images_alike : (a b : NetState) → IsSound a → IsSound b → hidden_net a ≡ hidden_net b → (e : Event)
    → image a e ≡ image b e
images_alike a b sound_a sound_b same e =
    sym (image_same a sound_a e) ∙ ap (λ (w : NetState). image w e) same ∙ image_same b sound_b e

-- ---- an event

-- an event that is not enabled
abbrev is_refused : Result Emitted StepFault → Bool
is_refused (Ok e) = false
is_refused (Err NotEnabled) = true
is_refused (Err (Frozen b)) = false

-- it is done, or it changes nothing
done_or_not : (net : NetState) (e : Event) (x : NetAnswer)
    → ((is_refused (answered x) ≡ false) × (after_answer e.node net x ≡ Some (net_left_by e net x)))
    ⊎ ((is_refused (answered x) ≡ true) × (net_left_by e net x ≡ net))
done_or_not net e (Ok (w, em)) = inl (refl, refl)
done_or_not net e (Err NotEnabled) = inr (refl, refl)
done_or_not net e (Err (Frozen b)) = inl (refl, refl)

-- so the net behind it is sound
pub sound_behind : (net : NetState) (e : Event) → IsSound net → IsSound (net_behind net e)
sound_behind net e sound = by (done_or_not net e (net_happens e net))
  where
    by : ((is_refused (answered (net_happens e net)) ≡ false) × (after_event net e ≡ Some (net_behind net e)))
        ⊎ ((is_refused (answered (net_happens e net)) ≡ true) × (net_behind net e ≡ net))
        → IsSound (net_behind net e)
    by (inl d) = stays_sound net (net_behind net e) e sound d.1
    by (inr d) = subst IsSound (sym d.1) sound

-- a net except for hidden bytes, by its frame and by what is seen of it
abbrev joined_node : Node × NodeState → NodeState
joined_node (v, f) = record f { role = v.role; machine = v.machine; broken = v.broken }

abbrev joined : Configuration → NetState → NetState
joined v f = record f { nodes = map joined_node (zip v.nodes f.nodes) }

joined_nodes : (blank : Machine) (nodes : List NodeState) (boxes : List (List Inbox)) → length boxes ≡ length nodes
    → map joined_node (zip (map view_node (zip nodes boxes)) (map (frame blank) nodes)) ≡ map hidden_node nodes
joined_nodes blank [] boxes h = refl
joined_nodes blank (n ∷ ns) [] h = absurd (omega (arith, h))
joined_nodes blank (n ∷ ns) (i ∷ is) h =
    ap (λ (rest : List NodeState). hidden_node n ∷ rest) (joined_nodes blank ns is (omega (arith, h)))

joined_net : (blank : Machine) (net : NetState) → IsSound net → joined (view net) (frame_net blank net) ≡ hidden_net net
joined_net blank net sound =
    ap (λ (ns : List NodeState). record net { nodes = ns }) (joined_nodes blank net.nodes net.inboxes sound.boxes)

module _ (blank : Machine) (a b : NetState) (sound_a : IsSound a) (sound_b : IsSound b)
    (same : hidden_net a ≡ hidden_net b) (e : Event) where
  -- both answer the same
  pub answer_alike : answered (net_happens e a) ≡ answered (net_happens e b)
  answer_alike =
      sym (told_same blank a sound_a e.node e.act)
      ∙ ap (λ (w : NetState). answered (net_happens e w)) same
      ∙ told_same blank b sound_b e.node e.act

  views_behind : view (net_behind a e) ≡ view (net_behind b e)
  views_behind = by (done_or_not a e (net_happens e a)) (done_or_not b e (net_happens e b))
    where
      by : ((is_refused (answered (net_happens e a)) ≡ false) × (after_event a e ≡ Some (net_behind a e)))
          ⊎ ((is_refused (answered (net_happens e a)) ≡ true) × (net_behind a e ≡ a))
          → ((is_refused (answered (net_happens e b)) ≡ false) × (after_event b e ≡ Some (net_behind b e)))
          ⊎ ((is_refused (answered (net_happens e b)) ≡ true) × (net_behind b e ≡ b))
          → view (net_behind a e) ≡ view (net_behind b e)
      by (inl d) (inl f) =
          let run_a = step_simulation a (net_behind a e) e sound_a d.1 in
          let run_b = step_simulation b (net_behind b e) e sound_b f.1 in
          let moved : IsRun (view a) (image a e) (event_note b e) (view (net_behind b e)) =
          subst (λ (v : Configuration). IsRun v (image a e) (event_note b e) (view (net_behind b e)))
          (sym (views_alike a b same))
          (subst (λ (ss : List Step). IsRun (view b) ss (event_note b e) (view (net_behind b e)))
          (sym (images_alike a b sound_a sound_b same e)) run_b) in
          (run_is_determined (view a) (view (net_behind a e)) (view (net_behind b e)) (image a e) (event_note a e)
          (event_note b e) run_a moved).1
      by (inr d) (inr f) = ap view d.1 ∙ views_alike a b same ∙ sym (ap view f.1)
      by (inl d) (inr f) =
          let wrong : false ≡ true = sym d.0 ∙ ap is_refused answer_alike ∙ f.0 in cc
      by (inr d) (inl f) =
          let wrong : true ≡ false = sym d.0 ∙ ap is_refused answer_alike ∙ f.0 in cc

  -- and the nets behind the event agree except for hidden bytes
  pub stays_alike : hidden_net (net_behind a e) ≡ hidden_net (net_behind b e)
  stays_alike =
      sym (joined_net blank (net_behind a e) (sound_behind a e sound_a))
      ∙ ap₂ (λ (v : Configuration) (f : NetState). joined v f) views_behind
      (frames_alike blank a b sound_a sound_b same e)
      ∙ joined_net blank (net_behind b e) (sound_behind b e sound_b)
