-- The text of a net is the same where the buffers of pending inputs are hidden.
use Rattle.std.proofs.Common.{◌≡◌, ℕ, zero, suc, ◌+◌, ◌%◌, ◌<◌, refl, sym, ap, ap₂, ◌∙◌, List, [], ◌∷◌, ◌++◌}
use Rattle.std.proofs.Common.{length, get_or, true, Bool, Option, Some, None, Result, arith, subst, drop, take}
use Rattle.std.proofs.Common.{length-append}
use Rattle.std.specs.Prelude.{All, codes, fold, map, ◌==◌}
use Rattle.std.specs.List.{list_any, position_or_len}
use Rattle.std.specs.Prelude.{nat_le, if◌then◌else◌}
use Rattle.std.proofs.lemmas.Bool.{eq-eqb, eqb-true}
use Rattle.std.proofs.lemmas.List.{get_or_append_left, get_or-append-add, get_or-map, length-map}
use Rattle.std.proofs.lemmas.List.Elements.{All-append, All-cons, All-drop, All-map, All-nil, All-tail, All-take}
use Rattle.std.proofs.lemmas.List.Folds.{list_any_at}
use Rattle.tword.specs.declared.breaks.Break.{Break}
use Rattle.tword.specs.Claims.{AreApart, has_saved}
use Rattle.tcode.specs.declared.instruction.Instruction.{Instruction}
use Rattle.tcpu.specs.declared.registers.Registers.{Registers}
use Rattle.tproc.specs.declared.waiter.Reason.{Reason}
use Rattle.tproc.specs.declared.waiter.Reason.TheVariants.{Receives, Sends, LinkInput, LinkOutput, Chooses}
use Rattle.tproc.specs.declared.waiter.Suspended.{Suspended}
use Rattle.tproc.specs.declared.waiter.Waiter.{Waiter}
use Rattle.tproc.specs.Machine.{Machine, claims_of, descheduled, workspace_of}
use Rattle.tproc.specs.Placement.{IsClaimed}
use Rattle.tproc.specs.Hidden.{hidden}
use Rattle.tlink.specs.Roles.{Role, Processor, Source, Sink}
use Rattle.tlink.specs.Node.{NodeState}
use Rattle.tlink.specs.Whole.{IsHeld}
use Rattle.tnet.specs.Net.{NetState}
use Rattle.tnet.specs.Sound.{IsSound, IsSoundNode}
use Rattle.tfiles.specs.Logs.{line}
use Rattle.tfiles.specs.Texts.{node_line}
use Rattle.twhere.specs.Standing.{by_descriptor, descriptors, fetched_text, flag_facts, inserted, interrupted_facts}
use Rattle.twhere.specs.Standing.{links_facts, listed_of, node_where, place_text, priority_text, process_facts}
use Rattle.twhere.specs.Standing.{processor_where, queue_facts, reason_text, register_facts, role_where, running_facts}
use Rattle.twhere.specs.Standing.{waiting_facts}
use Rattle.twhere.specs.Standing.{code_text, node_stuck, saved_iptr, stuck_text, texts_from, where_text, word_text}
use Rattle.twhere.specs.Unseen.{HiddenIsUnseen, TextIsOfTheView, hidden_net, hidden_node}
use Rattle.twhere.proofs.UnseenCircles.{circles_same}
use Rattle.twhere.proofs.UnseenEvents.{quiet_same}
use Rattle.twhere.proofs.UnseenWaits.{node_stuck_same}
use Rattle.twhere.proofs.UnseenBytes.{fetched_same, iptr_same}

-- each of a list is found in it
found : (xs : List ℕ) → All (λ w. list_any (λ v. v == w) xs ≡ true) xs
found xs k d l = list_any_at (λ v. v == get_or xs k d) xs k d l (eq-eqb (get_or xs k d) (get_or xs k d) refl)

-- what holds of each of two lists, one behind the other, holds of each of either
all_left : (P : ℕ → Type 0) (xs ys : List ℕ) → All P (xs ++ ys) → All P xs
all_left P xs ys h = λ k d l. subst P (get_or_append_left xs ys d k l) (h k d (omega (arith, l, length-append xs ys)))

all_right : (P : ℕ → Type 0) (xs ys : List ℕ) → All P (xs ++ ys) → All P ys
all_right P xs ys h = λ k d l.
    subst P (get_or-append-add xs ys k d) (h (length xs + k) d (omega (arith, l, length-append xs ys)))

-- the words of the process are saved
abbrev IsSaved : Machine → ℕ → Type 0
IsSaved n process = has_saved (claims_of n.control) (workspace_of process) ≡ true

-- those of a workspace, which begins at a word
abbrev IsSavedAt : Machine → ℕ → Type 0
IsSavedAt n w = (has_saved (claims_of n.control) w ≡ true) × (w % 4 ≡ 0)

-- the same holds for each workspace of those that are queued or wait
all_saved : (n : Machine) → IsClaimed n → All (IsSavedAt n) (descheduled n.control)
all_saved n claimed k d l = (found (descheduled n.control) k d l, eqb-true _ _ (claimed.saved k d l).0)

-- with those that are queued
queued_saved : (n : Machine) (p : ℕ) (ws : List ℕ) → p < 2 → All (IsSavedAt n) ws → All (IsSaved n) (descriptors p ws)
queued_saved n p ws small h = All-map (IsSaved n) (λ w. w + p) ws (λ k d l. by (get_or ws k d) (h k d l))
  where
    by : (w : ℕ) → IsSavedAt n w → IsSaved n (w + p)
    by w at = let e : workspace_of (w + p) ≡ w = omega (arith, at.1, small) in rw e at.0

-- and with those that wait
waiting_saved : (n : Machine) (ws : List Waiter) → All (IsSavedAt n) (map (λ w. workspace_of w.process) ws)
    → All (λ w. IsSaved n w.process) ws
waiting_saved n ws h = λ k d l.
    subst (λ (v : ℕ). has_saved (claims_of n.control) v ≡ true)
    (get_or-map (λ (w : Waiter). workspace_of w.process) ws k d (workspace_of d.process) l)
    (h k (workspace_of d.process) (omega (arith, l, length-map ws (λ (w : Waiter). workspace_of w.process)))).0

-- in whatever order they are put
all_folded : (P : Waiter → Type 0) (sorted ws : List Waiter) → All P sorted → All P ws → All P (fold inserted sorted ws)
all_folded P sorted [] h all = h
all_folded P sorted (w ∷ ws) h all = all_folded P (inserted sorted w) ws put (All-tail P w ws all)
  where
    at : ℕ
    at = position_or_len (λ (v : Waiter). nat_le w.process v.process) sorted

    put : All P (inserted sorted w)
    put = All-append P (take at sorted) (w ∷ drop at sorted) (All-take P at sorted h)
        (All-cons P w (drop at sorted) (all zero w (omega arith)) (All-drop P at sorted h))

-- what a process waits for
reason_same : (net : NetState) (k : ℕ) (s : NodeState) (r : Reason)
    → reason_text (hidden_net net) k (hidden_node s) r ≡ reason_text net k s r
reason_same net k s (Receives channel buffer length) = refl
reason_same net k s (Sends channel buffer length) = refl
reason_same net k s (LinkInput l) = refl
reason_same net k s (LinkOutput l) = refl
reason_same net k s Chooses = refl

module _ (n : Machine) (claimed : IsClaimed n) (apart : AreApart (claims_of n.control)) where
  -- an address, with the instruction there
  code_same : (a : ℕ) → code_text (hidden n) a ≡ code_text n a
  code_same a =
      ap (λ (f : Result Instruction Break). word_text a ++ (codes ": " ++ fetched_text f))
      (fetched_same n claimed apart a)

  -- a process with its registers
  process_same : (name : List ℕ) (p : ℕ) (r : Registers) → process_facts name (hidden n) p r ≡ process_facts name n p r
  process_same name p r =
      ap (λ (t : List ℕ). line (name ++ (word_text (r.wptr + p) ++ priority_text p))
      ++ (line (codes "    Iptr        " ++ t) ++ (register_facts r ++ flag_facts r))) (code_same r.iptr)

  pub running_same : (current : Option ℕ) → running_facts (hidden n) current ≡ running_facts n current
  running_same (Some p) = process_same (codes "  runs          ") p n.control.registers
  running_same None = refl

  pub interrupted_same : (kept : Option Suspended) → interrupted_facts (hidden n) kept ≡ interrupted_facts n kept
  interrupted_same (Some s) = process_same (codes "  interrupted   ") 1 s.registers
  interrupted_same None = refl

  -- a process that is queued or waits
  place_same : (process : ℕ) → IsSaved n process → place_text (hidden n) process ≡ place_text n process
  place_same process h =
      ap (λ (i : ℕ). word_text process ++ (codes " Iptr " ++ code_text (hidden n) i))
      (iptr_same n claimed apart process h)
      ∙ ap (λ (t : List ℕ). word_text process ++ (codes " Iptr " ++ t)) (code_same (saved_iptr n process))

  pub queue_same : (name ps : List ℕ) → All (IsSaved n) ps → queue_facts name (hidden n) ps ≡ queue_facts name n ps
  queue_same name [] h = refl
  queue_same name (p ∷ ps) h =
      ap₂ (λ (a b : List ℕ). line (name ++ a) ++ b) (place_same p (h zero p (omega arith)))
      (queue_same name ps (All-tail (IsSaved n) p ps h))

  -- all of them
  pub queued_all : (All (IsSaved n) (descriptors 0 n.control.high)) × (All (IsSaved n) (descriptors 1 n.control.low))
      × (All (λ w. IsSaved n w.process) (by_descriptor n.control.waiting))
  queued_all =
      let all : All (IsSavedAt n) (descheduled n.control) = all_saved n claimed in
      let queued : All (IsSavedAt n) (n.control.high ++ n.control.low) =
      all_left (IsSavedAt n) (n.control.high ++ n.control.low)
      (map (λ (w : Waiter). workspace_of w.process) n.control.waiting) all in (
        queued_saved n 0 n.control.high (omega arith)
            (all_left (IsSavedAt n) n.control.high n.control.low queued),
        queued_saved n 1 n.control.low (omega arith)
            (all_right (IsSavedAt n) n.control.high n.control.low queued),
        all_folded (λ w. IsSaved n w.process) [] n.control.waiting (All-nil (λ w. IsSaved n w.process))
            (waiting_saved n n.control.waiting
            (all_right (IsSavedAt n) (n.control.high ++ n.control.low)
            (map (λ (w : Waiter). workspace_of w.process) n.control.waiting) all)),
      )

-- those that wait
waiting_same : (net : NetState) (k : ℕ) (s : NodeState) → IsClaimed s.machine → AreApart (claims_of s.machine.control)
    → (ws : List Waiter) → All (λ w. IsSaved s.machine w.process) ws
    → waiting_facts (hidden_net net) k (hidden_node s) ws ≡ waiting_facts net k s ws
waiting_same net k s claimed apart [] h = refl
waiting_same net k s claimed apart (w ∷ ws) h =
    ap₂ (λ (a b : List ℕ). a ++ b)
    (ap₂ (λ (a b : List ℕ). line (codes "  waits         " ++ (a ++ (codes ", " ++ b))))
    (place_same s.machine claimed apart w.process (h zero w (omega arith))) (reason_same net k s w.reason))
    (waiting_same net k s claimed apart ws (All-tail (λ w. IsSaved s.machine w.process) w ws h))

-- a processor
processor_same : (net : NetState) (k : ℕ) (s : NodeState) → IsClaimed s.machine
    → AreApart (claims_of s.machine.control)
    → processor_where (hidden_net net) k (hidden_node s) (listed_of s.machine.control)
    ≡ processor_where net k s (listed_of s.machine.control)
processor_same net k s claimed apart =
    let all = queued_all s.machine claimed apart in
    let join : List ℕ → List ℕ → List ℕ = λ a b. a ++ b in
    ap (λ (t : List ℕ). node_line k s.broken s.machine.control.halted ++ t)
    (ap₂ join (running_same s.machine claimed apart s.machine.control.current)
    (ap₂ join (interrupted_same s.machine claimed apart s.machine.control.interrupted)
    (ap₂ join
    (queue_same s.machine claimed apart (codes "  high queue    ") (descriptors 0 s.machine.control.high) all.0)
    (ap₂ join
    (queue_same s.machine claimed apart (codes "  low queue     ") (descriptors 1 s.machine.control.low) all.1)
    (waiting_same net k s claimed apart (by_descriptor s.machine.control.waiting) all.2)))))

-- of a source and a sink no byte is told
role_same : (role : Role) (net : NetState) (k : ℕ) (s : NodeState) → IsHeld role s.machine
    → role_where role (hidden_net net) k (hidden_node s) (listed_of s.machine.control)
    ≡ role_where role net k s (listed_of s.machine.control)
role_same Processor net k s h = processor_same net k s h.0 h.1
role_same (Source done rest) net k s h = refl
role_same (Sink kept) net k s h = refl

-- a node
node_same : (net : NetState) (k : ℕ) (s : NodeState) → IsSoundNode s
    → node_where (hidden_net net) k (hidden_node s) ≡ node_where net k s
node_same net k s sound =
    ap (λ (t : List ℕ). t ++ links_facts net k s) (role_same s.role net k s sound.whole.held)

-- the texts of nodes, each of which is the same
texts_same : (f g : ℕ → NodeState → List ℕ)
    → ((k : ℕ) (s : NodeState) → IsSoundNode s → f k (hidden_node s) ≡ g k s)
    → (k : ℕ) (nodes : List NodeState) → All IsSoundNode nodes
    → texts_from f k (map hidden_node nodes) ≡ texts_from g k nodes
texts_same f g same k [] h = refl
texts_same f g same k (s ∷ nodes) h =
    ap₂ (λ (a b : List ℕ). a ++ b) (same k s (h zero s (omega arith)))
    (texts_same f g same (suc k) nodes (All-tail IsSoundNode s nodes h))

-- those that wait at links, and the circles
stuck_same : (net : NetState) → IsSound net → stuck_text (hidden_net net) ≡ stuck_text net
stuck_same net sound =
    ap₂ (λ (b : Bool) (t : List ℕ). if b then t else []) (quiet_same net sound)
    (ap₂ (λ (a b : List ℕ). a ++ b)
    (texts_same (node_stuck (hidden_net net)) (node_stuck net) (λ k s h. node_stuck_same net k s) 0 net.nodes
    sound.nodes) (circles_same net))

-- a net
pub hidden_is_unseen : HiddenIsUnseen
hidden_is_unseen net sound =
    ap₂ (λ (a b : List ℕ). a ++ b)
    (texts_same (node_where (hidden_net net)) (node_where net) (node_same net) 0 net.nodes sound.nodes)
    (stuck_same net sound)

pub text_is_of_the_view : TextIsOfTheView
text_is_of_the_view a b sound_a sound_b same =
    sym (hidden_is_unseen a sound_a) ∙ ap where_text same ∙ hidden_is_unseen b sound_b
