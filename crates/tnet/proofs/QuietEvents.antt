-- The test of all events of a net's nodes finds just the quiet nets: nothing happens at a node that is not there, nor
-- at a link from the fourth on.
use Rattle.std.proofs.Common.{◌≡◌, ℕ, zero, suc, ◌+◌, ◌<◌, ◌≤◌, refl, ap, List, [], ◌∷◌, length, get_or, Bool, true}
use Rattle.std.proofs.Common.{false, not, Err, Option, Some, None, ◌⊎◌, inl, inr, ⊎_elim, All, arith}
use Rattle.std.specs.List.{list_all}
use Rattle.std.proofs.lemmas.Bool.{and_parts, and_from, not-true, cases_lt, cases_eq}
use Rattle.std.proofs.lemmas.List.Elements.{All-nil, All-cons}
use Rattle.std.proofs.lemmas.Option.{slice_get_within}
use Rattle.tword.specs.declared.breaks.Break.{Break}
use Rattle.tproc.specs.declared.waiter.LinkEnd.{LinkEnd}
use Rattle.tlink.specs.declared.event.NodeEvent.{NodeEvent}
use Rattle.tlink.specs.declared.event.StepFault.TheVariants.{NotEnabled}
use Rattle.tlink.specs.Node.{NodeState}
use Rattle.tlink.specs.declared.counts.Counts.{Counts}
use Rattle.tlink.specs.Events.{happens, unless_frozen}
use Rattle.tplan.specs.declared.event.Act.{Act}
use Rattle.tplan.specs.declared.event.Act.TheVariants.{Run, Send, Data, Take, Ack}
use Rattle.tplan.specs.declared.event.Event.{Event}
use Rattle.tnet.specs.Net.{NetState, node_at}
use Rattle.tnet.specs.declared.inbox.Inbox.{Inbox}
use Rattle.tnet.specs.Packets.{node_event, net_answer, answer_of, net_happens, is_done, is_enabled, IsQuiet}
use Rattle.tnet.specs.Sound.{IsSound}
use Rattle.tnet.specs.Quiet.{node_events, is_quiet_from, is_quiet, QuietAgrees}
use Rattle.tnet.proofs.SoundNodes.{no_link, nothing_counted, nothing_lies}

all_pass : {X : Type 0} (f : X → Bool) (xs : List X) → list_all f xs ≡ true → All (λ x. f x ≡ true) xs
all_pass f [] h = All-nil (λ x. f x ≡ true)
all_pass f (x ∷ xs) h =
    All-cons (λ x. f x ≡ true) x xs (and_parts _ _ h).0 (all_pass f xs (and_parts (f x) (list_all f xs) h).1)

passes_all : {X : Type 0} (f : X → Bool) (xs : List X) → ((x : X) → f x ≡ true) → list_all f xs ≡ true
passes_all f [] h = refl
passes_all f (x ∷ xs) h = and_from _ _ (h x) (passes_all f xs h)

unfoldable pub event_at : ℕ → Act → Event
event_at n act = record { node = n; act = act }

-- nothing happens where no packet lies or no node is
no_packet : (n : ℕ) (act : Act) (net : NetState) (o : Option NodeState) → is_done (answer_of n act net None o) ≡ false
no_packet n act net None = refl
no_packet n act net (Some node) = refl

no_node : (n : ℕ) (act : Act) (net : NetState) (e : Option NodeEvent) → is_done (answer_of n act net e None) ≡ false
no_node n act net None = refl
no_node n act net (Some e) = refl

pub not_there : (net : NetState) (e : Event) → node_at net e.node ≡ None → is_enabled net e ≡ false
unfolding net_happens
not_there net e h = rw h (no_node e.node e.act net (node_event net e.node e.act))

-- a node that refuses an event, frozen or not
refuses : (n : ℕ) (act : Act) (net : NetState) (b : Option Break)
    → is_done (net_answer n act net (unless_frozen b (Err NotEnabled))) ≡ false
refuses n act net None = refl
refuses n act net (Some b) = refl

module _ (net : NetState) (n l : ℕ) (node : NodeState) (sound : IsSound net) (there : node_at net n ≡ Some node)
    (past : 4 ≤ l) where
  pub no_send : is_enabled net (event_at n (Send l)) ≡ false
  unfolding net_happens happens event_at
  no_send = rw (there, ap (λ (e : LinkEnd). e.output) (no_link net n l node sound there past))
      (refuses n (Send l) net node.broken)

  pub no_take : is_enabled net (event_at n (Take l)) ≡ false
  unfolding net_happens happens event_at
  no_take = rw (there, ap (λ (c : Counts). c.arrived) (nothing_counted net n l node sound there past))
      (refuses n (Take l) net node.broken)

  pub no_data : is_enabled net (event_at n (Data l)) ≡ false
  unfolding net_happens event_at
  no_data = rw (ap (λ (i : Inbox). i.carried) (nothing_lies net n l node sound there past))
      (no_packet n (Data l) net (node_at net n))

  pub no_ack : is_enabled net (event_at n (Ack l)) ≡ false
  unfolding net_happens event_at
  no_ack = rw (ap (λ (i : Inbox). i.acknowledged) (nothing_lies net n l node sound there past))
      (no_packet n (Ack l) net (node_at net n))

-- one of the four links
four : (P : ℕ → Type 0) → P 0 → P 1 → P 2 → P 3 → (l : ℕ) → l < 4 → P l
four P a b c d zero h = a
four P a b c d (suc zero) h = b
four P a b c d (suc (suc zero)) h = c
four P a b c d (suc (suc (suc zero))) h = d
four P a b c d (suc (suc (suc (suc l)))) h = absurd (omega arith)

-- the events of a node that were tested
module _ (net : NetState) (n : ℕ) (h : list_all (λ e. not (is_enabled net e)) (node_events n) ≡ true) where
  at : All (λ e. not (is_enabled net e) ≡ true) (node_events n)
  at = all_pass (λ e. not (is_enabled net e)) (node_events n) h

  tested : (k : ℕ) → k < 17 → is_enabled net (get_or (node_events n) k (event_at n Run)) ≡ false
  tested k b = not-true _ (at k (event_at n Run) b)

  refused_run : is_enabled net (event_at n Run) ≡ false
  unfolding event_at
  refused_run = tested 0 (omega arith)

  refused_send : (l : ℕ) → l < 4 → is_enabled net (event_at n (Send l)) ≡ false
  unfolding event_at
  refused_send =
      four (λ l. is_enabled net (event_at n (Send l)) ≡ false) (tested 1 (omega arith)) (tested 5 (omega arith))
      (tested 9 (omega arith)) (tested 13 (omega arith))

  refused_data : (l : ℕ) → l < 4 → is_enabled net (event_at n (Data l)) ≡ false
  unfolding event_at
  refused_data =
      four (λ l. is_enabled net (event_at n (Data l)) ≡ false) (tested 2 (omega arith)) (tested 6 (omega arith))
      (tested 10 (omega arith)) (tested 14 (omega arith))

  refused_take : (l : ℕ) → l < 4 → is_enabled net (event_at n (Take l)) ≡ false
  unfolding event_at
  refused_take =
      four (λ l. is_enabled net (event_at n (Take l)) ≡ false) (tested 3 (omega arith)) (tested 7 (omega arith))
      (tested 11 (omega arith)) (tested 15 (omega arith))

  refused_ack : (l : ℕ) → l < 4 → is_enabled net (event_at n (Ack l)) ≡ false
  unfolding event_at
  refused_ack = four (λ l. is_enabled net (event_at n (Ack l)) ≡ false) (tested 4 (omega arith))
      (tested 8 (omega arith)) (tested 12 (omega arith)) (tested 16 (omega arith))

  -- so no event of the node is enabled
  none_of_node : (node : NodeState) → IsSound net → node_at net n ≡ Some node → (act : Act)
      → is_enabled net (event_at n act) ≡ false
  none_of_node node sound there Run = refused_run
  none_of_node node sound there (Send l) = ⊎_elim (refused_send l) (no_send net n l node sound there) (cases_lt l 4)
  none_of_node node sound there (Data l) = ⊎_elim (refused_data l) (no_data net n l node sound there) (cases_lt l 4)
  none_of_node node sound there (Take l) = ⊎_elim (refused_take l) (no_take net n l node sound there) (cases_lt l 4)
  none_of_node node sound there (Ack l) = ⊎_elim (refused_ack l) (no_ack net n l node sound there) (cases_lt l 4)

-- each node was tested
node_tested : (net : NetState) (n k m : ℕ) → is_quiet_from net n k ≡ true → n ≤ m → m < n + k
    → list_all (λ e. not (is_enabled net e)) (node_events m) ≡ true
node_tested net n zero m h a b = absurd (omega arith)
node_tested net n (suc k) m h a b = by (cases_eq m n) (node_tested net (suc n) k m both.1)
  where
    both : (list_all (λ e. not (is_enabled net e)) (node_events n) ≡ true) × (is_quiet_from net (suc n) k ≡ true)
    both = and_parts (list_all (λ e. not (is_enabled net e)) (node_events n)) (is_quiet_from net (suc n) k) h

    by : (m ≡ n) ⊎ (m ≡ n → ⊥)
        → (suc n ≤ m → m < suc n + k → list_all (λ e. not (is_enabled net e)) (node_events m) ≡ true)
        → list_all (λ e. not (is_enabled net e)) (node_events m) ≡ true
    by (inl e) rest = rw e both.0
    by (inr e) rest = rest (omega arith) (omega arith)

quiet_by : (net : NetState) (e : Event) (o : Option NodeState) → IsSound net → is_quiet net ≡ true
    → node_at net e.node ≡ o → is_enabled net e ≡ false
unfolding event_at
quiet_by net e None sound h there = not_there net e there
quiet_by net e (Some node) sound h there =
    let within : e.node < length net.nodes = slice_get_within net.nodes e.node node there in
    none_of_node net e.node (node_tested net 0 (length net.nodes) e.node h (omega arith) (omega arith)) node sound there
    e.act

-- and where no event is enabled, each test passes
passes_from : (net : NetState) (n k : ℕ) → IsQuiet net → is_quiet_from net n k ≡ true
passes_from net n zero h = refl
passes_from net n (suc k) h =
    and_from _ _ (passes_all (λ e. not (is_enabled net e)) (node_events n) (λ e. rw (h e) refl))
    (passes_from net (suc n) k h)

-- the test finds a net quiet just where it is
pub quiet_agrees : QuietAgrees
quiet_agrees net sound =
    ((λ h e. quiet_by net e (node_at net e.node) sound h refl), passes_from net 0 (length net.nodes))
