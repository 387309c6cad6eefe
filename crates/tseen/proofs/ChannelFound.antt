-- Whom the current process of a node finds in the word of a channel that it has enabled, or enables.
use Rattle.tproc.specs.ProcessStatus.{interrupted_process}
use Rattle.std.proofs.Common.{option_map}
use Rattle.std.proofs.Common.{◌≡◌, ℕ, zero, suc, ◌+◌, ◌%◌, ◌<◌, ◌≤◌, refl, sym, ap, subst, ◌∙◌, Bool, true}
use Rattle.std.proofs.Common.{false, true≢false, length, arith, Contains, Option, Some, None}
use Rattle.std.specs.Prelude.{is_some, if◌then◌else◌}
use Rattle.std.proofs.lemmas.Bool.{eqb-true, eq-eqb}
use Rattle.std.proofs.lemmas.List.Elements.{All-contains}
use Rattle.tword.specs.Words.{most_neg, word_below}
use Rattle.tword.specs.Stores.{Store}
use Rattle.treduction.specs.Plain.{rank}
use Rattle.tproc.specs.declared.channels.Side.TheVariants.{Output}
use Rattle.tproc.specs.declared.process_status.ProcessStatus.{ProcessStatus}
use Rattle.tproc.specs.declared.process_status.ProcessStatus.TheVariants as found
use Rattle.tproc.specs.declared.waiter.Reason.{Reason}
use Rattle.tproc.specs.declared.waiter.Reason.TheVariants.{Sends}
use Rattle.tproc.specs.Machine.{Control, workspace_of, descheduled}
use Rattle.tproc.specs.Placement.{IsWorkspace, IsWord}
use Rattle.tproc.specs.ProcessStatus.{status, status_by, not_waiting, reason_of, is_queued, is_that, current_process}
use Rattle.tproc.specs.Queues.{not_process}
use Rattle.tproc.proofs.WordsApart.{LiesWord}
use Rattle.tplan.specs.declared.plan.Plan.{Plan}
use Rattle.tnet.specs.Rendezvous.{Configuration}
use Rattle.tprocesses.specs.Places.{Name}
use Rattle.tprocesses.specs.Values.{Choice, Request}
use Rattle.tseen.specs.Halves.{IsTakenHalf}
use Rattle.tseen.specs.Words.{AreSavedWords, is_set_aside}
use Rattle.tseen.specs.Shown.{ShowsNode}
use Rattle.tseen.specs.Steps.{IsCurrent}
use Rattle.tseen.proofs.After.{State}
use Rattle.tseen.proofs.Built.{lies_below}
use Rattle.tseen.proofs.Counted.{waits_descheduled, queued_descheduled}
use Rattle.tseen.proofs.OwnChoice.{has, lies}
use Rattle.tseen.proofs.Running.{RunsThere}
use Rattle.tseen.proofs.Stepped.{shown_node, there}

-- the priority of a process is its rank
pub same_rank : (level : ℕ) → level < 2 → rank level ≡ level
same_rank zero h = refl
same_rank (suc zero) h = refl
same_rank (suc (suc j)) h = absurd (omega arith)

module _ (p : Plan) (c : Configuration) (s : State) (n : ℕ) (x : Name) (k : IsCurrent p c s n x) where
  abbrev m : Control
  m = k.node.machine.control

  abbrev store : Store
  store = k.node.machine.store

  abbrev running : RunsThere s n k.plan k.node x
  running = there p c s n x k

  abbrev shown : ShowsNode s n k.plan (k.shows.named n) (k.shows.sent n) k.node
  shown = shown_node p c s n x k

  abbrev w : ℕ
  w = m.registers.wptr

  -- a process that waits has a workspace in the memory
  waits_above : (process : ℕ) → is_some (reason_of m process) ≡ true → process ≡ not_process → ⊥
  waits_above process e f =
      let there : Contains (descheduled m) (workspace_of process) = waits_descheduled m process e in
      let l : LiesWord (length store) (word_below (workspace_of process) 3) =
      lies_below (length store) (workspace_of process) 3 k.steady.placed.claimed.size
      (All-contains (IsWorkspace (length store)) (descheduled m) (workspace_of process) k.steady.placed.claimed.saved
      there) (All-contains IsWord (descheduled m) (workspace_of process) k.steady.placed.workspaces there)
      ((omega arith), (omega arith)) in
      let b : workspace_of process ≡ most_neg = omega (arith, f) in
      let up : most_neg ≤ word_below most_neg 3 = subst (λ z. most_neg ≤ word_below z 3) b l.above in
      omega (arith, up)

  -- who sends on a channel is found
  module _ (channel : ℕ) (q : Request) (t : IsTakenHalf s n (k.shows.named n) k.node.machine channel Output q) where
    pub sender_waits : status m t.process ≡ found.Waits (Sends channel q.buffer.start q.buffer.size)
    sender_waits = ap (λ (o : Option Reason). status_by o (not_waiting m t.process)) t.waits

    pub sender_names : t.process ≡ not_process → ⊥
    sender_names = waits_above t.process (ap (λ (o : Option Reason). is_some o) t.waits)

  module _ (choice : Choice) (is : running.context.choice ≡ Some choice) where
    -- no process that is queued or waits has the workspace
    not_descheduled : Contains (descheduled m) w → ⊥
    not_descheduled h =
        true≢false (sym (All-contains (AreSavedWords s n) (descheduled m) w shown.marks.saved h).third
        ∙ ap is_set_aside (has p c s n x k choice is).used)

    aligned : w % 4 ≡ 0
    aligned = eqb-true _ _ k.steady.placed.words.aligned

    own_workspace : workspace_of (w + running.level) ≡ w
    own_workspace = omega (arith, aligned, running.small)

    not_waits : (o : Option Reason) → reason_of m (w + running.level) ≡ o → o ≡ None
    not_waits None e = refl
    not_waits (Some r) e =
        absurd (not_descheduled (subst (Contains (descheduled m)) own_workspace
        (waits_descheduled m (w + running.level) (ap (λ (o : Option Reason). is_some o) e))))

    not_queued : (b : Bool) → is_queued m (w + running.level) ≡ b → b ≡ false
    not_queued false e = refl
    not_queued true e =
        absurd (not_descheduled (subst (Contains (descheduled m)) own_workspace
        (queued_descheduled m (w + running.level) e)))

    -- the process finds itself
    pub own_runs : status m (w + running.level) ≡ found.Runs
    own_runs =
        ap (λ (o : Option Reason). status_by o (not_waiting m (w + running.level))) (not_waits _ refl)
        ∙ ap (λ b. if b then found.Queued else later) (not_queued _ refl)
        ∙ ap (λ b. if b then found.Runs else last) that
      where
        last : ProcessStatus
        last = if is_that (interrupted_process m) (w + running.level) then found.Interrupted else found.Unknown

        later : ProcessStatus
        later = if is_that (current_process m) (w + running.level) then found.Runs else last

        that : is_that (current_process m) (w + running.level) ≡ true
        that =
            subst (λ (o : Option ℕ). is_that (option_map (λ q. w + q) o) (w + running.level) ≡ true)
            (sym running.current) (eq-eqb (w + running.level) (w + running.level) refl)

    pub own_names : w + running.level ≡ not_process → ⊥
    own_names e =
        let l : LiesWord (length store) (word_below w 3) = lies p c s n x k choice is in
        let b : w ≡ most_neg = omega (arith, e, aligned, running.small) in
        let up : most_neg ≤ word_below most_neg 3 = subst (λ z. most_neg ≤ word_below z 3) b l.above in
        omega (arith, up)
