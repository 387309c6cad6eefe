-- A notice wakes a process that waits for its alternative: what its processor does.
use Rattle.std.proofs.Common.{◌≡◌, ℕ, refl, ap, ◌∙◌, true, cond, Option, Some, None}
use Rattle.tword.specs.Claims.{Claims, has_saved}
use Rattle.tword.specs.Stores.{with_word}
use Rattle.tword.specs.Words.{word_below}
use Rattle.tword.specs.Actions.{run, answer, set_saved_word, with_saved_word, ◌>>=◌, ◌>>◌}
use Rattle.tproc.specs.declared.process_status.ProcessStatus.{ProcessStatus}
use Rattle.tproc.specs.declared.process_status.ProcessStatus.TheVariants as places
use Rattle.tproc.specs.declared.waiter.Reason.TheVariants as reasons
use Rattle.tproc.specs.Channels.{ready}
use Rattle.tproc.specs.LinkChannels.{link_end}
use Rattle.tproc.specs.Links.{or_unchanged, notify_at, notify, notice}
use Rattle.tproc.specs.Machine.{Control, Machine, claims_of, workspace_of, priority_of}
use Rattle.tproc.specs.ProcessStatus.{status}
use Rattle.tproc.specs.Queues.{state_word, link_from, appended, without_waiter, enqueue, release}
use Rattle.tproc.specs.Steps.{acted}
use Rattle.tproc.proofs.LinkClaims.{noticing, noticing-claims}
use Rattle.treduction.proofs.LinkActions.{freed, linked, last_before}

-- a word is set, and then a process joins a queue
joins_after : (x : Machine) (c : Claims) (last : Option ℕ) (v w p : ℕ) (m : Control)
    → or_unchanged x (acted x.store (run ((set_saved_word v state_word ready >> (link_from last w
    >> answer (appended w p m))) >>= (λ m'. answer (m', tt))) x.store c))
    ≡ record { control = appended w p m; store = linked last c w (with_saved_word x.store c v state_word ready) }
joins_after x c None v w p m = refl
joins_after x c (Some last) v w p m = refl

-- the processor after the notice
abbrev pub woken_machine : ℕ → Machine → ℕ → Machine
woken_machine l n q =
    record {
      control = freed q (noticing l n).control;
      store = linked (last_before q (noticing l n).control) (claims_of n.control) (workspace_of q)
          (with_word n.store (word_below (workspace_of q) state_word) ready);
    }

pub notice_wakes : (l q : ℕ) (n : Machine) → (link_end n.control l).remembered ≡ Some q
    → status n.control q ≡ places.Waits reasons.Chooses → has_saved (claims_of n.control) (workspace_of q) ≡ true
    → notice l n ≡ woken_machine l n q
unfolding notice enqueue release
notice_wakes l q n h waits saved =
    ap (λ (o : Option ℕ). notify o (noticing l n)) h
    ∙ ap (λ (place : ProcessStatus). notify_at place q (noticing l n)) waits
    ∙ joins_after (noticing l n) (claims_of (noticing l n).control) (last_before q (noticing l n).control)
    (workspace_of q) (workspace_of q) (priority_of q) (without_waiter q (noticing l n).control)
    ∙ ap (λ (c : Claims). record {
      control = freed q (noticing l n).control;
      store = linked (last_before q (noticing l n).control) c (workspace_of q)
          (with_saved_word n.store c (workspace_of q) state_word ready);
    }) (noticing-claims l n)
    ∙ ap (λ b. record {
      control = freed q (noticing l n).control;
      store = linked (last_before q (noticing l n).control) (claims_of n.control) (workspace_of q)
          (cond b (with_word n.store (word_below (workspace_of q) state_word) ready) n.store);
    }) saved
