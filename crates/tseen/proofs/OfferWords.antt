-- A process sends on a channel that an alternative has enabled: the step of its processor, and the words after it.
use Rattle.std.proofs.Common.{◌≡◌, ◌≢◌, ℕ, zero, suc, ◌+◌, ◌*◌, ◌/◌}
use Rattle.std.proofs.Common.{refl, sym, ap, subst, ◌∙◌, Bool, true, false, true≢false}
use Rattle.std.proofs.Common.{length, get_or, Contains, Option, Some, None, Ok, arith, ◌++◌}
use Rattle.std.proofs.lemmas.List.Elements.{Contains-append_left, Contains-append_right}
use Rattle.tword.specs.Words.{most_neg, word_below}
use Rattle.tword.specs.Stores.{Store, word_at, with_word}
use Rattle.tword.specs.Claims.{Claims, has_saved, saving}
use Rattle.tword.specs.Touches.{Writes, word_break, word_span, claim_break}
use Rattle.tproc.specs.declared.ran.Ran.TheVariants as ran
use Rattle.tproc.specs.Channels.{Request, ready, is_choosing}
use Rattle.tproc.specs.Machine.{Control, claims_of, descheduled, workspace_of, priority_of}
use Rattle.tproc.specs.Hidden.{hidden}
use Rattle.std.proofs.Common.{List}
use Rattle.std.specs.Prelude.{is_some}
use Rattle.tproc.specs.declared.waiter.Reason.{Reason}
use Rattle.tproc.specs.ProcessStatus.{queue, status_by, not_waiting}
use Rattle.tproc.specs.Queues.{last_of}
use Rattle.tproc.specs.Steps.{step}
use Rattle.tproc.proofs.WordsApart.{LiesWord, other_word, word_set}
use Rattle.tplan.specs.declared.plan.Plan.{Plan}
use Rattle.tnet.specs.Rendezvous.{Configuration}
use Rattle.tprocesses.specs.Places.{Name, WordAt}
use Rattle.tprocesses.specs.Values.{Value, Free, Receiving, Choosing, word_in}
use Rattle.tprocesses.specs.Touching.{word_number}
use Rattle.tseen.specs.Choices.{enabler_at, state_use}
use Rattle.tseen.specs.Words.{is_set_aside}
use Rattle.tseen.specs.Shown.{ShowsNode}
use Rattle.tseen.specs.Steps.{IsCurrent}
use Rattle.tseen.proofs.After.{State}
use Rattle.tseen.proofs.Adding.{among}
use Rattle.tseen.proofs.AtOperation.{registers_at, control_at}
use Rattle.tseen.proofs.Asked.{left_by}
use Rattle.tseen.proofs.Cells.{use_of}
use Rattle.tseen.proofs.Claimed.{saving_permits}
use Rattle.tseen.proofs.Counted.{waits_descheduled}
use Rattle.tseen.proofs.Enabler.{theirs, other, address, number, has, lies_state, finds, sends, workspace}
use Rattle.tseen.proofs.Enabler.{state_not_free, state_not, not_channel, not_one, not_two, not_three, state_choosing}
use Rattle.tseen.proofs.Enabler.{WasInterrupted, IsQueued, IsChoosing}
use Rattle.tseen.proofs.Exchanged.{linked, released}
use Rattle.tseen.proofs.FirstWords.{made, take, desch, write, touch, outside, unfree_stays, word_stays_after, is_firm}
use Rattle.tseen.proofs.FirstWords.{firm_not_free, IsLaid, made_laid, received_stays, hidden_with}
use Rattle.tseen.proofs.OfferRuns.{MaySend, queued_run, interrupted_run, waiting_run}
use Rattle.tseen.proofs.Saving.{below}
use Rattle.tseen.proofs.SetUnknown.{set_unknown}
use Rattle.tseen.proofs.Spans.{word_of_number, word_touchable}
use Rattle.tseen.proofs.Stepped.{shown_node}
use Rattle.tseen.proofs.Taken.{HasTaken, enabled_above, is_new}
use Rattle.tseen.proofs.TakenWords.{process, request, lies_here, lies_one, own_workspace}
use Rattle.tseen.proofs.Unclaimed.{unclaimed_writable}
use Rattle.tseen.proofs.Yielding.{other_cell_stays}

module _ (p : Plan) (c : Configuration) (s : State) (n : ℕ) (x : Name) (k : IsCurrent p c s n x) (v : State)
    (h : HasTaken p c s n x k v) (y : Name) (enables : enabler_at s n k.node.machine.control.registers.b ≡ Some y) where
  abbrev m : Control
  m = k.node.machine.control

  abbrev store : Store
  store = k.node.machine.store

  abbrev claims : Claims
  claims = claims_of m

  abbrev shown : ShowsNode s n k.plan (k.shows.named n) (k.shows.sent n) k.node
  shown = shown_node p c s n x k

  abbrev channel : ℕ
  channel = m.registers.b

  abbrev w : ℕ
  w = m.registers.wptr

  abbrev before : Control
  before = control_at p c s n x k h.operation h.size

  abbrev asks : Request
  asks = request p c s n x k v h

  abbrev waiter : ℕ
  waiter = other p c s n x k v h y enables

  abbrev state : ℕ
  state = address p c s n x k v h y enables

  abbrev number_is : ℕ
  number_is = number p c s n x k v h y enables

  abbrev first : Store
  first = (made p c s n x k v h).store

  -- the store in which the alternative is ready
  abbrev pub readied : Store
  readied = with_word first state ready

  first_size : length first ≡ k.plan.memory
  first_size = (made_laid p c s n x k v h).tells.length

  pub lies_there : LiesWord k.plan.memory state
  lies_there = subst (λ z. LiesWord z state) shown.size (lies_state p c s n x k v h y enables)

  lies_first : LiesWord (length first) state
  lies_first = subst (λ z. LiesWord z state) (sym first_size) lies_there

  -- another word is as it was without that
  other_stays : (a : ℕ) → LiesWord k.plan.memory a → word_number a ≢ number_is → word_at readied a ≡ word_at first a
  other_stays a l apart =
      other_word first state ready a lies_first (subst (λ z. LiesWord z a) (sym first_size) l)
      (λ e. apart (ap word_number (sym e)))

  -- a word that is neither free, nor the channel's, nor that of the state, stays
  pub others_stay : (a : ℕ) → LiesWord k.plan.memory a → (use_of s n (word_number a) ≡ Free → ⊥)
      → word_number a ≢ word_number channel → word_number a ≢ number_is → word_at readied a ≡ word_at store a
  others_stay a l free apart not_state =
      other_stays a l not_state ∙ word_stays_after p c s n x k v h a l free apart

  pub ready_there : word_at readied state ≡ ready
  ready_there = word_set first state ready lies_first (omega arith)

  -- the word of the state is unknown before and after
  pub state_kept : v (WordAt n number_is) ≡ s (WordAt n number_is)
  state_kept =
      unfree_stays p c s n x k v h number_is (state_not_free p c s n x k v h y enables)
      (not_channel p c s n x k v h y enables)

  firm_not_state : (a : ℕ) → is_firm (use_of s n a) ≡ true → a ≢ number_is
  firm_not_state a e f =
      by (theirs p c s n x k v h y enables).runs
      (sym (ap is_firm (has p c s n x k v h y enables).used) ∙ ap (λ i. is_firm (use_of s n i)) (sym f) ∙ e)
    where
      by : (r : Bool) → is_firm (state_use r) ≡ true → ⊥
      by true g = true≢false (sym g)
      by false g = true≢false (sym g)

  pub readied_laid : IsLaid p c s n x k v h readied
  readied_laid =
      record {
        tells = set_unknown v n k.plan.memory first state ready (made_laid p c s n x k v h).tells lies_there
            (ap (λ (z : Value). (word_in z).cells) state_kept ∙ (has p c s n x k v h y enables).unseen);
        words = λ a l e f. others_stay a l (firm_not_free e) f (firm_not_state (word_number a) e);
        channel_word = other_stays channel (lies_here p c s n x k v h)
            (λ e. not_channel p c s n x k v h y enables (sym e)) ∙ (made_laid p c s n x k v h).channel_word;
        iptr = other_stays (word_below w 1) (lies_one p c s n x k v h)
            (λ e. not_one p c s n x k v h y enables (sym e)) ∙ (made_laid p c s n x k v h).iptr;
      }

  -- bytes of pending inputs stay
  pub readied_received : (i : ℕ) → use_of s n (i / 4) ≡ Receiving → get_or readied i None ≡ get_or store i None
  readied_received i used =
      other_cell_stays first state ready i lies_first (λ e. state_not p c s n x k v h y enables Receiving (λ f. cc)
      (λ f. cc) (ap (use_of s n) (sym e) ∙ used))
      ∙ received_stays p c s n x k v h i used

  pub readied_hidden : hidden (record { control = (made p c s n x k v h).control; store = readied })
      ≡ record { control = (made p c s n x k v h).control; store = readied }
  readied_hidden =
      ap (λ (z : Store). record { control = (made p c s n x k v h).control; store = z })
      (hidden_with p c s n x k v h readied readied_received)

  -- what the processor does
  may_send : MaySend asks before store claims waiter
  may_send =
      record {
        side = sends p c s n x k v h y enables;
        take = take p c s n x k v h;
        differs = enabled_above p c s n x k v h y enables;
        finds = finds p c s n x k v h y enables;
        desch = desch p c s n x k v h;
        write = write p c s n x k v h;
        touch = touch p c s n x k v h;
      }

  same_state : word_below (workspace_of waiter) 3 ≡ state
  same_state = ap (λ z. word_below z 3) (workspace p c s n x k v h y enables)

  is_saved : (a : ℕ) → Contains (descheduled m) a → has_saved claims a ≡ true
  is_saved a inside = among (descheduled m) a inside

  pub queued_steps : IsQueued p c s n x k v h y enables
      → step k.node.machine
      ≡ Ok (record { control = (made p c s n x k v h).control; store = readied }, ran.Instruction)
  queued_steps q =
      h.steps (made p c s n x k v h).control readied
      (h.asked.runs
      ∙ queued_run (left_by h.operation (registers_at p c s n x k h.size)) asks before store h.laid claims waiter
      may_send
      q.stands
      (subst (λ z. has_saved claims z ≡ true) (sym (workspace p c s n x k v h y enables))
      (is_saved (theirs p c s n x k v h y enables).wptr q.saved))
      (ap (λ z. is_choosing (word_at store z)) same_state ∙ state_choosing p c s n x k v h y enables q.waits)
      ∙ ap (λ z. Ok (((made p c s n x k v h).control, ran.Instruction), with_word first z ready)) same_state)

  -- the word of the state is none of the process
  apart_from : (i : ℕ) → number_is ≢ below w i → word_below (workspace_of waiter) 3 ≢ word_below w i
  apart_from i e f = e (ap word_number (sym same_state ∙ f))

  pub interrupted_steps : WasInterrupted p c s n x k v h y enables
      → step k.node.machine
      ≡ Ok (record { control = (made p c s n x k v h).control; store = readied }, ran.Instruction)
  interrupted_steps q =
      h.steps (made p c s n x k v h).control readied
      (h.asked.runs
      ∙ interrupted_run (left_by h.operation (registers_at p c s n x k h.size)) asks before store h.laid claims waiter
      may_send q.stands (subst (λ z. word_break (length store) claims Writes z ≡ None) (sym same_state) takes)
      (ap (λ z. is_choosing (word_at store z)) same_state ∙ state_choosing p c s n x k v h y enables q.waits)
      (apart_from 1 (not_one p c s n x k v h y enables)) (apart_from 2 (not_two p c s n x k v h y enables))
      (apart_from 3 (not_three p c s n x k v h y enables))
      (subst (λ z. word_break (length store) (saving w claims) Writes z ≡ None) (sym same_state) writes)
      ∙ ap (λ z. Ok (((made p c s n x k v h).control, ran.Instruction), with_word first z ready)) same_state)
    where
      used : use_of s n number_is ≡ Choosing
      used = (has p c s n x k v h y enables).used ∙ ap state_use q.runs

      not_received : Choosing ≡ Receiving → ⊥
      not_received e = cc

      writable : claim_break claims Writes (word_of_number number_is) ≡ None
      writable =
          unclaimed_writable s n k.plan (k.shows.named n) (k.shows.sent n) k.node shown k.steady.placed number_is
          (λ e. true≢false (sym e ∙ ap is_set_aside used)) (λ e. not_received (sym used ∙ e))
          (has p c s n x k v h y enables).unsent

      same_word : most_neg + 4 * number_is ≡ state
      same_word = omega (arith, lies_there.above, lies_there.aligned)

      takes : word_break (length store) claims Writes state ≡ None
      takes =
          word_touchable (length store) claims Writes state (has p c s n x k v h y enables).placed
          (subst (λ a. claim_break claims Writes (word_span a) ≡ None) same_word writable)

      writes : word_break (length store) (saving w claims) Writes state ≡ None
      writes =
          word_touchable (length store) (saving w claims) Writes state (has p c s n x k v h y enables).placed
          (subst (λ a. claim_break (saving w claims) Writes (word_span a) ≡ None) same_word
          (saving_permits claims Writes w number_is (outside p c s n x k v h number_is
          (not_one p c s n x k v h y enables) (not_two p c s n x k v h y enables)
          (not_three p c s n x k v h y enables)) writable))

  -- where it waits, it is queued
  abbrev pub last : Option ℕ
  last = last_of (queue m (priority_of waiter))

  abbrev pub released_control : Control
  released_control =
      released (made p c s n x k v h).control.registers waiter (made p c s n x k v h).control

  pub is_there : IsChoosing p c s n x k v h y enables → Contains (descheduled m) (workspace_of waiter)
  is_there q = waits_descheduled m waiter (subst (λ (z : Option Reason). is_some z ≡ true) (sym q.reason) refl)

  pub two : IsChoosing p c s n x k v h y enables → process p c s n x k v h ≢ waiter
  two q e =
      is_new p c s n x k v h (workspace_of waiter) (is_there q)
      (ap workspace_of (sym e) ∙ own_workspace p c s n x k v h)

  pub in_queue : (q a : ℕ) → Contains (queue m q) a → Contains (descheduled m) a
  in_queue zero a e = Contains-append_left (m.high ++ m.low) _ a (Contains-append_left m.high m.low a e)
  in_queue (suc q) a e = Contains-append_left (m.high ++ m.low) _ a (Contains-append_right m.high m.low a e)

  same_queue : (q : ℕ) → queue before q ≡ queue m q
  same_queue zero = refl
  same_queue (suc q) = refl

  pub waiting_steps : IsChoosing p c s n x k v h y enables
      → step k.node.machine
      ≡ Ok (
        record { control = released_control; store = linked readied last (workspace_of waiter) },
        ran.Instruction,
      )
  waiting_steps q =
      h.steps released_control (linked readied last (workspace_of waiter))
      (h.asked.runs
      ∙ waiting_run (left_by h.operation (registers_at p c s n x k h.size)) asks before store h.laid claims waiter
      may_send
      (ap (λ r. status_by r (not_waiting m waiter)) q.reason) (is_saved (workspace_of waiter) (is_there q)) (two q)
      (λ a e. is_saved a (in_queue (priority_of waiter) a (subst (λ (z : List ℕ). Contains z a)
      (same_queue (priority_of waiter)) e)))
      ∙ ap (λ z. Ok (
        (released_control, ran.Instruction),
        linked (with_word first z ready)
            (last_of (queue before (priority_of waiter))) (workspace_of waiter),
      )) same_state
      ∙ ap (λ (z : List ℕ). Ok ((released_control, ran.Instruction), linked readied (last_of z) (workspace_of waiter)))
      (same_queue (priority_of waiter)))
