-- The second of two processes at an internal channel: what its processor does, and the words after its three steps.
use Rattle.std.proofs.Common.{true}
use Rattle.std.proofs.Common.{true≢false, false}
use Rattle.tseen.proofs.Unclaimed.{aside_not_free}
use Rattle.tseen.specs.Words.{is_set_aside}
use Rattle.tseen.specs.Choices.{enabler_at}
use Rattle.std.proofs.Common.{◌≡◌, ◌≢◌, ℕ, zero, suc, ◌/◌, refl, sym, ap, subst, ◌∙◌, length, get_or, Contains, ◌++◌}
use Rattle.std.proofs.Common.{Option, Some, None, Ok, arith, ◌⊎◌, inl, inr, pos}
use Rattle.std.proofs.lemmas.List.Elements.{Contains-append_left, Contains-append_right, All-contains}
use Rattle.std.proofs.lemmas.Bool.{cases_eq}
use Rattle.tword.specs.Words.{word_below}
use Rattle.tword.specs.Stores.{Store, word_at, with_word}
use Rattle.tword.specs.Claims.{Claims}
use Rattle.tword.specs.Touches.{Reads, Writes, word_span, word_break, span_break, copy_break, claim_break}
use Rattle.tword.specs.Touches.{word_place_break}
use Rattle.tcode.specs.declared.instruction.Operation.{Operation}
use Rattle.tcpu.specs.declared.registers.Registers.{Registers}
use Rattle.tproc.specs.declared.channels.Side.{Side}
use Rattle.tproc.specs.declared.channels.Side.TheVariants.{Input, Output}
use Rattle.tproc.specs.declared.ran.Ran.TheVariants as ran
use Rattle.tproc.specs.Machine.{Control, Machine, claims_of, descheduled, workspace_of, priority_of}
use Rattle.tproc.specs.Hidden.{hidden}
use Rattle.tproc.specs.Channels.{mode_of}
use Rattle.tproc.specs.Queues.{not_process, last_of}
use Rattle.tproc.specs.ProcessStatus.{queue}
use Rattle.tproc.specs.Placement.{IsWorkspace, IsWord as IsMachineWord}
use Rattle.tproc.specs.Steps.{step}
use Rattle.tproc.proofs.WordsApart.{LiesWord, other_word}
use Rattle.tplan.specs.declared.plan.Plan.{Plan}
use Rattle.tnet.specs.Rendezvous.{Configuration}
use Rattle.tprocesses.specs.Places.{Name, WordAt, Sending}
use Rattle.tprocesses.specs.Values.{Value, Use, Free, Saved, Receiving, Engaged, Context, Runs, Request, IsWord}
use Rattle.tprocesses.specs.Values.{word_in, amount_in}
use Rattle.tprocesses.specs.Changes.{Change, Put, free_word}
use Rattle.tprocesses.specs.Touching.{Site, word_number}
use Rattle.tprocesses.specs.Standing.{forget}
use Rattle.tprocesses.specs.Machine.{site_of}
use Rattle.tseen.specs.Words.{AreSavedWords}
use Rattle.tseen.specs.Shown.{ShowsNode}
use Rattle.tseen.specs.Steps.{IsCurrent}
use Rattle.tseen.proofs.After.{State}
use Rattle.tseen.proofs.Spans.{word_of_number, word_touchable}
use Rattle.tseen.proofs.Cells.{use_of, Tells}
use Rattle.tseen.proofs.Touched.{Permits}
use Rattle.tseen.proofs.Written.{changed_there, changed_word, changed_else}
use Rattle.tseen.proofs.Writing.{IsCopied}
use Rattle.tseen.proofs.Stored.{GoesOn}
use Rattle.tseen.proofs.Performed.{span_passes, both_copied, copy_passes}
use Rattle.tseen.proofs.Finished.{StandsNow}
use Rattle.tseen.proofs.Running.{RunsThere}
use Rattle.tseen.proofs.Own.{word_stays}
use Rattle.tseen.proofs.Built.{lies_below}
use Rattle.tseen.proofs.Adding.{among, last_descheduled}
use Rattle.tseen.proofs.Stepped.{shown_node, there, hidden_if}
use Rattle.tseen.proofs.Saving.{below, IsUnsaved}
use Rattle.tseen.proofs.Staying.{used_two, unknown_two}
use Rattle.tseen.proofs.Resumed.{by_freed, tells_then}
use Rattle.tseen.proofs.Unclaimed.{unclaimed_readable, unclaimed_writable}
use Rattle.tseen.proofs.Yielding.{other_cell_stays}
use Rattle.tseen.proofs.Claimed.{input_received}
use Rattle.tseen.proofs.SetUnknown.{set_unknown, tells_alike, word_put}
use Rattle.tseen.proofs.AtOperation.{registers_at, context_at, control_at}
use Rattle.tseen.proofs.Asked.{side_of, start_of, length_of, buffer_for, left_by, request_for}
use Rattle.tseen.proofs.Taken.{HasTaken, opposite, lies, used_before, first_free, second_free, third_free, saved_of}
use Rattle.tseen.proofs.Taken.{unsent, was_engaged}
use Rattle.tseen.proofs.TakenWords.{process, same_size, lies_here, not_one, not_two, by_word, one_is, two_is}
use Rattle.tseen.proofs.TakenWords.{free_now}
use Rattle.tseen.proofs.TakenWords.{at, tells_before}
use Rattle.tseen.proofs.Meeting.{source_of, target_of, woken, freed, HaveMet}
use Rattle.tseen.proofs.Partner.{asked, own, partner, waits, finds, stands_there}
use Rattle.tseen.proofs.Exchanged.{released, linked, from_of, to_of, exchanged_store, MayMeet, meeting_run}

not_saved_engaged : Engaged ≡ Saved → ⊥
not_saved_engaged e = cc

not_received_engaged : Engaged ≡ Receiving → ⊥
not_received_engaged e = cc

module _ (p : Plan) (c : Configuration) (s : State) (n : ℕ) (x : Name) (k : IsCurrent p c s n x) (v : State)
    (h : HasTaken p c s n x k v)
    (differs : (word_at k.node.machine.store k.node.machine.control.registers.b ≢ not_process)
    × (enabler_at s n k.node.machine.control.registers.b ≡ None)) where
  abbrev m : Control
  m = k.node.machine.control

  abbrev store : Store
  store = k.node.machine.store

  abbrev claims : Claims
  claims = claims_of m

  abbrev site : Site
  site = site_of n k.plan

  abbrev running : RunsThere s n k.plan k.node x
  running = there p c s n x k

  abbrev shown : ShowsNode s n k.plan (k.shows.named n) (k.shows.sent n) k.node
  shown = shown_node p c s n x k

  abbrev o : Operation
  o = h.operation

  abbrev side : Side
  side = side_of o

  abbrev channel : ℕ
  channel = m.registers.b

  abbrev j : ℕ
  j = word_number channel

  abbrev w : ℕ
  w = m.registers.wptr

  abbrev count : ℕ
  count = length_of o m.registers

  abbrev start : ℕ
  start = start_of o m.registers

  abbrev registers : Registers
  registers = registers_at p c s n x k h.size

  abbrev other : ℕ
  other = partner p c s n x k v h differs

  abbrev theirs : Request
  theirs = asked p c s n x k v h differs

  abbrev waiting : Context
  waiting = forget (context_at p c s n x k h.size)

  -- the process goes on from its rest
  abbrev pub again : Context
  again = woken waiting

  -- the two have met, and the second has gone on
  pub record HaveGoneOn (t z : State) : Type 0 where
    pub met : HaveMet site running.whole p channel side (own p c s n x k v h differs) theirs waiting
        (stands_there p c s n x k v h differs).context v t
    pub freed : State
    pub unsaved : IsUnsaved site running.whole t freed w
    pub runs : StandsNow site x (Runs again) freed z

  -- the channel word names no process, and is free
  abbrev emptied : State
  emptied = freed site running.whole p channel side (own p c s n x k v h differs) theirs waiting
      (stands_there p c s n x k v h differs).context v

  abbrev freeing : Change
  freeing = Put (IsWord (free_word not_process))

  not_aside : false ≡ true → ⊥
  not_aside f = true≢false (sym f)

  engaged : use_of s n j ≡ Engaged
  engaged = was_engaged p c s n x k v h differs.0

  emptied_there : emptied (WordAt n j) ≡ IsWord (free_word not_process)
  emptied_there = changed_there n j freeing v

  emptied_else : (i : ℕ) → i ≢ j → emptied (WordAt n i) ≡ v (WordAt n i)
  emptied_else i e = changed_word n j freeing v i (λ f. e (sym f))

  used_then : (i : ℕ) → i ≢ j → i ≢ below w 1 → i ≢ below w 2 → i ≢ below w 3
      → v (WordAt n i) ≡ h.before (WordAt n i)
  used_then =
      by_word p c s n x k v h (λ i. i ≢ j → i ≢ below w 1 → i ≢ below w 2 → i ≢ below w 3
      → v (WordAt n i) ≡ h.before (WordAt n i)) (λ a b d e. absurd (a refl)) (λ a b d e. absurd (b refl))
      (λ a b d e. absurd (d refl)) (λ a b d e. absurd (e refl)) (λ i f a b d e a' b' d' e'. f)

  -- a word that is free then was so, or is the channel's
  free_then : (i : ℕ) → use_of emptied n i ≡ Free → (i ≡ j) ⊎ (use_of s n i ≡ Free)
  free_then i e = by (cases_eq i j)
    where
      by : (i ≡ j) ⊎ (i ≡ j → ⊥) → (i ≡ j) ⊎ (use_of s n i ≡ Free)
      by (inl f) = inl f
      by (inr f) =
          inr (free_now p c s n x k v h i (ap (λ (a : Value). (word_in a).used) (sym (emptied_else i f)) ∙ e)).0

  permits_then : Permits emptied n claims
  permits_then =
      record {
        reads = λ i e. reads i (free_then i e);
        writes = λ i e f. writes i (free_then i e) f;
      }
    where
      reads : (i : ℕ) → (i ≡ j) ⊎ (use_of s n i ≡ Free) → claim_break claims Reads (word_of_number i) ≡ None
      reads i (inl e) =
          subst (λ a. claim_break claims Reads (word_of_number a) ≡ None) (sym e)
          (unclaimed_readable s n k.plan (k.shows.named n) (k.shows.sent n) k.node shown k.steady.placed j
          (λ f. not_aside (sym (ap is_set_aside engaged) ∙ f)) (λ f. not_received_engaged (sym engaged ∙ f)))
      reads i (inr e) = running.permits.reads i e

      writes : (i : ℕ) → (i ≡ j) ⊎ (use_of s n i ≡ Free) → amount_in (emptied (Sending n i)) ≡ pos 0
          → claim_break claims Writes (word_of_number i) ≡ None
      writes i (inl e) f =
          subst (λ a. claim_break claims Writes (word_of_number a) ≡ None) (sym e)
          (unclaimed_writable s n k.plan (k.shows.named n) (k.shows.sent n) k.node shown k.steady.placed j
          (λ f. not_aside (sym (ap is_set_aside engaged) ∙ f)) (λ f. not_received_engaged (sym engaged ∙ f))
          (unsent p c s n x k v h))
      writes i (inr e) f =
          running.permits.writes i e
          (ap amount_in (sym (at p c s n x k v h (Sending n i) refl refl refl)
          ∙ sym (changed_else n j freeing v (Sending n i) refl)) ∙ f)

  module _ (t z : State) (g : HaveGoneOn t z) where
    abbrev copy : State
    copy = g.met.copy

    abbrev from : ℕ
    from = from_of side start theirs.buffer.start

    abbrev to : ℕ
    to = to_of side start theirs.buffer.start

    -- the copy, by addresses
    copies : IsCopied site running.whole emptied copy (record { start = from; size = count })
        (record { start = to; size = count })
    copies = by side g.met.copies
      where
        by : (a : Side) → IsCopied site running.whole emptied copy
            (source_of a (own p c s n x k v h differs) theirs) (target_of a (own p c s n x k v h differs) theirs)
            → IsCopied site running.whole emptied copy
            (record { start = from_of a start theirs.buffer.start; size = count })
            (record { start = to_of a start theirs.buffer.start; size = count })
        by Input e =
            subst (λ l. IsCopied site running.whole emptied copy (record { start = theirs.buffer.start; size = l })
            (record { start = start; size = count })) g.met.sizes e
        by Output e =
            subst (λ l. IsCopied site running.whole emptied copy (record { start = start; size = count })
            (record { start = theirs.buffer.start; size = l })) g.met.sizes e

    -- both buffers may be touched
    touches : (span_break k.plan.memory claims (mode_of side) (record { start = start; size = count }) ≡ None)
        × (span_break k.plan.memory claims (mode_of (opposite side)) theirs.buffer ≡ None)
    touches = by side g.met.copies
      where
        by : (a : Side) → IsCopied site running.whole emptied copy
            (source_of a (own p c s n x k v h differs) theirs) (target_of a (own p c s n x k v h differs) theirs)
            → (span_break k.plan.memory claims (mode_of a) (record { start = start; size = count }) ≡ None)
            × (span_break k.plan.memory claims (mode_of (opposite a)) theirs.buffer ≡ None)
        by Input e = (
          span_passes site running.whole claims emptied Writes (buffer_for o m.registers) permits_then e.written.placed
              e.written.touched,
          span_passes site running.whole claims emptied Reads theirs.buffer permits_then e.read.placed
              (λ i l. e.read.are.touched i l.from l.to),
        )
        by Output e = (
          span_passes site running.whole claims emptied Reads (buffer_for o m.registers) permits_then e.read.placed
              (λ i l. e.read.are.touched i l.from l.to),
          span_passes site running.whole claims emptied Writes theirs.buffer permits_then e.written.placed
              e.written.touched,
        )

    take : word_break (length store) claims Writes channel ≡ None
    take =
        word_touchable (length store) claims Writes channel
        (subst (λ a. word_place_break a channel ≡ None) (sym (same_size p c s n x k v h)) h.taken.placed)
        (subst (λ a. claim_break claims Writes (word_span a) ≡ None)
        (omega (arith, (lies p c s n x k v h).0, (lies p c s n x k v h).1))
        (unclaimed_writable s n k.plan (k.shows.named n) (k.shows.sent n) k.node shown k.steady.placed j
        (λ f. not_aside (sym (ap is_set_aside engaged) ∙ f)) (λ f. not_received_engaged (sym engaged ∙ f))
        (unsent p c s n x k v h)))

    may_meet : MayMeet (control_at p c s n x k o h.size) store claims side channel start count other theirs.buffer
    may_meet =
        record {
          take = take;
          differs = differs.0;
          finds = finds p c s n x k v h differs;
          waits = waits p c s n x k v h differs;
          sizes = g.met.sizes;
          own_touch = subst (λ l. span_break l claims (mode_of side) (record { start = start; size = count }) ≡ None)
              (sym (same_size p c s n x k v h)) touches.0;
          other_touch = subst (λ l. span_break l claims (mode_of (opposite side)) theirs.buffer ≡ None)
              (sym (same_size p c s n x k v h)) touches.1;
          copies = subst (λ l. copy_break l claims from to count ≡ None) (sym (same_size p c s n x k v h))
              (copy_passes site running.whole claims emptied copy from to count permits_then copies);
          saves = λ a e. among (descheduled m) a (saved_queue (priority_of other) a e);
        }
      where
        saved_queue : (q a : ℕ) → Contains (queue (control_at p c s n x k o h.size) q) a → Contains (descheduled m) a
        saved_queue zero a e = Contains-append_left (m.high ++ m.low) _ a (Contains-append_left m.high m.low a e)
        saved_queue (suc q) a e = Contains-append_left (m.high ++ m.low) _ a (Contains-append_right m.high m.low a e)

    -- the last of the partner's queue, if there is one
    abbrev last : Option ℕ
    last = last_of (queue (control_at p c s n x k o h.size) (priority_of other))

    abbrev freed_store : Store
    freed_store = with_word h.laid channel not_process

    abbrev copied_store : Store
    copied_store = exchanged_store h.laid channel from to count

    -- the machine after the step
    abbrev pub made : Machine
    made =
        record {
          control = released (left_by o registers) other (control_at p c s n x k o h.size);
          store = linked copied_store last (workspace_of other);
        }

    pub stepped : step k.node.machine ≡ Ok (made, ran.Instruction)
    stepped =
        h.steps made.control made.store
        (h.asked.runs
        ∙ meeting_run (left_by o registers) (request_for o (process p c s n x k v h) m.registers)
        (control_at p c s n x k o h.size) store h.laid claims other theirs.buffer may_meet)

    -- the memory is told
    tells_emptied : Tells emptied n k.plan.memory freed_store
    tells_emptied =
        word_put v n k.plan.memory h.laid channel not_process Free (tells_before p c s n x k v h)
        (lies_here p c s n x k v h)

    goes : GoesOn n k.plan.memory emptied copy freed_store copied_store
    goes = both_copied site running.whole claims emptied copy freed_store from to count tells_emptied copies

    used_one_then : use_of t n (below w 1) ≡ Saved
    used_one_then =
        ap (λ (a : Value). (word_in a).used) (g.met.words (below w 1)) ∙ goes.keeps.uses (below w 1)
        ∙ ap (λ (a : Value). (word_in a).used) (emptied_else (below w 1) (λ e. not_one p c s n x k v h (sym e))
        ∙ one_is p c s n x k v h)

    used_two_then : use_of t n (below w 2) ≡ Saved
    used_two_then =
        ap (λ (a : Value). (word_in a).used) (g.met.words (below w 2)) ∙ goes.keeps.uses (below w 2)
        ∙ ap (λ (a : Value). (word_in a).used) (emptied_else (below w 2) (λ e. not_two p c s n x k v h (sym e))
        ∙ two_is p c s n x k v h)

    word_now : (i : ℕ) → z (WordAt n i) ≡ g.freed (WordAt n i)
    word_now i = g.runs.others (WordAt n i) refl

    -- what holds of each word: of the channel's, of those below the workspace, and of all others
    by_word_now : (P : ℕ → Type 0) → (use_of z n j ≡ Free → P j) → (use_of z n (below w 1) ≡ Free → P (below w 1))
        → (use_of z n (below w 2) ≡ Free → P (below w 2)) → (use_of z n (below w 3) ≡ Free → P (below w 3))
        → ((i : ℕ) → z (WordAt n i) ≡ copy (WordAt n i) → emptied (WordAt n i) ≡ h.before (WordAt n i) → i ≢ j → P i)
        → (i : ℕ) → P i
    by_word_now P channel' one two three rest =
        by_freed site running.whole w t g.freed g.unsaved used_one_then used_two_then P
        (one (freed_use (below w 1) g.unsaved.set.one)) (two (freed_use (below w 2) g.unsaved.set.two))
        (three (freed_use (below w 3) g.unsaved.set.three))
        (λ i a b d e. by i a b d e (cases_eq i j))
      where
        freed_use : (i : ℕ) {cells : Store} → g.freed (WordAt n i) ≡ IsWord (record { cells = cells; used = Free })
            → use_of z n i ≡ Free
        freed_use i e = ap (λ (a : Value). (word_in a).used) (word_now i ∙ e)

        by : (i : ℕ) → i ≢ below w 1 → i ≢ below w 2 → i ≢ below w 3 → g.freed (WordAt n i) ≡ t (WordAt n i)
            → (i ≡ j) ⊎ (i ≡ j → ⊥) → P i
        by i a b d e (inl f) =
            subst P (sym f) (channel' (ap (λ (a : Value). (word_in a).used) (ap (λ q. z (WordAt n q)) (sym f)
            ∙ word_now i ∙ e ∙ g.met.words i) ∙ goes.keeps.uses i
            ∙ ap (λ (a : Value). (word_in a).used) (ap (λ q. emptied (WordAt n q)) f ∙ emptied_there)))
        by i a b d e (inr f) =
            rest i (word_now i ∙ e ∙ g.met.words i) (emptied_else i f ∙ used_then i f a b d) f

    -- its use: as before, except for the channel word, which is free
    pub used_now : (i : ℕ) → ((i ≡ j) × (use_of z n i ≡ Free)) ⊎ (use_of z n i ≡ use_of s n i)
    used_now =
        by_word_now (λ i. ((i ≡ j) × (use_of z n i ≡ Free)) ⊎ (use_of z n i ≡ use_of s n i)) (λ e. inl (refl, e))
        (λ e. inr (e ∙ sym (first_free p c s n x k v h))) (λ e. inr (e ∙ sym (second_free p c s n x k v h)))
        (λ e. inr (e ∙ sym (third_free p c s n x k v h)))
        (λ i e f a. inr (ap (λ (q : Value). (word_in q).used) e ∙ goes.keeps.uses i
        ∙ ap (λ (q : Value). (word_in q).used) f ∙ used_before p c s n x k v h i))

    -- the channel word is free
    pub channel_free : use_of z n j ≡ Free
    channel_free = by_word_now (λ i. i ≡ j → use_of z n i ≡ Free) (λ e f. e) (λ e f. e) (λ e f. e) (λ e f. e)
        (λ i e f a b. absurd (a b)) j refl

    -- a word that was neither free nor the channel's stays
    pub kept_now : (i : ℕ) → (use_of s n i ≡ Free → ⊥) → i ≢ j → z (WordAt n i) ≡ s (WordAt n i)
    kept_now =
        by_word_now (λ i. (use_of s n i ≡ Free → ⊥) → i ≢ j → z (WordAt n i) ≡ s (WordAt n i))
        (λ e f a. absurd (a refl)) (λ e f a. absurd (f (first_free p c s n x k v h)))
        (λ e f a. absurd (f (second_free p c s n x k v h))) (λ e f a. absurd (f (third_free p c s n x k v h)))
        (λ i e f a d b.
        e ∙ goes.keeps.kept i (λ q. d (sym (used_before p c s n x k v h i)
        ∙ sym (ap (λ (q : Value). (word_in q).used) f) ∙ q)) ∙ f ∙ h.asked.on.keeps.kept i d)

    pub not_channel : (i : ℕ) (a : Use) → use_of s n i ≡ a → (Engaged ≡ a → ⊥) → i ≢ j
    not_channel i a e f q = f (sym engaged ∙ ap (use_of s n) (sym q) ∙ e)

    -- so a word that was saved
    pub saved_stays : (i : ℕ) → is_set_aside (use_of s n i) ≡ true → z (WordAt n i) ≡ s (WordAt n i)
    saved_stays i e =
        kept_now i (aside_not_free e)
        (λ q. not_aside (sym (ap (λ b. is_set_aside (use_of s n b)) q ∙ ap is_set_aside engaged) ∙ e))

    -- the word of the last one's link
    link_lies : (a : ℕ) → last ≡ Some a → Contains (descheduled m) a
    link_lies a e = last_descheduled m (priority_of other) a (by (priority_of other) e)
      where
        by : (q : ℕ) → last_of (queue (control_at p c s n x k o h.size) q) ≡ Some a → last_of (queue m q) ≡ Some a
        by zero e = e
        by (suc q) e = e

    lies_link : (a : ℕ) → Contains (descheduled m) a → LiesWord k.plan.memory (word_below a 2)
    lies_link a e =
        subst (λ l. LiesWord l (word_below a 2)) (same_size p c s n x k v h)
        (lies_below (length store) a 2 k.steady.placed.claimed.size
        (All-contains (IsWorkspace (length store)) (descheduled m) a k.steady.placed.claimed.saved e)
        (All-contains IsMachineWord (descheduled m) a k.steady.placed.workspaces e) ((omega arith), (omega arith)))

    tells_then_now : Tells z n k.plan.memory copied_store
    tells_then_now =
        tells_then site running.whole w t g.freed g.unsaved used_one_then used_two_then z k.plan.memory copied_store
        word_now (tells_alike copy t n k.plan.memory copied_store g.met.words goes.tells)

    pub tells_now : Tells z n k.plan.memory made.store
    tells_now = by last refl
      where
        by : (l : Option ℕ) → last ≡ l → Tells z n k.plan.memory (linked copied_store l (workspace_of other))
        by None e = tells_then_now
        by (Some a) e =
            let inside : Contains (descheduled m) a = link_lies a e in
            let saved : AreSavedWords s n a = saved_of p c s n x k v h a inside in
            set_unknown z n k.plan.memory copied_store (word_below a 2) (workspace_of other) tells_then_now
            (lies_link a inside)
            (ap (λ (q : Value). (word_in q).cells) (saved_stays (word_number (word_below a 2))
            (ap is_set_aside (used_two s n a saved)))
            ∙ unknown_two s n a saved)

    -- a word of the store that was in another use
    pub word_stays_after : (a : ℕ) → LiesWord k.plan.memory a → (use_of s n (word_number a) ≡ Free → ⊥)
        → (use_of s n (word_number a) ≡ Saved → ⊥) → word_number a ≢ j → word_at made.store a ≡ word_at store a
    word_stays_after a l free saved apart =
        by last refl
        ∙ word_stays emptied n k.plan.memory freed_store copied_store a goes.only tells_emptied.length
        goes.tells.length (omega (arith, l.above, l.within, l.aligned)) (omega (arith, l.above, l.within, l.aligned))
        (λ e. not_free_then (free_then (word_number a) e))
        ∙ other_word h.laid channel not_process a
        (subst (λ q. LiesWord q channel) (sym h.asked.on.tells.length) (lies_here p c s n x k v h))
        (subst (λ q. LiesWord q a) (sym h.asked.on.tells.length) l) (λ e. apart (ap word_number (sym e)))
        ∙ word_stays s n k.plan.memory store h.laid a h.asked.on.only (same_size p c s n x k v h)
        h.asked.on.tells.length (omega (arith, l.above, l.within, l.aligned))
        (omega (arith, l.above, l.within, l.aligned)) free
      where
        not_free_then : (word_number a ≡ j) ⊎ (use_of s n (word_number a) ≡ Free) → ⊥
        not_free_then (inl e) = apart e
        not_free_then (inr e) = free e

        by : (q : Option ℕ) → last ≡ q
            → word_at (linked copied_store q (workspace_of other)) a ≡ word_at copied_store a
        by None e = refl
        by (Some b) e =
            let inside : Contains (descheduled m) b = link_lies b e in
            other_word copied_store (word_below b 2) (workspace_of other) a
            (subst (λ q. LiesWord q (word_below b 2)) (sym goes.tells.length) (lies_link b inside))
            (subst (λ q. LiesWord q a) (sym goes.tells.length) l)
            (λ e. saved (subst (λ q. use_of s n (word_number q) ≡ Saved) e
            (used_two s n b (saved_of p c s n x k v h b inside))))

    -- pending inputs stay hidden
    pub hidden_still : hidden made ≡ made
    hidden_still =
        ap (λ (q : Store). record { control = made.control; store = q })
        (hidden_if m store made.store (λ i e. stays i (input_received s n (k.shows.sent n) k.node.machine
        k.steady.placed shown.marks i e)) (ap (λ (q : Machine). q.store) k.steady.hides))
      where
        not_received : Receiving ≡ Free → ⊥
        not_received e = cc

        received_not_saved : Saved ≡ Receiving → ⊥
        received_not_saved e = cc

        stays : (i : ℕ) → use_of s n (i / 4) ≡ Receiving → get_or made.store i None ≡ get_or store i None
        stays i used =
            by last refl
            ∙ goes.only i (λ e. not_free_then (free_then (i / 4) e))
            ∙ other_cell_stays h.laid channel not_process i
            (subst (λ q. LiesWord q channel) (sym h.asked.on.tells.length) (lies_here p c s n x k v h)) apart
            ∙ h.asked.on.only i (λ e. not_received (sym used ∙ e))
          where
            apart : i / 4 ≢ j
            apart = not_channel (i / 4) Receiving used not_received_engaged

            not_free_then : (i / 4 ≡ j) ⊎ (use_of s n (i / 4) ≡ Free) → ⊥
            not_free_then (inl e) = apart e
            not_free_then (inr e) = not_received (sym used ∙ e)

            by : (q : Option ℕ) → last ≡ q
                → get_or (linked copied_store q (workspace_of other)) i None ≡ get_or copied_store i None
            by None e = refl
            by (Some b) e =
                let inside : Contains (descheduled m) b = link_lies b e in
                other_cell_stays copied_store (word_below b 2) (workspace_of other) i
                (subst (λ q. LiesWord q (word_below b 2)) (sym goes.tells.length) (lies_link b inside))
                (λ e. received_not_saved (sym (used_two s n b (saved_of p c s n x k v h b inside))
                ∙ ap (use_of s n) (sym e) ∙ used))
