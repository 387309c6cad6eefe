-- A current process that has taken its half of an internal channel: the words after it, and all that stays.
use Rattle.std.proofs.Common.{◌≡◌, ◌≢◌, ℕ, zero, suc, ◌+◌, ◌*◌, ◌≤◌, ◌<◌, ◌%◌, refl, sym, ap, subst, ◌∙◌, false}
use Rattle.std.proofs.Common.{length, arith}
use Rattle.std.proofs.lemmas.Bool.{eqb-true}
use Rattle.tword.specs.Words.{word_below}
use Rattle.tword.specs.Stores.{Store}
use Rattle.tword.specs.declared.span.Span.{Span}
use Rattle.tword.specs.Touches.{Writes}
use Rattle.tcode.specs.declared.instruction.Operation.{Operation}
use Rattle.tproc.specs.Machine.{Control, workspace_of}
use Rattle.tproc.specs.Channels.{Request}
use Rattle.tproc.proofs.WordsApart.{LiesWord}
use Rattle.tplan.specs.declared.plan.Plan.{Plan}
use Rattle.tnet.specs.Rendezvous.{Configuration}
use Rattle.treduction.specs.Plain.{rank}
use Rattle.tprocesses.specs.Places.{Half, Place, Name, WordAt}
use Rattle.tprocesses.specs.Values.{TakenBy, IsHalf, IsWord, Value, Free, Saved, Engaged, Context, word_in}
use Rattle.tprocesses.specs.Changes.{used_word}
use Rattle.tprocesses.specs.Touching.{Site, word_number}
use Rattle.tprocesses.specs.Machine.{site_of}
use Rattle.tseen.specs.Steps.{IsCurrent}
use Rattle.tseen.proofs.HalfTaken.{half_now, claimed, is_half_of, apart_one, apart_two, apart_three, channel_now}
use Rattle.tseen.proofs.HalfTaken.{one_now, two_now, three_now, by_taken, tells_taken, stays}
use Rattle.tseen.proofs.Cells.{IsWhole, use_of, Tells}
use Rattle.tseen.proofs.After.{State}
use Rattle.tseen.proofs.Written.{is_word_of}
use Rattle.tseen.proofs.Finished.{is_stand_of}
use Rattle.tseen.proofs.Running.{RunsThere}
use Rattle.tseen.proofs.Stepped.{shown_node, there}
use Rattle.tseen.proofs.Saving.{below}
use Rattle.tseen.proofs.SetUnknown.{touched_lies}
use Rattle.tseen.proofs.AtOperation.{context_at}
use Rattle.tseen.proofs.Asked.{side_of, buffer_for, request_for}
use Rattle.std.proofs.Common.{is_none, true, None}
use Rattle.tprocesses.specs.Places.{Standing}
use Rattle.tprocesses.specs.Values.{stand_in}
use Rattle.tseen.specs.Choices.{alternative_of, alternative_at, is_quiet}
use Rattle.tseen.proofs.Choices.{no_choice, alternative_none}
use Rattle.tseen.proofs.Taken.{HasTaken, lies, lies_channel, unspoilt, used_before, third_free}

pub rank_is : (level : ℕ) → level < 2 → rank level ≡ level
rank_is zero h = refl
rank_is (suc zero) h = refl
rank_is (suc (suc i)) h = absurd (omega arith)

module _ (p : Plan) (c : Configuration) (s : State) (n : ℕ) (x : Name) (k : IsCurrent p c s n x) (v : State)
    (h : HasTaken p c s n x k v) where
  abbrev m : Control
  m = k.node.machine.control

  abbrev store : Store
  store = k.node.machine.store

  abbrev site : Site
  site = site_of n k.plan

  abbrev running : RunsThere s n k.plan k.node x
  running = there p c s n x k

  abbrev o : Operation
  o = h.operation

  abbrev channel : ℕ
  channel = m.registers.b

  abbrev j : ℕ
  j = word_number channel

  abbrev w : ℕ
  w = m.registers.wptr

  abbrev buffer : Span
  buffer = buffer_for o m.registers

  abbrev context : Context
  context = context_at p c s n x k h.size

  abbrev pub process : ℕ
  process = w + rank running.level

  abbrev pub request : Request
  request = request_for o process m.registers

  abbrev words : (i : ℕ) → 4 * i + 4 ≤ k.plan.memory → IsWhole (h.before (WordAt n i))
  words = h.asked.on.tells.words

  abbrev inside : 4 * j + 4 ≤ k.plan.memory
  inside = (lies p c s n x k v h).2

  pub same_size : length store ≡ k.plan.memory
  same_size = (shown_node p c s n x k).size

  pub aligned : w % 4 ≡ 0
  aligned = eqb-true _ _ k.steady.placed.words.aligned

  pub small : rank running.level < 2
  small = omega (arith, rank_is running.level running.small, running.small)

  pub own_workspace : workspace_of process ≡ w
  own_workspace = omega (arith, aligned, small)

  abbrev claimed_state : State
  claimed_state = claimed site running.whole x context (side_of o) channel buffer h.before

  -- the words that are set
  pub lies_one : LiesWord k.plan.memory (word_below w 1)
  lies_one = touched_lies site running.whole claimed_state Writes (word_below w 1) h.taken.saved.touched_one

  pub lies_two : LiesWord k.plan.memory (word_below w 2)
  lies_two = touched_lies site running.whole claimed_state Writes (word_below w 2) h.taken.saved.touched_two

  pub lies_three : LiesWord k.plan.memory (word_below w 3)
  lies_three = touched_lies site running.whole claimed_state Writes (word_below w 3) h.taken.saved.touched_three

  pub lies_here : LiesWord k.plan.memory channel
  lies_here = subst (λ z. LiesWord z channel) same_size (lies_channel p c s n x k v h)

  pub not_one : j ≢ below w 1
  not_one = apart_one site running.whole x context (side_of o) channel buffer h.before v h.taken words inside
      (unspoilt p c s n x k v h)

  pub not_two : j ≢ below w 2
  not_two = apart_two site running.whole x context (side_of o) channel buffer h.before v h.taken words inside
      (unspoilt p c s n x k v h)

  pub not_three : j ≢ below w 3
  not_three = apart_three site running.whole x context (side_of o) channel buffer h.before v h.taken words inside
      (unspoilt p c s n x k v h)

  abbrev pub by_word : (P : ℕ → Type 0) → P j → P (below w 1) → P (below w 2) → P (below w 3)
      → ((i : ℕ) → v (WordAt n i) ≡ h.before (WordAt n i) → i ≢ j → i ≢ below w 1 → i ≢ below w 2 → i ≢ below w 3
      → P i)
      → (i : ℕ) → P i
  by_word =
      by_taken site running.whole x context (side_of o) channel buffer h.before v h.taken words inside
      (unspoilt p c s n x k v h)

  pub channel_is : v (WordAt n j) ≡ IsWord (used_word Engaged)
  channel_is = channel_now site running.whole x context (side_of o) channel buffer h.before v h.taken words inside
      (unspoilt p c s n x k v h)

  pub one_is : v (WordAt n (below w 1)) ≡ IsWord (used_word Saved)
  one_is = one_now site running.whole x context (side_of o) channel buffer h.before v h.taken words inside
      (unspoilt p c s n x k v h)

  pub two_is : v (WordAt n (below w 2)) ≡ IsWord (used_word Saved)
  two_is = two_now site running.whole x context (side_of o) channel buffer h.before v h.taken words inside
      (unspoilt p c s n x k v h)

  pub three_is : v (WordAt n (below w 3)) ≡ IsWord (used_word Saved)
  three_is = three_now site running.whole x context (side_of o) channel buffer h.before v h.taken words inside
      (unspoilt p c s n x k v h)

  -- a word that is free now was so, and is none of those below the workspace
  pub free_now : (i : ℕ) → use_of v n i ≡ Free
      → (use_of s n i ≡ Free) × (i ≢ below w 1) × (i ≢ below w 2) × (i ≢ below w 3)
  free_now =
      by_word (λ i. use_of v n i ≡ Free
      → (use_of s n i ≡ Free) × (i ≢ below w 1) × (i ≢ below w 2) × (i ≢ below w 3))
      (λ e. absurd (not_engaged (sym (ap (λ (z : Value). (word_in z).used) channel_is) ∙ e)))
      (λ e. absurd (not_saved (sym (ap (λ (z : Value). (word_in z).used) one_is) ∙ e)))
      (λ e. absurd (not_saved (sym (ap (λ (z : Value). (word_in z).used) two_is) ∙ e)))
      (λ e. absurd (not_saved (sym (ap (λ (z : Value). (word_in z).used) three_is) ∙ e)))
      (λ i f a b d g e. (
        sym (used_before p c s n x k v h i) ∙ sym (ap (λ (z : Value). (word_in z).used) f) ∙ e,
        b,
        d,
        g,
      ))
    where
      not_engaged : Engaged ≡ Free → ⊥
      not_engaged e = cc

      not_saved : Saved ≡ Free → ⊥
      not_saved e = cc

  -- what is not of the process and no word
  pub at : (q : Place) → is_word_of n q ≡ false → is_half_of n channel (side_of o) q ≡ false
      → is_stand_of x q ≡ false → v q ≡ s q
  at q word half stand =
      stays site running.whole x context (side_of o) channel buffer h.before v h.taken words inside
      (unspoilt p c s n x k v h) q word half stand
      ∙ h.asked.on.keeps.others q word

  -- the half is taken by the process
  pub own_half : v (Half n channel (side_of o)) ≡ IsHalf (TakenBy (record { process = x; buffer = buffer }))
  own_half = half_now site running.whole x context (side_of o) channel buffer h.before v h.taken words inside
      (unspoilt p c s n x k v h) p

  -- the memory is told as before
  pub tells_before : Tells v n k.plan.memory h.laid
  tells_before =
      tells_taken site running.whole x context (side_of o) channel buffer h.before v h.taken words inside
      (unspoilt p c s n x k v h) h.laid h.asked.on.tells

  -- the process has no alternative
  no_alternative : running.context.choice ≡ None
  no_alternative =
      no_choice s n k.node.machine.control.links store x running.context (shown_node p c s n x k).choices running.home
      running.stood
      (subst (λ z. use_of s n (word_number (word_below z 3)) ≡ Free) (sym running.registers.wptr)
      (third_free p c s n x k v h))

  pub alternative_now : alternative_at v n x ≡ None
  alternative_now = ap (λ (z : Value). alternative_of (stand_in z)) h.taken.waits.is

  pub alternative_before : alternative_at s n x ≡ None
  alternative_before =
      ap (λ (z : Value). alternative_of (stand_in z)) running.stood
      ∙ alternative_none true false running.context no_alternative

  pub quiet_now : is_quiet (stand_in (v (Standing x))) ≡ true
  quiet_now = ap (λ (z : Value). is_quiet (stand_in z)) h.taken.waits.is ∙ ap is_none no_alternative
