-- A current process that has taken its half of an internal channel: what this tells of the state and the store before.
use Rattle.std.specs.Prelude.{◌%◌, ◌+◌}
use Rattle.std.specs.Prelude.{◌-◌}
use Rattle.std.specs.Prelude.{◌^◌}
use Rattle.tprocesses.specs.Choosing.{is_taken}
use Rattle.std.proofs.Common.{true≢false}
use Rattle.tprocesses.specs.Values.{Holder, EnabledBy, AwaitedBy}
use Rattle.tseen.specs.Halves.{HasHolder}
use Rattle.tseen.specs.Choices.{enabler_at, is_sent, IsEnabled, HasChoice}
use Rattle.std.proofs.Common.{◌≡◌, ◌≢◌, ℕ, ◌+◌, ◌*◌, ◌≤◌, ◌<◌, ◌/◌, ◌%◌, refl, sym, ap, subst, ◌∙◌, Bool, true, false}
use Rattle.std.proofs.Common.{length, Contains, Option, Some, None, Ok, arith, ◌⊎◌, inl, inr, pos}
use Rattle.std.specs.Prelude.{is_some, if◌then◌else◌}
use Rattle.std.specs.Int.{w32, from_le_bytes}
use Rattle.std.proofs.lemmas.Bool.{eqb-true, ne_eqb}
use Rattle.std.proofs.lemmas.List.Elements.{All-contains}
use Rattle.tword.specs.Words.{most_neg, word_below}
use Rattle.tword.specs.Stores.{Store, place, word_at, with_word, shown as bytes_of}
use Rattle.tword.specs.Touches.{word_place_break}
use Rattle.tword.specs.Actions.{run_from}
use Rattle.tcode.specs.declared.instruction.Operation.{Operation}
use Rattle.tproc.specs.declared.channels.Side.{Side}
use Rattle.tproc.specs.declared.channels.Side.TheVariants.{Input, Output}
use Rattle.tproc.specs.declared.waiter.Reason.{Reason}
use Rattle.tproc.specs.declared.ran.Ran.TheVariants as ran
use Rattle.tproc.specs.Machine.{Control, claims_of, descheduled, workspace_of}
use Rattle.tproc.specs.Scheduler.{operation_step}
use Rattle.tproc.specs.Steps.{step}
use Rattle.tproc.specs.ProcessStatus.{reason_of}
use Rattle.tproc.specs.Queues.{not_process}
use Rattle.tproc.specs.Placement.{IsWorkspace, IsWord as IsMachineWord}
use Rattle.tproc.proofs.WordsApart.{LiesWord, other_word}
use Rattle.tplan.specs.declared.plan.Plan.{Plan}
use Rattle.tnet.specs.Rendezvous.{Configuration}
use Rattle.treduction.specs.Plain.{rank}
use Rattle.tprocesses.specs.Places.{Name, WordAt, Sending, Half}
use Rattle.tprocesses.specs.Values.{Nobody, TakenBy, Value, Word, Free}
use Rattle.tprocesses.specs.Values.{Saved, Receiving, Engaged, Spoilt, Request, IsWord}
use Rattle.tprocesses.specs.Values.{IsHalf, word_in}
use Rattle.tprocesses.specs.Values.{half_in, amount_in}
use Rattle.tprocesses.specs.Changes.{are_known}
use Rattle.tprocesses.specs.Touching.{Site, word_number, word_count}
use Rattle.tprocesses.specs.Machine.{site_of}
use Rattle.tseen.specs.Seats.{Seat}
use Rattle.tseen.specs.Words.{AreSavedWords, is_set_aside}
use Rattle.tseen.specs.Halves.{IsTakenHalf}
use Rattle.tseen.specs.Shown.{ShowsNode}
use Rattle.tseen.specs.Steps.{IsCurrent}
use Rattle.tseen.specs.AgentSteps.{NothingStops}
use Rattle.tseen.proofs.After.{State}
use Rattle.tseen.proofs.Spans.{word_placed}
use Rattle.tseen.proofs.Cells.{word_of, use_of}
use Rattle.tseen.proofs.Writing.{word_lies}
use Rattle.tseen.proofs.Stored.{word_known}
use Rattle.tseen.proofs.Running.{RunsThere}
use Rattle.tseen.proofs.Counted.{waits_descheduled}
use Rattle.tseen.proofs.Built.{lies_below}
use Rattle.tseen.proofs.Stepped.{shown_node, there}
use Rattle.tseen.proofs.Saving.{below}
use Rattle.tseen.proofs.Staying.{used_one}
use Rattle.tseen.proofs.AtOperation.{context_at, control_at}
use Rattle.tseen.proofs.Asked.{side_of, start_of, length_of, buffer_for, IsAsked, IsTakenBy}
use Rattle.tseen.proofs.HalfTaken.{not_spoilt, IsFound, found, channel_now, buffer_touched}

-- the other side of a channel
abbrev pub opposite : Side → Side
opposite Input = Output
opposite Output = Input

other_side : (a b : Side) → (b ≡ a → ⊥) → b ≡ opposite a
other_side Input Output h = refl
other_side Output Input h = refl
other_side Input Input h = absurd (h refl)
other_side Output Output h = absurd (h refl)

not_engaged : Engaged ≡ Free → ⊥
not_engaged e = cc

-- the current process has taken its half: the state is then v
pub record HasTaken (p : Plan) (c : Configuration) (s : State) (n : ℕ) (x : Name) (k : IsCurrent p c s n x) (v : State)
    : Type 0 where
  pub operation : Operation
  pub size : ℕ
  pub before : State
  pub laid : Store
  pub asked : IsAsked p c s n x k operation size before laid
  pub taken : IsTakenBy p c s n x k operation size before v
  pub none_stops : NothingStops p v
  pub steps : (control : Control) (last : Store)
      → run_from (operation_step operation (rank (there p c s n x k).level) (control_at p c s n x k operation size))
      k.node.machine.store (claims_of k.node.machine.control) k.node.machine.store
      ≡ Ok ((control, ran.Instruction), last)
      → step k.node.machine ≡ Ok (record { control = control; store = last }, ran.Instruction)

module _ (p : Plan) (c : Configuration) (s : State) (n : ℕ) (x : Name) (k : IsCurrent p c s n x) (v : State)
    (h : HasTaken p c s n x k v) where
  abbrev o : Operation
  o = h.operation

  abbrev u : State
  u = h.before

  abbrev laid : Store
  laid = h.laid

  abbrev asked : IsAsked p c s n x k o h.size u laid
  asked = h.asked

  abbrev taken : IsTakenBy p c s n x k o h.size u v
  taken = h.taken

  abbrev m : Control
  m = k.node.machine.control

  abbrev store : Store
  store = k.node.machine.store

  abbrev site : Site
  site = site_of n k.plan

  abbrev running : RunsThere s n k.plan k.node x
  running = there p c s n x k

  abbrev named : Seat → Name
  named = k.shows.named n

  abbrev channel : ℕ
  channel = m.registers.b

  abbrev j : ℕ
  j = word_number channel

  abbrev w : ℕ
  w = m.registers.wptr

  shown : ShowsNode s n k.plan named (k.shows.sent n) k.node
  shown = shown_node p c s n x k

  same_size : length store ≡ k.plan.memory
  same_size = shown.size

  -- where the channel word lies
  pub lies : (place channel ≡ 4 * j) × (most_neg ≤ channel) × (4 * j + 4 ≤ k.plan.memory)
  lies = word_lies site running.whole channel taken.placed

  pub aligned : channel % 4 ≡ 0
  aligned = eqb-true _ _ (word_placed site.size channel taken.placed).0

  pub lies_channel : LiesWord (length store) channel
  lies_channel =
      record {
        above = lies.1;
        within = omega (arith, lies.0, lies.1, lies.2, same_size);
        aligned = aligned;
      }

  pub unspoilt : (y : Word) → v (WordAt n j) ≡ IsWord y → y.used ≡ Spoilt → ⊥
  unspoilt y e f = not_spoilt p k.plan n j v y k.planned e f h.none_stops

  -- what it was used for
  pub used_before : (i : ℕ) → use_of u n i ≡ use_of s n i
  used_before i = asked.on.keeps.uses i

  was_found : IsFound (word_of u n j)
  was_found =
      found site running.whole x (context_at p c s n x k h.size) (side_of o) channel (buffer_for o m.registers) u v
      taken asked.on.tells.words lies.2 unspoilt

  channel_then : use_of v n j ≡ Engaged
  channel_then =
      ap (λ (z : Value). (word_in z).used)
      (channel_now site running.whole x (context_at p c s n x k h.size) (side_of o) channel (buffer_for o m.registers)
      u v taken asked.on.tells.words lies.2 unspoilt)

  -- what is stored is another word
  pub same_word : word_at laid channel ≡ word_at store channel
  same_word = by asked.first
    where
      by : (laid ≡ store)
          ⊎ ((laid ≡ with_word store w m.registers.a) × (start_of o m.registers ≡ w)
          × (0 < length_of o m.registers) × LiesWord (length store) w)
          → word_at laid channel ≡ word_at store channel
      by (inl e) = ap (λ (z : Store). word_at z channel) e
      by (inr (e, start, some, lies_own)) =
          ap (λ (z : Store). word_at z channel) e
          ∙ other_word store w m.registers.a channel lies_own lies_channel (λ f. not_engaged (sym channel_then
          ∙ ap (λ a. use_of v n (word_number a)) (sym f) ∙ own_free))
        where
          many : word_count (buffer_for o m.registers)
              ≡ (place (start_of o m.registers) % 4 + length_of o m.registers + 3) / 4
          many = rw (ne_eqb (length_of o m.registers) 0 (λ z. omega (arith, z, some))) refl

          own_free : use_of v n (word_number w) ≡ Free
          own_free =
              (buffer_touched site running.whole x (context_at p c s n x k h.size) (side_of o) channel
              (buffer_for o m.registers) u v taken asked.on.tells.words lies.2 unspoilt (word_number w)
              (taken.touched.are.touched (word_number w) (omega (arith, start))
              (omega (arith, start, many, some)))).free

  -- the words below the workspace were free
  pub first_free : use_of s n (below w 1) ≡ Free
  first_free = sym (used_before (below w 1)) ∙ taken.saved.touched_one.touched.free

  pub second_free : use_of s n (below w 2) ≡ Free
  second_free = sym (used_before (below w 2)) ∙ taken.saved.touched_two.touched.free

  pub third_free : use_of s n (below w 3) ≡ Free
  third_free = sym (used_before (below w 3)) ∙ taken.saved.touched_three.touched.free

  -- those of a process that is queued or waits are saved
  pub saved_of : (a : ℕ) → Contains (descheduled m) a → AreSavedWords s n a
  saved_of a inside = All-contains (AreSavedWords s n) (descheduled m) a shown.marks.saved inside

  pub not_free : (i : ℕ) → use_of s n i ≡ Saved → use_of s n i ≡ Free → ⊥
  not_free i e f = differ (sym e ∙ f)
    where
      differ : Saved ≡ Free → ⊥
      differ e = cc

  -- so this process is none of them
  pub is_new : (a : ℕ) → Contains (descheduled m) a → a ≢ w
  is_new a inside e =
      not_free (below w 1)
      (subst (λ z. use_of s n (below z 1) ≡ Saved) e (used_one s n a (saved_of a inside))) first_free

  -- no output that is pending has a byte of the channel word
  pub unsent : amount_in (s (Sending n j)) ≡ pos 0
  unsent = ap amount_in (sym (asked.on.keeps.others (Sending n j) refl)) ∙ taken.unsent

  -- its own half was not taken
  pub own_empty : half_in (s (Half n channel (side_of o))) ≡ Nobody
  own_empty = ap half_in (sym (asked.on.keeps.others (Half n channel (side_of o)) refl)) ∙ taken.empty

  -- the other half is taken
  abbrev pub OtherTaken : Type 0
  OtherTaken =
      (q : Request) × (s (Half n channel (opposite (side_of o))) ≡ IsHalf (TakenBy q))
      × IsTakenHalf s n named k.node.machine channel (opposite (side_of o)) q

  -- a channel whose word is in use has the other half taken, or it is enabled
  pub other_held : use_of s n j ≡ Engaged → OtherTaken ⊎ ((y : Name) × (enabler_at s n channel ≡ Some y))
  other_held e = (let h = shown.channels.engaged j e in of h.0 h.1 h.2)
    where
      at_channel : (a : ℕ) → word_number a ≡ j → word_place_break (length store) a ≡ None → a ≡ channel
      at_channel a number there =
          let l : (place a ≡ 4 * word_number a) × (most_neg ≤ a) × (4 * word_number a + 4 ≤ k.plan.memory) =
          word_lies site running.whole a (subst (λ z. word_place_break z a ≡ None) same_size there) in
          omega (arith, number, l.0, l.1, lies.0, lies.1)

      of : (a : ℕ) → word_number a ≡ j → HasHolder s n named a
          → OtherTaken ⊎ ((y : Name) × (enabler_at s n channel ≡ Some y))
      of a number (inr (y, e)) =
          let same : a ≡ channel = at_channel a number (shown.choices.enabled a y e).placed in
          inr (y, ap (enabler_at s n) (sym same) ∙ e)
      of a number (inl (side, q, half)) =
          let t : IsTakenHalf s n named k.node.machine a side q = shown.channels.taken a side q half in
          let same : a ≡ channel = at_channel a number t.placed in
          let here : s (Half n channel side) ≡ IsHalf (TakenBy q) =
          subst (λ z. s (Half n z side) ≡ IsHalf (TakenBy q)) same half in
          let other : side ≡ opposite (side_of o) =
          other_side (side_of o) side (λ f. filled (sym own_empty ∙ ap (λ z. half_in (s (Half n channel z))) (sym f)
          ∙ ap half_in here)) in
          inl (
            q,
            subst (λ z. s (Half n channel z) ≡ IsHalf (TakenBy q)) other here,
            subst (λ z. IsTakenHalf s n named k.node.machine channel z q) other
                (subst (λ z. IsTakenHalf s n named k.node.machine z side q) same t),
          )
        where
          filled : {r : Request} → Nobody ≡ TakenBy r → ⊥
          filled e = cc

  -- a process that waits is none that a channel word may have at rest
  waits_above : (process : ℕ) (r : Reason) → reason_of m process ≡ Some r → process ≡ not_process → ⊥
  waits_above process r e f =
      let there : Contains (descheduled m) (workspace_of process) =
      waits_descheduled m process (subst (λ (z : Option Reason). is_some z ≡ true) (sym e) refl) in
      let l : LiesWord (length store) (word_below (workspace_of process) 3) =
      lies_below (length store) (workspace_of process) 3 k.steady.placed.claimed.size
      (All-contains (IsWorkspace (length store)) (descheduled m) (workspace_of process) k.steady.placed.claimed.saved
      there)
      (All-contains IsMachineWord (descheduled m) (workspace_of process) k.steady.placed.workspaces there)
      ((omega arith), (omega arith)) in
      let b : workspace_of process ≡ most_neg = omega (arith, f) in
      let up : most_neg ≤ word_below most_neg 3 = subst (λ z. most_neg ≤ word_below z 3) b l.above in
      omega (arith, up)

  -- a channel word that is enabled names a process
  pub enabled_above : (y : Name) → enabler_at s n channel ≡ Some y → word_at store channel ≡ not_process → ⊥
  enabled_above y g e = by (is_sent s n channel) refl
    where
      it : IsEnabled s n store channel y
      it = shown.choices.enabled channel y g

      by : (b : Bool) → is_sent s n channel ≡ b → ⊥
      by false f =
          let own = shown.choices.owner y channel it.home it.port in
          let there : HasChoice s n k.node.machine.control.links store y own.0 =
          shown.choices.choices y own.0 it.home own.1 in
          let l : (place (word_below own.0.wptr 3) ≡ 4 * word_number (word_below own.0.wptr 3))
          × (most_neg ≤ word_below own.0.wptr 3)
          × (4 * word_number (word_below own.0.wptr 3) + 4 ≤ k.plan.memory) =
          word_lies site running.whole (word_below own.0.wptr 3)
          (subst (λ z. word_place_break z (word_below own.0.wptr 3) ≡ None) same_size there.placed) in
          let below_is : (own.0.wptr + (2 ^ 32 - 12)) % 2 ^ 32 ≡ word_below own.0.wptr 3 = refl in
          omega (arith, there.small.0, sym (it.names f own.0 own.1) ∙ e, l.0, l.1, below_is)
      by true f = sent_by (half_in (s (Half n channel Output))) refl f
        where
          sent_by : (t : Holder) → half_in (s (Half n channel Output)) ≡ t → is_taken t ≡ true → ⊥
          sent_by (TakenBy q) i f =
              let t = shown.channels.taken channel Output q (half_is i) in
              waits_above t.process _ t.waits (sym t.channel_word ∙ e)
            where
              half_is : half_in (s (Half n channel Output)) ≡ TakenBy q
                  → s (Half n channel Output) ≡ IsHalf (TakenBy q)
              half_is i = (let o = shown.channels.halves channel Output in
                  o.1 ∙ ap IsHalf (sym (ap half_in o.1) ∙ i))
          sent_by Nobody i f = absurd (true≢false (sym f))
          sent_by (EnabledBy z) i f = absurd (true≢false (sym f))
          sent_by (AwaitedBy z) i f = absurd (true≢false (sym f))

  -- its word was free, or in use as a channel
  pub was_open : (use_of s n j ≡ Free) ⊎ (use_of s n j ≡ Engaged)
  was_open = by was_found
    where
      by : IsFound (word_of u n j) → (use_of s n j ≡ Free) ⊎ (use_of s n j ≡ Engaged)
      by (inl f) = inl (sym (used_before j) ∙ f.0)
      by (inr f) = inr (sym (used_before j) ∙ f)

  pub not_aside : is_set_aside (use_of s n j) ≡ false
  not_aside = by was_open
    where
      by : (use_of s n j ≡ Free) ⊎ (use_of s n j ≡ Engaged) → is_set_aside (use_of s n j) ≡ false
      by (inl e) = ap is_set_aside e
      by (inr e) = ap is_set_aside e

  pub not_received : use_of s n j ≡ Receiving → ⊥
  not_received e = by was_open
    where
      free_not : Free ≡ Receiving → ⊥
      free_not f = cc

      engaged_not : Engaged ≡ Receiving → ⊥
      engaged_not f = cc

      by : (use_of s n j ≡ Free) ⊎ (use_of s n j ≡ Engaged) → ⊥
      by (inl f) = free_not (sym f ∙ e)
      by (inr f) = engaged_not (sym f ∙ e)

  -- a channel word that names no process was free
  pub was_free : word_at store channel ≡ not_process → use_of s n j ≡ Free
  was_free e = by was_found
    where
      by : IsFound (word_of u n j) → use_of s n j ≡ Free
      by (inl f) = sym (used_before j) ∙ f.0
      by (inr f) = absurd (names_somebody (other_held (sym (used_before j) ∙ f)))
        where
          names_somebody : OtherTaken ⊎ ((y : Name) × (enabler_at s n channel ≡ Some y)) → ⊥
          names_somebody (inl t) = waits_above t.2.process _ t.2.waits (sym t.2.channel_word ∙ e)
          names_somebody (inr (y, g)) = enabled_above y g e

  -- and one that names a process was in use
  pub was_engaged : word_at store channel ≢ not_process → use_of s n j ≡ Engaged
  was_engaged differs = by was_found
    where
      known : (b : Bool) → are_known (word_of u n j).cells ≡ b
          → (if b then Some (from_le_bytes w32 (bytes_of (word_of u n j).cells)) else None) ≡ Some not_process
          → word_at store channel ≡ not_process
      known true e f =
          let at : most_neg + 4 * j ≡ channel = omega (arith, lies.0, lies.1) in
          sym (ap (word_at laid) at ∙ same_word)
          ∙ sym (word_known n k.plan.memory u laid j asked.on.tells lies.2 e) ∙ value f
        where
          value : {a b : ℕ} → Some a ≡ Some b → a ≡ b
          value e = cc
      known false e f = cc

      by : IsFound (word_of u n j) → use_of s n j ≡ Engaged
      by (inl f) = absurd (differs (known (are_known (word_of u n j).cells) refl f.1))
      by (inr f) = sym (used_before j) ∙ f
