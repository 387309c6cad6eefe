-- A jump at which a process yields is seen as the jump alone: the machine after it.
use Rattle.std.proofs.Common.{◌≡◌, ◌≢◌, ℕ, ◌+◌, ◌<◌, ◌≤◌, ◌/◌, ◌%◌, ◌^◌, refl, sym, ap, subst, ◌∙◌, ◌++◌, true, false}
use Rattle.std.proofs.Common.{true≢false, length, get_or, Contains, Ok, None, arith, ◌⊎◌, inl, inr}
use Rattle.std.specs.Int.{w32, to_le_bytes}
use Rattle.std.proofs.lemmas.Bool.{eqb-true, cases_lt}
use Rattle.std.proofs.lemmas.List.Elements.{All-contains, Contains-append_left, Contains-append_right}
use Rattle.tword.specs.Words.{most_neg, word_below}
use Rattle.tword.specs.Stores.{Store, place, word_at, with_word, as_cells, hiding}
use Rattle.tword.specs.Claims.{Claims, has_saved, is_input, saved_words}
use Rattle.tword.specs.Touches.{Writes, byte_span, word_break, deschedule_break}
use Rattle.tword.specs.Actions.{run, run_from}
use Rattle.tword.proofs.Giving.{gives_run}
use Rattle.tword.proofs.Hiding.{within_uncovered}
use Rattle.tword.proofs.Copying.{with_cells-below, with_cells-above}
use Rattle.tcode.specs.declared.instruction.Instruction.{Instruction}
use Rattle.tcode.specs.Decoding.{decode}
use Rattle.tcpu.specs.declared.registers.Next.TheVariants.{Jumped}
use Rattle.tcpu.specs.Outcomes.{Outcome}
use Rattle.tcpu.specs.Effects.{effect}
use Rattle.tproc.specs.declared.ran.Ran.TheVariants as ran
use Rattle.tproc.specs.Machine.{Control, Machine, claims_of, descheduled}
use Rattle.tproc.specs.Placement.{IsWord, AreWords, IsWorkspace}
use Rattle.tproc.specs.Steps.{step, after}
use Rattle.tproc.proofs.PlaceWords.{decode-word, effect-words, HasWord, Words}
use Rattle.tproc.proofs.WordsApart.{LiesWord, length-with_word, other_word, word_set}
use Rattle.tplan.specs.declared.plan.Plan.{Plan}
use Rattle.tnet.specs.Rendezvous.{Configuration}
use Rattle.treduction.specs.Plain.{rank}
use Rattle.tprocesses.specs.Places.{Name, WordAt, Sending}
use Rattle.tprocesses.specs.Values.{Value, Free, Saved, word_in, amount_in}
use Rattle.tprocesses.specs.Performing.{Performed}
use Rattle.tprocesses.specs.Touching.{Site, word_number, kept}
use Rattle.tprocesses.specs.Machine.{site_of}
use Rattle.tseen.specs.Words.{AreSavedWords}
use Rattle.tseen.specs.Steps.{IsCurrent, yields}
use Rattle.tseen.proofs.After.{State}
use Rattle.tseen.proofs.Spans.{word_placed}
use Rattle.tseen.proofs.Cells.{use_of}
use Rattle.tseen.proofs.Touched.{Permits}
use Rattle.tseen.proofs.Performed.{word_passes}
use Rattle.tseen.proofs.Finished.{HasMoved}
use Rattle.tseen.proofs.Running.{RunsThere}
use Rattle.tseen.proofs.Stepped.{shown_node, there, Executed, does, step_is, hidden_if, input_not_free}
use Rattle.tseen.proofs.Saving.{below, IsSaved}
use Rattle.tseen.proofs.Staying.{used_two}
use Rattle.tseen.proofs.Adding.{among}
use Rattle.tseen.proofs.Built.{lies_below}
use Rattle.tseen.proofs.Yields.{yielded, yielded_store, last, last_in, yield_runs}

-- a cell of another word than the one that is set
pub other_cell_stays : (store : Store) (a v i : ℕ) → LiesWord (length store) a → i / 4 ≢ word_number a
    → get_or (with_word store a v) i None ≡ get_or store i None
other_cell_stays store a v i l h = by (cases_lt i (place a)) (cases_lt i (place a + 4))
  where
    by : (i < place a) ⊎ (place a ≤ i) → (i < place a + 4) ⊎ (place a + 4 ≤ i)
        → get_or (with_word store a v) i None ≡ get_or store i None
    by (inl b) c = with_cells-below store a 4 (as_cells (to_le_bytes w32 v)) l.above l.within refl i b
    by (inr b) (inr c) = with_cells-above store a 4 (as_cells (to_le_bytes w32 v)) l.above l.within refl i c
    by (inr b) (inl c) = absurd (h (omega (arith, b, c, l.above, l.aligned)))

module _ (p : Plan) (c : Configuration) (s : State) (n : ℕ) (x : Name) (k : IsCurrent p c s n x) (i : Instruction)
    (decodes : run (decode k.node.machine.control.kind k.node.machine.control.registers.iptr) k.node.machine.store
    (claims_of k.node.machine.control) ≡ Ok (i, k.node.machine.store)) (pp : Performed Outcome) (t : State)
    (d : Executed p c s n x k i pp t) (jumps : d.next ≡ Jumped) (low : (there p c s n x k).level ≡ 1)
    (yields_now : yields k.node.machine.control ≡ true) (u v : State)
    (moved_on : HasMoved (site_of n k.plan) (there p c s n x k).context.wptr d.after.wptr t u)
    (saved : IsSaved (site_of n k.plan) (there p c s n x k).whole u v d.after.wptr kept) where
  abbrev m : Control
  m = k.node.machine.control

  abbrev store : Store
  store = k.node.machine.store

  abbrev claims : Claims
  claims = claims_of m

  abbrev site : Site
  site = site_of n k.plan

  abbrev running : RunsThere s n k.plan k.node x
  running = there p c s n x k

  abbrev w : ℕ
  w = d.after.wptr

  -- the registers after the jump are words
  pub words_after : AreWords d.after
  words_after =
      gives_run Words (effect m.kind i m.registers) store store claims (d.after, d.next) d.store' k.steady.placed.bytes
      (effect-words m.kind i m.registers
      (gives_run HasWord (decode m.kind m.registers.iptr) store store claims i store k.steady.placed.bytes
      (decode-word m.kind m.registers.iptr) decodes)
      k.steady.placed.words) (does p c s n x k i pp t d)

  pub aligned : w % 4 ≡ 0
  aligned = eqb-true _ _ words_after.aligned

  -- a word of the state before is as after the move
  pub word_before : (j : ℕ) → u (WordAt n j) ≡ t (WordAt n j)
  word_before j = moved_on.others (WordAt n j) refl

  pub free_at_first : (j : ℕ) → use_of u n j ≡ Free → use_of s n j ≡ Free
  free_at_first j e =
      sym (d.on.keeps.uses j) ∙ ap (λ (z : Value). (word_in z).used) (sym (word_before j)) ∙ e

  pub permits_now : Permits u n claims
  permits_now =
      record {
        reads = λ j e. running.permits.reads j (free_at_first j e);
        writes = λ j e z. running.permits.writes j (free_at_first j e)
            (sym (ap amount_in (moved_on.others (Sending n j) refl ∙ d.on.keeps.others (Sending n j) refl)) ∙ z);
      }

  pub passes : deschedule_break (length store) claims w ≡ None
  unfolding deschedule_break
  passes =
      let size : length store ≡ k.plan.memory = (shown_node p c s n x k).size in
      let one : word_break k.plan.memory claims Writes (word_below w 1) ≡ None =
      word_passes site running.whole claims u Writes (word_below w 1) permits_now saved.touched_one in
      let two : word_break k.plan.memory claims Writes (word_below w 2) ≡ None =
      word_passes site running.whole claims u Writes (word_below w 2) permits_now saved.touched_two in
      let three : word_break k.plan.memory claims Writes (word_below w 3) ≡ None =
      word_passes site running.whole claims u Writes (word_below w 3) permits_now saved.touched_three in
      rw (size, three, two) one

  pub in_low : (v : ℕ) → Contains m.low v → Contains (descheduled m) v
  in_low v h = Contains-append_left (m.high ++ m.low) _ v (Contains-append_right m.high m.low v h)

  pub saves : (v : ℕ) → Contains m.low v → has_saved claims v ≡ true
  saves v h = among (descheduled m) v (in_low v h)

  -- the process behind which it is put
  abbrev pub behind : ℕ
  behind = last i.length m d.after store d.store' claims aligned saves passes yields_now

  pub behind_there : Contains (descheduled m) behind
  behind_there = in_low behind (last_in i.length m d.after store d.store' claims aligned saves passes yields_now)

  -- the machine after the step
  abbrev pub made : Machine
  made = record { control = yielded m d.after; store = yielded_store d.store' d.after behind }

  pub stepped : step k.node.machine ≡ Ok (made, ran.Instruction)
  stepped =
      step_is p c s n x k i pp t d (yielded m d.after) (yielded_store d.store' d.after behind) decodes
      (subst (λ l. run_from (after i.length (rank l) m d.after d.next) store claims d.store'
      ≡ Ok ((yielded m d.after, ran.Instruction), yielded_store d.store' d.after behind)) (sym low)
      (subst (λ z. run_from (after i.length 1 m d.after z) store claims d.store'
      ≡ Ok ((yielded m d.after, ran.Instruction), yielded_store d.store' d.after behind)) (sym jumps)
      (yield_runs i.length m d.after store d.store' claims aligned saves passes yields_now)))

  -- the words that are set
  lies_own : LiesWord k.plan.memory (word_below w 1)
  lies_own =
      record {
        above = saved.touched_one.above;
        within = omega (arith, saved.touched_one.at, saved.touched_one.within);
        aligned = eqb-true _ _ (word_placed site.size (word_below w 1) saved.touched_one.placed).0;
      }

  lies_link : LiesWord k.plan.memory (word_below behind 2)
  lies_link =
      subst (λ z. LiesWord z (word_below behind 2)) (shown_node p c s n x k).size
      (lies_below (length store) behind 2 k.steady.placed.claimed.size
      (All-contains (IsWorkspace (length store)) (descheduled m) behind k.steady.placed.claimed.saved behind_there)
      (All-contains IsWord (descheduled m) behind k.steady.placed.workspaces behind_there)
      ((omega arith), (omega arith)))

  -- they differ, since one was free and the other saved
  pub saved_words_of : (v : ℕ) → Contains (descheduled m) v → AreSavedWords s n v
  saved_words_of v h = All-contains (AreSavedWords s n) (descheduled m) v (shown_node p c s n x k).marks.saved h

  pub not_free : (j : ℕ) → use_of s n j ≡ Saved → use_of s n j ≡ Free → ⊥
  not_free j e f = differ (sym e ∙ f)
    where
      differ : Saved ≡ Free → ⊥
      differ e = cc

  pub link_saved : use_of s n (word_number (word_below behind 2)) ≡ Saved
  link_saved = used_two s n behind (saved_words_of behind behind_there)

  pub own_free : use_of s n (below w 1) ≡ Free
  own_free = free_at_first (below w 1) saved.touched_one.touched.free

  apart_words : word_below behind 2 ≢ word_below w 1
  apart_words e =
      not_free (below w 1) (subst (λ a. use_of s n (word_number a) ≡ Saved) e link_saved) own_free

  size_first : length (with_word d.store' (word_below w 1) d.after.iptr) ≡ k.plan.memory
  size_first =
      length-with_word d.store' (word_below w 1) d.after.iptr 0 (subst (λ z. LiesWord z (word_below w 1))
      (sym d.on.tells.length) lies_own)
      ∙ d.on.tells.length

  pub size_after : length made.store ≡ k.plan.memory
  size_after =
      length-with_word (with_word d.store' (word_below w 1) d.after.iptr) (word_below behind 2) w 0
      (subst (λ z. LiesWord z (word_below behind 2)) (sym size_first) lies_link)
      ∙ size_first

  -- a cell of any other word
  pub cell_stays : (j : ℕ) → j / 4 ≢ below w 1 → j / 4 ≢ word_number (word_below behind 2)
      → get_or made.store j None ≡ get_or d.store' j None
  cell_stays j a b =
      other_cell_stays (with_word d.store' (word_below w 1) d.after.iptr) (word_below behind 2) w j
      (subst (λ z. LiesWord z (word_below behind 2)) (sym size_first) lies_link) b
      ∙ other_cell_stays d.store' (word_below w 1) d.after.iptr j
      (subst (λ z. LiesWord z (word_below w 1)) (sym d.on.tells.length) lies_own) a

  -- a word that is neither free nor saved
  pub word_stays_after : (a : ℕ) → LiesWord k.plan.memory a → (use_of s n (word_number a) ≡ Free → ⊥)
      → (use_of s n (word_number a) ≡ Saved → ⊥) → word_at made.store a ≡ word_at d.store' a
  word_stays_after a l f g =
      other_word (with_word d.store' (word_below w 1) d.after.iptr) (word_below behind 2) w a
      (subst (λ z. LiesWord z (word_below behind 2)) (sym size_first) lies_link)
      (subst (λ z. LiesWord z a) (sym size_first) l)
      (λ e. g (subst (λ b. use_of s n (word_number b) ≡ Saved) e link_saved))
      ∙ other_word d.store' (word_below w 1) d.after.iptr a
      (subst (λ z. LiesWord z (word_below w 1)) (sym d.on.tells.length) lies_own)
      (subst (λ z. LiesWord z a) (sym d.on.tells.length) l)
      (λ e. f (subst (λ b. use_of s n (word_number b) ≡ Free) e own_free))

  -- its saved Iptr
  pub iptr_there : word_at made.store (word_below w 1) ≡ d.after.iptr
  iptr_there =
      other_word (with_word d.store' (word_below w 1) d.after.iptr) (word_below behind 2) w (word_below w 1)
      (subst (λ z. LiesWord z (word_below behind 2)) (sym size_first) lies_link)
      (subst (λ z. LiesWord z (word_below w 1)) (sym size_first) lies_own) apart_words
      ∙ word_set d.store' (word_below w 1) d.after.iptr
      (subst (λ z. LiesWord z (word_below w 1)) (sym d.on.tells.length) lies_own) words_after.iptr

  -- pending inputs stay hidden
  pub hidden_still : hiding (λ a. is_input claims (byte_span a)) made.store ≡ made.store
  hidden_still =
      hidden_if m store made.store (λ j h.
      cell_stays j (λ e. input_not_free s n m j running.permits h (ap (use_of s n) e ∙ own_free))
      (λ e. not_saved j h e)
      ∙ d.on.only j (input_not_free s n m j running.permits h)) (ap (λ (z : Machine). z.store) k.steady.hides)
    where
      not_saved : (j : ℕ) → is_input claims (byte_span (most_neg + j)) ≡ true
          → j / 4 ≡ word_number (word_below behind 2) → ⊥
      not_saved j h e =
          let clear : is_input claims (saved_words behind) ≡ false =
          (k.steady.placed.apart.saved behind (saves_all behind behind_there)).0 in
          true≢false (sym h ∙ within_uncovered claims.inputs (saved_words behind) (most_neg + j)
          (omega (
            arith,
            e,
            lies_link.above,
            lies_link.aligned,
            lies_lowest.above,
            lies_lowest.within,
            small,
            k.steady.placed.claimed.size,
            same_size,
          ))
          (omega (
            arith,
            e,
            lies_link.above,
            lies_link.aligned,
            lies_lowest.above,
            lies_lowest.within,
            small,
            k.steady.placed.claimed.size,
            same_size,
          )) clear)
        where
          saves_all : (v : ℕ) → Contains (descheduled m) v → has_saved claims v ≡ true
          saves_all v h = among (descheduled m) v h

          same_size : length store ≡ k.plan.memory
          same_size = (shown_node p c s n x k).size

          small : behind < 2 ^ 32
          small = All-contains IsWord (descheduled m) behind k.steady.placed.workspaces behind_there

          lies_lowest : LiesWord (length store) (word_below behind 3)
          lies_lowest =
              lies_below (length store) behind 3 k.steady.placed.claimed.size
              (All-contains (IsWorkspace (length store)) (descheduled m) behind k.steady.placed.claimed.saved
              behind_there)
              small ((omega arith), (omega arith))
