-- A guard that is disabled without a look at a channel, as by `diss`, is seen.
use Rattle.tprocesses.specs.Places.{Sending}
use Rattle.tprocesses.specs.Values.{amount_in}
use Rattle.tcode.specs.declared.instruction.Operation.{Operation}
use Rattle.tprocesses.specs.Values.{IsWord}
use Rattle.tprocesses.specs.Changes.{Put, free_word}
use Rattle.tseen.proofs.ChoiceChanged.{due_same}
use Rattle.tseen.proofs.Written.{changed_there, changed_word, changed_else}
use Rattle.tseen.proofs.Stored.{permits_on}
use Rattle.tseen.proofs.Performed.{word_passes}
use Rattle.tproc.proofs.WordsApart.{other_word}
use Rattle.tseen.proofs.SetUnknown.{touched_lies, word_put}
use Rattle.tseen.proofs.Writing.{IsWordTouched}
use Rattle.tcpu.specs.Outcomes.{all_to, flag}
use Rattle.tseen.proofs.SkipsSeen.{known_then}
use Rattle.tseen.proofs.Selecting.{with_offset, is_chosen, selects_then}
use Rattle.tproc.proofs.WordsApart.{LiesWord}
use Rattle.treduction.specs.Plain.{rank}
use Rattle.std.proofs.Common.{◌≡◌, ◌≢◌, ℕ, ◌/◌, refl, sym, ap, subst, ◌∙◌, Bool, true, false}
use Rattle.std.proofs.Common.{true≢false, length, Ok, ◌⊎◌, inl, inr, Some, None, get_or, not}
use Rattle.std.specs.Prelude.{◌==◌, if◌then◌else◌}
use Rattle.std.proofs.lemmas.Bool.{cases_eq}
use Rattle.tword.specs.Words.{word_below}
use Rattle.tword.specs.Stores.{Store, word_at, with_word}
use Rattle.tword.specs.Actions.{run_from}
use Rattle.tword.specs.Touches.{Writes, word_break, word_place_break}
use Rattle.tcode.specs.declared.instruction.Operation.TheVariants.{Diss}
use Rattle.tcpu.specs.declared.registers.Registers.{Registers}
use Rattle.tproc.specs.declared.ran.Ran.TheVariants as ran
use Rattle.tproc.specs.Channels.{enabling, ready}
use Rattle.tproc.specs.Machine.{Control, claims_of}
use Rattle.tproc.specs.Scheduler.{operation_step}
use Rattle.tplan.specs.declared.plan.Plan.{Plan}
use Rattle.tnet.specs.Rendezvous.{Configuration}
use Rattle.tprocesses.specs.Places.{Place, Name, WordAt, Ports, Half}
use Rattle.tprocesses.specs.Values.{Value, Free, Choosing, Choice, Context, Runs, word_in, stand_in}
use Rattle.tprocesses.specs.Standing.{known}
use Rattle.tprocesses.specs.Touching.{Site, word_number}
use Rattle.tprocesses.specs.Choosing.{disables_skip, choice_of, answers}
use Rattle.tprocesses.specs.Machine.{site_of}
use Rattle.tproc.specs.declared.channels.Side.TheVariants.{Output}
use Rattle.tseen.specs.Alternatives.{IsSeenAtOnce}
use Rattle.tseen.specs.Choices.{enables, is_due, Alternative, alternative_of, alternative_at, HasChoice, IsReady}
use Rattle.tseen.specs.Choices.{IsUnready}
use Rattle.tseen.specs.Choices.{unready_word}
use Rattle.tseen.specs.Shown.{ShowsNode}
use Rattle.tseen.specs.Steps.{IsCurrent, LeadsTo}
use Rattle.tseen.proofs.After.{State, After, after_bind, after_step}
use Rattle.tseen.proofs.AtOperation.{IsAtOperation, registers_at, context_at, control_at, operation_then}
use Rattle.tseen.proofs.Cells.{use_of, Tells}
use Rattle.tseen.proofs.Choices.{alternative_with, ready_same, unready_same}
use Rattle.tseen.proofs.ChoicePlain.{IsPlainChoice, is_for_choice, plain_gone}
use Rattle.tseen.proofs.ChoiceShown.{gone_leads}
use Rattle.tseen.proofs.Finished.{is_stand_of, StandsNow}
use Rattle.tseen.proofs.OwnChoice.{choice_then, own, has, lies, no_other, other_word as other_word_than}
use Rattle.tseen.proofs.Running.{RunsThere}
use Rattle.tseen.proofs.Saving.{below}
use Rattle.tseen.proofs.SetUnknown.{tells_alike}
use Rattle.tseen.proofs.Stepped.{shown_node, there}
use Rattle.tseen.proofs.Written.{is_word_of}
use Rattle.tseen.proofs.Yielding.{other_cell_stays}

module _ (p : Plan) (c : Configuration) (s : State) (n : ℕ) (x : Name) (k : IsCurrent p c s n x) where
  abbrev m : Control
  m = k.node.machine.control

  abbrev store : Store
  store = k.node.machine.store

  abbrev running : RunsThere s n k.plan k.node x
  running = there p c s n x k

  abbrev shown : ShowsNode s n k.plan (k.shows.named n) (k.shows.sent n) k.node
  shown = shown_node p c s n x k

  abbrev site : Site
  site = site_of n k.plan

  abbrev w : ℕ
  w = m.registers.wptr

  abbrev address : ℕ
  address = word_below w 3

  module _ (u : State) (o : Operation) (a : IsAtOperation p c s n x k o u) (ready_now : Bool) (choice : Choice)
      (is : running.context.choice ≡ Some choice) (t : IsWordTouched site running.whole u Writes w) where
    abbrev chosen : Bool
    chosen = is_chosen ready_now store w

    abbrev context : Context
    context = context_at p c s n x k a.size

    abbrev pub after : Registers
    after = all_to (flag chosen) (registers_at p c s n x k a.size)

    abbrev pub count : ℕ
    count = (control_at p c s n x k o a.size).count

    abbrev d : Context
    d = answers chosen context

    abbrev offset : ℕ
    offset = m.registers.a

    abbrev pub last : Store
    last = if chosen then with_word store w offset else store

    abbrev old : Alternative
    old = own p c s n x k choice is

    it : HasChoice s n m.links store x old
    it = has p c s n x k choice is

    lies_own : LiesWord (length store) w
    lies_own = subst (λ z. LiesWord z w) (sym shown.size) (touched_lies site running.whole u Writes w t)

    was_free : use_of s n (word_number w) ≡ Free
    was_free = sym (a.on.keeps.uses (word_number w)) ∙ t.touched.free

    choosing_free : Choosing ≡ Free → ⊥
    choosing_free e = cc

    -- the word of the state is another one
    apart_word : (j : ℕ) → use_of s n j ≡ Choosing → word_number w ≡ j → ⊥
    apart_word j e f = choosing_free (sym e ∙ ap (use_of s n) (sym f) ∙ was_free)

    -- a cell of another word
    other_cell : (i : ℕ) → i / 4 ≢ word_number w → get_or last i None ≡ get_or store i None
    other_cell i h = by chosen
      where
        by : (b : Bool) → get_or (if b then with_word store w offset else store) i None ≡ get_or store i None
        by true = other_cell_stays store w offset i lies_own h
        by false = refl

    module _ (s' : State) (now : StandsNow site x (Runs d) (with_offset chosen n w offset u) s') where
      word_now : (j : ℕ) → (word_number w ≡ j → ⊥) → s' (WordAt n j) ≡ u (WordAt n j)
      word_now j h = now.others (WordAt n j) refl ∙ by chosen
        where
          by : (b : Bool) → with_offset b n w offset u (WordAt n j) ≡ u (WordAt n j)
          by true = changed_word n (word_number w) (Put (IsWord (free_word offset))) u j h
          by false = refl

      used_own : use_of s' n (word_number w) ≡ Free
      used_own = ap (λ (v : Value). (word_in v).used) (now.others (WordAt n (word_number w)) refl) ∙ by chosen
        where
          by : (b : Bool) → use_of (with_offset b n w offset u) n (word_number w) ≡ Free
          by true =
              ap (λ (v : Value). (word_in v).used)
              (changed_there n (word_number w) (Put (IsWord (free_word offset))) u)
          by false = t.touched.free

      other_place : (q : Place) → is_word_of n q ≡ false → is_stand_of x q ≡ false → s' q ≡ s q
      other_place q e f = now.others q f ∙ by chosen ∙ a.on.keeps.others q e
        where
          by : (b : Bool) → with_offset b n w offset u q ≡ u q
          by true = changed_else n (word_number w) (Put (IsWord (free_word offset))) u q e
          by false = refl

      state_stays : s' (WordAt n (below w 3)) ≡ s (WordAt n (below w 3))
      state_stays =
          word_now (below w 3) (apart_word (below w 3) it.used)
          ∙ a.on.keeps.kept (below w 3) (λ h. choosing_free (sym it.used ∙ h))

      tells_now : Tells s' n k.plan.memory last
      tells_now =
          tells_alike (with_offset chosen n w offset u) s' n k.plan.memory last (λ j. now.others (WordAt n j) refl)
          (by chosen)
        where
          by : (b : Bool)
              → Tells (with_offset b n w offset u) n k.plan.memory (if b then with_word store w offset else store)
          by true =
              word_put u n k.plan.memory store w offset Free a.on.tells
              (touched_lies site running.whole u Writes w t)
          by false = a.on.tells

      is_new : (b : Alternative) → alternative_at s' n x ≡ Some b → b ≡ old
      is_new b e =
          one_is (sym e ∙ ap (λ (v : Value). alternative_of (stand_in v)) now.is
          ∙ alternative_with true false d choice is)
        where
          one_is : {b b' : Alternative} → Some b ≡ Some b' → b ≡ b'
          one_is g = cc

      -- the state is as it was
      state_word_stays : word_at last address ≡ word_at store address
      state_word_stays = by chosen
        where
          by : (b : Bool) → word_at (if b then with_word store w offset else store) address ≡ word_at store address
          by true =
              other_word store w offset address lies_own (lies p c s n x k choice is)
              (λ e. apart_word (below w 3) it.used (ap word_number e))
          by false = refl

      told : ((word_at last address ≡ ready) × IsReady s' n m.links x choice.skips)
          ⊎ ((word_at last address ≡ enabling) × IsUnready s' n m.links x choice.skips)
      told = of it.state
        where
          ports : s' (Ports x) ≡ s (Ports x)
          ports = other_place (Ports x) refl refl

          halves : (e : ℕ) → s' (Half n e Output) ≡ s (Half n e Output)
          halves e = other_place (Half n e Output) refl refl

          due : (e : ℕ) → enables s n x e ≡ true → is_due s' n m.links e ≡ is_due s n m.links e
          due e g = due_same s s' n m.links halves e

          of : ((word_at store address ≡ ready) × IsReady s n m.links x choice.skips)
              ⊎ ((word_at store address ≡ unready_word false) × IsUnready s n m.links x choice.skips)
              → ((word_at last address ≡ ready) × IsReady s' n m.links x choice.skips)
              ⊎ ((word_at last address ≡ enabling) × IsUnready s' n m.links x choice.skips)
          of (inl (e, f)) = inl (state_word_stays ∙ e, ready_same s s' n m.links m.links x ports due choice.skips f)
          of (inr (e, f)) = inr (state_word_stays ∙ e, unready_same s s' n m.links m.links x ports due choice.skips f)

      new_choice : HasChoice s' n m.links last x old
      new_choice =
          record {
            small = it.small;
            placed = subst (λ z. word_place_break z address ≡ None) (sym (tells_now.length ∙ sym shown.size)) it.placed;
            used = ap (λ (v : Value). (word_in v).used) state_stays ∙ it.used;
            unseen = ap (λ (v : Value). (word_in v).cells) state_stays ∙ it.unseen;
            unsent = ap amount_in (other_place (Sending n (below w 3)) refl refl) ∙ it.unsent;
            state = told;
            unready = λ e. absurd (true≢false (sym e));
          }

      plain : IsPlainChoice p c s n x k s' after last d
      plain =
          record {
            tells = tells_now;
            stands = now.is;
            knows = record {
              priority = running.registers.priority;
              wptr = refl;
              iptr = refl;
              a = refl;
              b = running.registers.c;
              c = running.registers.c;
              nothing_lent = running.registers.nothing_lent;
            };
            same_wptr = refl;
            same_error = refl;
            same_halting = refl;
            others = other_place;
            words = λ j. words j (cases_eq (word_number w) j);
            only = λ i h. other_cell i (λ e. true≢false (sym (ap is_for_choice (ap (use_of s n) e ∙ was_free)) ∙ h));
            states = λ j e f. word_now j (apart_word j e) ∙ a.on.keeps.kept j (λ h. choosing_free (sym e ∙ h));
            state_cells = λ i e f. other_cell i (λ h. apart_word (i / 4) e (sym h));
            own_choice = λ b e. subst (HasChoice s' n m.links last x) (sym (is_new b e)) new_choice;
            own_apart = λ y b f home e same b' g. no_other p c s n x k choice is y b f home e same;
            own_word = other_word_than p c s n x k choice is;
            own_keeps = λ e h. (
              old,
              ap (λ (v : Value). alternative_of (stand_in v)) now.is ∙ alternative_with true false d choice is,
            );
          }
        where
          words : (j : ℕ) → (word_number w ≡ j) ⊎ (word_number w ≡ j → ⊥) → (s' (WordAt n j) ≡ s (WordAt n j))
              ⊎ ((is_for_choice (use_of s n j) ≡ true) × (is_for_choice (use_of s' n j) ≡ true))
          words j (inl e) =
              inr (subst (λ i. (is_for_choice (use_of s n i) ≡ true) × (is_for_choice (use_of s' n i) ≡ true)) e
              (ap is_for_choice was_free, ap is_for_choice used_own))
          words j (inr e) = by (is_for_choice (use_of s n j)) refl
            where
              by : (b : Bool) → is_for_choice (use_of s n j) ≡ b → (s' (WordAt n j) ≡ s (WordAt n j))
                  ⊎ ((is_for_choice (use_of s n j) ≡ true) × (is_for_choice (use_of s' n j) ≡ true))
              by true f =
                  inr (
                    f,
                    ap is_for_choice (ap (λ (v : Value). (word_in v).used) (word_now j e) ∙ a.on.keeps.uses j)
                        ∙ f,
                  )
              by false f =
                  inl (word_now j e ∙ a.on.keeps.kept j (λ h. true≢false (sym (ap is_for_choice h) ∙ f)))

      may : word_break (length store) (claims_of m) Writes w ≡ None
      may =
          subst (λ z. word_break z (claims_of m) Writes w ≡ None) (sym shown.size)
          (word_passes site running.whole (claims_of m) u Writes w
          (permits_on s u n (claims_of m) a.on.keeps running.permits) t)

      -- what the processor does leads there
      pub selecting_leads : (word_break (length store) (claims_of m) Writes w ≡ None
          → run_from (operation_step o (rank running.level) (control_at p c s n x k o a.size)) store (claims_of m) store
          ≡ Ok ((record m { registers = after; count = count }, ran.Instruction), last)) → LeadsTo p c n s'
      selecting_leads runs =
          gone_leads p c s n x k s' after count m.links last d (plain_gone p c s n x k s' after count last d plain)
          (a.steps (record m { registers = after; count = count }) last (runs may))

  -- `diss`
  abbrev guard : ℕ
  guard = m.registers.b

  runs : (u : State) (a : IsAtOperation p c s n x k Diss u) → IsWordTouched site running.whole u Writes w
      → word_break (length store) (claims_of m) Writes w ≡ None
      → run_from (operation_step Diss (rank running.level) (control_at p c s n x k Diss a.size)) store (claims_of m)
      store ≡ Ok (
        (
          record m {
            registers = all_to (flag (is_chosen (not (guard == 0)) store w)) (registers_at p c s n x k a.size);
            count = (control_at p c s n x k Diss a.size).count;
          },
          ran.Instruction,
        ),
        if is_chosen (not (guard == 0)) store w then with_word store w m.registers.a else store,
      )
  unfolding operation_step
  runs u a t may = by (is_chosen (not (guard == 0)) store w) refl
    where
      by : (b : Bool) → is_chosen (not (guard == 0)) store w ≡ b
          → run_from (operation_step Diss (rank running.level) (control_at p c s n x k Diss a.size)) store (claims_of m)
          store ≡ Ok (
            (
              record m {
                registers = all_to (flag (is_chosen (not (guard == 0)) store w)) (registers_at p c s n x k a.size);
                count = (control_at p c s n x k Diss a.size).count;
              },
              ran.Instruction,
            ),
            if is_chosen (not (guard == 0)) store w then with_word store w m.registers.a else store,
          )
      by true e = rw (may, e) (rw may refl)
      by false e = rw (may, e) refl

  diss_then : (u : State) (a : IsAtOperation p c s n x k Diss u)
      → After (disables_skip site x (context_at p c s n x k a.size)) u (λ _ z. LeadsTo p c n z)
  diss_then u a =
      after_bind (choice_of context.choice) _ u (λ _ z. LeadsTo p c n z)
      (choice_then context.choice u _ (λ choice is.
      after_bind (known context.b) _ u (λ _ z. LeadsTo p c n z) (known_then context.b guard u _ running.registers.b
      (selects_then p site running.whole x context u store a.on.tells m.registers.a running.registers.a
      (λ _ z. LeadsTo p c n z) (not (guard == 0)) (λ t s' now.
      selecting_leads u Diss a (not (guard == 0)) choice is t s' now (runs u a t))))))
    where
      context : Context
      context = context_at p c s n x k a.size

pub diss_is_seen : IsSeenAtOnce Diss
diss_is_seen p c s s' n x k next makes none =
    after_step p x s s' (λ _ z. LeadsTo p c n z) makes
    (operation_then p c s n x k Diss (λ _ z. LeadsTo p c n z) next (λ u a. diss_then p c s n x k u a))
