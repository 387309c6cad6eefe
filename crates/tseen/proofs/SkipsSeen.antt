-- `enbs` is seen.
use Rattle.tproc.specs.Channels.{is_choosing}
use Rattle.tproc.proofs.WordsApart.{LiesWord}
use Rattle.treduction.specs.Plain.{rank}
use Rattle.std.proofs.Common.{◌≡◌, ◌≢◌, ℕ, ◌/◌, refl, sym, ap, subst, ◌∙◌, Bool, true, false}
use Rattle.std.proofs.Common.{true≢false, length, Ok, arith, ◌⊎◌, inl, inr, Option, Some, None, get_or, not, ◌||◌, pos}
use Rattle.std.specs.Prelude.{◌==◌, if◌then◌else◌}
use Rattle.std.proofs.lemmas.Bool.{or_right}
use Rattle.tword.specs.Words.{word_below}
use Rattle.tword.specs.Stores.{Store, word_at, with_word}
use Rattle.tword.specs.Actions.{run_from}
use Rattle.tword.specs.Touches.{Writes, word_break, word_place_break}
use Rattle.tcode.specs.declared.instruction.Operation.TheVariants.{Enbs}
use Rattle.tcpu.specs.declared.registers.Registers.{Registers}
use Rattle.tproc.specs.declared.ran.Ran.TheVariants as ran
use Rattle.tproc.specs.Channels.{enabling, ready}
use Rattle.tproc.specs.Machine.{Control, claims_of}
use Rattle.tproc.specs.Scheduler.{operation_step}
use Rattle.tproc.proofs.WordsApart.{word_set}
use Rattle.tplan.specs.declared.plan.Plan.{Plan}
use Rattle.tnet.specs.Rendezvous.{Configuration}
use Rattle.tprocesses.specs.Places.{Name, WordAt, Sending, Ports, Half}
use Rattle.tprocesses.specs.Values.{Value, Free, Choosing, Choice, Context, Runs, word_in, stand_in, amount_in}
use Rattle.tprocesses.specs.Standing.{known}
use Rattle.tprocesses.specs.Touching.{Site}
use Rattle.tprocesses.specs.Choosing.{enables_skip, with_choice, under_way}
use Rattle.tprocesses.specs.Machine.{site_of}
use Rattle.tproc.specs.declared.channels.Side.TheVariants.{Output}
use Rattle.tseen.specs.Alternatives.{IsSeenAtOnce}
use Rattle.tseen.specs.Choices.{enables, is_due, Alternative, alternative_of, alternative_at, HasChoice, IsReady}
use Rattle.tseen.specs.Choices.{IsUnready}
use Rattle.tseen.specs.Choices.{unready_word}
use Rattle.tseen.specs.Known.{Knows}
use Rattle.tseen.specs.Shown.{ShowsNode}
use Rattle.tseen.specs.Steps.{IsCurrent, LeadsTo}
use Rattle.tseen.proofs.ChoiceChanged.{due_same}
use Rattle.tseen.proofs.After.{State, After, after_bind, after_step}
use Rattle.tseen.proofs.AtOperation.{IsAtOperation, registers_at, context_at, control_at, operation_then}
use Rattle.tseen.proofs.Cells.{use_of, Tells}
use Rattle.tseen.proofs.Choices.{ready_same, unready_same}
use Rattle.tseen.proofs.ChoicePlain.{IsPlainChoice, is_for_choice, plain_gone}
use Rattle.tseen.proofs.ChoiceShown.{gone_leads}
use Rattle.tseen.proofs.Finished.{StandsNow, stands_then}
use Rattle.tseen.proofs.OwnChoice.{under_way_then, own, has, lies, no_other, other_word, passes}
use Rattle.tseen.proofs.Running.{RunsThere}
use Rattle.tseen.proofs.Saving.{below}
use Rattle.tseen.proofs.SetUnknown.{set_unknown, tells_alike}
use Rattle.tseen.proofs.Stepped.{shown_node, there}
use Rattle.tseen.proofs.Yielding.{other_cell_stays}

-- a register that has to be known is
pub known_then : (o : Option ℕ) (value : ℕ) (u : State) (Q : ℕ → State → Type 0) → Knows o value → Q value u
    → After (known o) u Q
known_then None value u Q h q = tt
known_then (Some v) value u Q h q = subst (λ z. Q z u) (sym h) q

-- the state of an alternative after a guard without a channel
abbrev pub skipped : Store → (address guard : ℕ) → Store
skipped store address guard = if guard == 0 then store else with_word store address ready

module _ (p : Plan) (c : Configuration) (s : State) (n : ℕ) (x : Name) (k : IsCurrent p c s n x) where
  abbrev m : Control
  m = k.node.machine.control

  abbrev store : Store
  store = k.node.machine.store

  abbrev running : RunsThere s n k.plan k.node x
  running = there p c s n x k

  abbrev shown : ShowsNode s n k.plan (k.shows.named n) (k.shows.sent n) k.node
  shown = shown_node p c s n x k

  abbrev site : Site
  site = site_of n k.plan

  abbrev w : ℕ
  w = m.registers.wptr

  abbrev address : ℕ
  address = word_below w 3

  abbrev guard : ℕ
  guard = m.registers.a

  module _ (u : State) (a : IsAtOperation p c s n x k Enbs u) (choice : Choice)
      (is : running.context.choice ≡ Some choice) (used : use_of u n (below w 3) ≡ Choosing)
      (clear : amount_in (u (Sending n (below w 3))) ≡ pos 0) where
    abbrev context : Context
    context = context_at p c s n x k a.size

    abbrev after : Registers
    after = registers_at p c s n x k a.size

    abbrev count : ℕ
    count = (control_at p c s n x k Enbs a.size).count

    abbrev skips : Bool
    skips = choice.skips || not (guard == 0)

    abbrev d : Context
    d = with_choice skips context

    abbrev last : Store
    last = skipped store address guard

    abbrev new : Alternative
    new = record { skips = skips; wptr = w; priority = running.context.priority; runs = true; waits = false }

    it : HasChoice s n m.links store x (own p c s n x k choice is)
    it = has p c s n x k choice is

    -- a cell of another word
    other_cell : (i : ℕ) → i / 4 ≢ below w 3 → get_or last i None ≡ get_or store i None
    other_cell i h = by (guard == 0)
      where
        by : (b : Bool) → get_or (if b then store else with_word store address ready) i None ≡ get_or store i None
        by true = refl
        by false = other_cell_stays store address ready i (lies p c s n x k choice is) h

    module _ (s' : State) (now : StandsNow site x (Runs d) u s') where
      word_now : (j : ℕ) → s' (WordAt n j) ≡ u (WordAt n j)
      word_now j = now.others (WordAt n j) refl

      state_stays : u (WordAt n (below w 3)) ≡ s (WordAt n (below w 3))
      state_stays = a.on.keeps.kept (below w 3) (λ h. choosing_free (sym it.used ∙ h))
        where
          choosing_free : Choosing ≡ Free → ⊥
          choosing_free e = cc

      tells_now : Tells s' n k.plan.memory last
      tells_now = tells_alike u s' n k.plan.memory last word_now (by (guard == 0))
        where
          by : (b : Bool) → Tells u n k.plan.memory (if b then store else with_word store address ready)
          by true = a.on.tells
          by false =
              set_unknown u n k.plan.memory store address ready a.on.tells
              (subst (λ z. LiesWord z address) shown.size (lies p c s n x k choice is))
              (ap (λ (v : Value). (word_in v).cells) state_stays ∙ it.unseen)

      ports : s' (Ports x) ≡ s (Ports x)
      ports = now.others (Ports x) refl ∙ a.on.keeps.others (Ports x) refl

      halves : (e : ℕ) → s' (Half n e Output) ≡ s (Half n e Output)
      halves e = now.others (Half n e Output) refl ∙ a.on.keeps.others (Half n e Output) refl

      due : (e : ℕ) → enables s n x e ≡ true → is_due s' n m.links e ≡ is_due s n m.links e
      due e g = due_same s s' n m.links halves e

      is_new : (b : Alternative) → alternative_at s' n x ≡ Some b → b ≡ new
      is_new b e = one_is (sym e ∙ ap (λ (v : Value). alternative_of (stand_in v)) now.is)
        where
          one_is : {b b' : Alternative} → Some b ≡ Some b' → b ≡ b'
          one_is g = cc

      abbrev IsTold : Store → Bool → Type 0
      IsTold last skips =
          ((word_at last address ≡ ready) × IsReady s' n m.links x skips)
          ⊎ ((word_at last address ≡ enabling) × IsUnready s' n m.links x skips)

      told : IsTold last skips
      told = by (guard == 0)
        where
          old : IsTold store choice.skips
          old = of it.state
            where
              of : ((word_at store address ≡ ready) × IsReady s n m.links x choice.skips)
                  ⊎ ((word_at store address ≡ unready_word false) × IsUnready s n m.links x choice.skips)
                  → IsTold store choice.skips
              of (inl (e, f)) = inl (e, ready_same s s' n m.links m.links x ports due choice.skips f)
              of (inr (e, f)) = inr (e, unready_same s s' n m.links m.links x ports due choice.skips f)

          still : (b : Bool) → b ≡ (b || false)
          still true = refl
          still false = refl

          by : (b : Bool) → IsTold (if b then store else with_word store address ready) (choice.skips || not b)
          by true = subst (IsTold store) (still choice.skips) old
          by false =
              inl (
                word_set store address ready (lies p c s n x k choice is) (omega arith),
                inl (or_right choice.skips true refl),
              )

      new_choice : HasChoice s' n m.links last x new
      new_choice =
          record {
            small = it.small;
            placed = subst (λ z. word_place_break z address ≡ None) (sym (tells_now.length ∙ sym shown.size)) it.placed;
            used = ap (λ (v : Value). (word_in v).used) (word_now (below w 3) ∙ state_stays) ∙ it.used;
            unseen = ap (λ (v : Value). (word_in v).cells) (word_now (below w 3) ∙ state_stays) ∙ it.unseen;
            unsent = ap amount_in (now.others (Sending n (below w 3)) refl) ∙ clear;
            state = told;
            unready = λ e. absurd (true≢false (sym e));
          }

      plain : IsPlainChoice p c s n x k s' after last d
      plain =
          record {
            tells = tells_now;
            stands = now.is;
            knows = record {
              priority = running.registers.priority;
              wptr = refl;
              iptr = refl;
              a = running.registers.a;
              b = running.registers.b;
              c = running.registers.c;
              nothing_lent = running.registers.nothing_lent;
            };
            same_wptr = refl;
            same_error = refl;
            same_halting = refl;
            others = λ q e f. now.others q f ∙ a.on.keeps.others q e;
            words = λ j. words j (is_for_choice (use_of s n j)) refl;
            only = λ i h. other_cell i (λ e. true≢false (sym (ap is_for_choice (ap (use_of s n) e ∙ it.used)) ∙ h));
            states = λ j e f. word_now j ∙ a.on.keeps.kept j (λ h. choosing_free (sym e ∙ h));
            state_cells = λ i e f. other_cell i f;
            own_choice = λ b e. subst (HasChoice s' n m.links last x) (sym (is_new b e)) new_choice;
            own_apart = λ y b f home e same b' g. no_other p c s n x k choice is y b f home e same;
            own_word = other_word p c s n x k choice is;
            own_keeps = λ e h. (new, ap (λ (v : Value). alternative_of (stand_in v)) now.is);
          }
        where
          choosing_free : Choosing ≡ Free → ⊥
          choosing_free e = cc

          words : (j : ℕ) (b : Bool) → is_for_choice (use_of s n j) ≡ b → (s' (WordAt n j) ≡ s (WordAt n j))
              ⊎ ((is_for_choice (use_of s n j) ≡ true) × (is_for_choice (use_of s' n j) ≡ true))
          words j true f =
              inr (f, ap is_for_choice (ap (λ (v : Value). (word_in v).used) (word_now j) ∙ a.on.keeps.uses j) ∙ f)
          words j false f =
              inl (word_now j ∙ a.on.keeps.kept j (λ h. true≢false (sym (ap is_for_choice h) ∙ f)))

      may : word_break (length store) (claims_of m) Writes address ≡ None
      may =
          passes p c s n x k choice is
          (ap amount_in (sym (a.on.keeps.others (Sending n (below w 3)) refl)) ∙ clear)

      runs : run_from (operation_step Enbs (rank running.level) (control_at p c s n x k Enbs a.size)) store
          (claims_of m) store ≡ Ok ((record m { registers = after; count = count }, ran.Instruction), last)
      unfolding operation_step
      runs = by it.state
        where
          of : (state : ℕ) → word_at store address ≡ state → is_choosing state ≡ true
              → run_from (operation_step Enbs (rank running.level) (control_at p c s n x k Enbs a.size)) store
              (claims_of m) store ≡ Ok ((record m { registers = after; count = count }, ran.Instruction), last)
          of state e f = at (guard == 0) refl
            where
              at : (b : Bool) → (guard == 0) ≡ b
                  → run_from (operation_step Enbs (rank running.level) (control_at p c s n x k Enbs a.size)) store
                  (claims_of m) store ≡ Ok ((record m { registers = after; count = count }, ran.Instruction), last)
              at true g = rw (may, e, f, g) refl
              at false g = rw (may, e, f, g) (rw may refl)

          by : ((word_at store address ≡ ready) × IsReady s n m.links x choice.skips)
              ⊎ ((word_at store address ≡ unready_word false) × IsUnready s n m.links x choice.skips)
              → run_from (operation_step Enbs (rank running.level) (control_at p c s n x k Enbs a.size)) store
              (claims_of m) store ≡ Ok ((record m { registers = after; count = count }, ran.Instruction), last)
          by (inl (e, f)) = of ready e refl
          by (inr (e, f)) = of enabling e refl

      skip_leads : LeadsTo p c n s'
      skip_leads =
          gone_leads p c s n x k s' after count m.links last d (plain_gone p c s n x k s' after count last d plain)
          (a.steps (record m { registers = after; count = count }) last runs)

  skip_then : (u : State) (a : IsAtOperation p c s n x k Enbs u)
      → After (enables_skip site x (context_at p c s n x k a.size)) u (λ _ z. LeadsTo p c n z)
  skip_then u a =
      after_bind (under_way site context) _ u (λ _ z. LeadsTo p c n z)
      (under_way_then site context u _ (λ choice is used clear.
      after_bind (known context.a) _ u (λ _ z. LeadsTo p c n z) (known_then context.a guard u _ running.registers.a
      (stands_then site p x (Runs (with_choice (choice.skips || not (guard == 0)) context)) u
      (λ _ z. LeadsTo p c n z) (λ s' now. skip_leads u a choice is used clear s' now)))))
    where
      context : Context
      context = context_at p c s n x k a.size

pub skips_are_seen : IsSeenAtOnce Enbs
skips_are_seen p c s s' n x k next makes none =
    after_step p x s s' (λ _ z. LeadsTo p c n z) makes
    (operation_then p c s n x k Enbs (λ _ z. LeadsTo p c n z) next (λ u a. skip_then p c s n x k u a))
