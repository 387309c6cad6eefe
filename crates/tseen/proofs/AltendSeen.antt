-- `altend` is seen.
use Rattle.tseen.proofs.Writing.{touch_word_at_then}
use Rattle.tprocesses.specs.Touching.{touch_word_at}
use Rattle.tseen.proofs.After.{after_require, changed}
use Rattle.std.specs.Int.{w32, from_le_bytes}
use Rattle.std.proofs.Common.{List, [], ◌∷◌}
use Rattle.tprocesses.specs.Values.{ports_in}
use Rattle.tword.specs.Words.{plus, most_neg}
use Rattle.tseen.proofs.Stored.{word_known}
use Rattle.tseen.proofs.AltSeen.{tells_unknown}
use Rattle.tprocesses.specs.Changes.{used_word, known_word, are_known}
use Rattle.tword.specs.Stores.{shown as shown_cells}
use Rattle.tprocesses.specs.Values.{IsWord}
use Rattle.tprocesses.specs.Changes.{Put}
use Rattle.tseen.proofs.Written.{changed_there, changed_word, changed_else}
use Rattle.tseen.proofs.Stored.{permits_on}
use Rattle.tseen.proofs.Performed.{word_passes}
use Rattle.tseen.proofs.Writing.{IsWordTouched}
use Rattle.treduction.specs.Plain.{rank}
use Rattle.std.proofs.Common.{◌≡◌, ℕ, ◌+◌, ◌*◌, refl, sym, ap, subst, ◌∙◌, Bool, true, false}
use Rattle.std.proofs.Common.{true≢false, length, Ok, arith, ◌⊎◌, inl, inr, Some, None}
use Rattle.std.specs.Prelude.{if◌then◌else◌}
use Rattle.std.proofs.lemmas.Bool.{cases_eq}
use Rattle.tword.specs.Words.{word_below}
use Rattle.tword.specs.Stores.{Store, word_at}
use Rattle.tword.specs.Actions.{run_from}
use Rattle.tword.specs.Touches.{Reads, word_break}
use Rattle.tcode.specs.declared.instruction.Operation.TheVariants.{Altend}
use Rattle.tcpu.specs.declared.registers.Registers.{Registers}
use Rattle.tproc.specs.declared.ran.Ran.TheVariants as ran
use Rattle.tproc.specs.Machine.{Control, claims_of}
use Rattle.tproc.specs.Scheduler.{operation_step}
use Rattle.tplan.specs.declared.plan.Plan.{Plan}
use Rattle.tnet.specs.Rendezvous.{Configuration}
use Rattle.tprocesses.specs.Places.{Name, WordAt, Ports}
use Rattle.tprocesses.specs.Values.{Value, Free, Choosing, Choice, Context, Runs, word_in, stand_in}
use Rattle.tprocesses.specs.Parts.{require, WordInUse}
use Rattle.tprocesses.specs.Standing.{known}
use Rattle.tprocesses.specs.Touching.{Site, word_number}
use Rattle.tprocesses.specs.Choosing.{ends_choice, under_way, has_none, has_port}
use Rattle.tprocesses.specs.Machine.{site_of}
use Rattle.tseen.specs.Alternatives.{IsSeenAtOnce}
use Rattle.tseen.specs.Choices.{Alternative, alternative_of, alternative_at, enables, HasChoice}
use Rattle.tseen.specs.Shown.{ShowsNode}
use Rattle.tseen.specs.Steps.{IsCurrent, LeadsTo}
use Rattle.tseen.proofs.After.{State, After, after_bind, after_step}
use Rattle.tseen.proofs.AtOperation.{IsAtOperation, registers_at, context_at, control_at, operation_then}
use Rattle.tseen.proofs.Cells.{word_of, use_of, Tells}
use Rattle.tseen.proofs.ChoicePlain.{IsPlainChoice, is_for_choice, plain_gone}
use Rattle.tseen.proofs.ChoiceShown.{gone_leads}
use Rattle.tseen.proofs.Finished.{StandsNow, stands_then}
use Rattle.tseen.proofs.OwnChoice.{under_way_then, own, has, other_word as other_word_than}
use Rattle.tseen.proofs.Running.{RunsThere}
use Rattle.tseen.proofs.Saving.{below}
use Rattle.tseen.proofs.SetUnknown.{tells_alike}
use Rattle.tseen.proofs.Stepped.{shown_node, there}

module _ (p : Plan) (c : Configuration) (s : State) (n : ℕ) (x : Name) (k : IsCurrent p c s n x) where
  abbrev m : Control
  m = k.node.machine.control

  abbrev store : Store
  store = k.node.machine.store

  abbrev running : RunsThere s n k.plan k.node x
  running = there p c s n x k

  abbrev shown : ShowsNode s n k.plan (k.shows.named n) (k.shows.sent n) k.node
  shown = shown_node p c s n x k

  abbrev site : Site
  site = site_of n k.plan

  abbrev w : ℕ
  w = m.registers.wptr

  abbrev address : ℕ
  address = word_below w 3

  abbrev offset : ℕ
  offset = word_at store w

  module _ (u : State) (a : IsAtOperation p c s n x k Altend u) (choice : Choice)
      (is : running.context.choice ≡ Some choice) (free : has_none (ports_in (u (Ports x))) ≡ true)
      (t : IsWordTouched site running.whole u Reads w) where
    abbrev context : Context
    context = context_at p c s n x k a.size

    abbrev before : Registers
    before = registers_at p c s n x k a.size

    abbrev after : Registers
    after = record before { iptr = plus before.iptr offset }

    abbrev count : ℕ
    count = (control_at p c s n x k Altend a.size).count

    abbrev d : Context
    d = record context { iptr = plus context.iptr offset; choice = None }

    it : HasChoice s n m.links store x (own p c s n x k choice is)
    it = has p c s n x k choice is

    abbrev put : State
    put = changed (WordAt n (below w 3)) (Put (IsWord (used_word Free))) u

    module _ (s' : State) (now : StandsNow site x (Runs d) put s') where
      word_now : (j : ℕ) → (below w 3 ≡ j → ⊥) → s' (WordAt n j) ≡ u (WordAt n j)
      word_now j h =
          now.others (WordAt n j) refl ∙ changed_word n (below w 3) (Put (IsWord (used_word Free))) u j h

      used_own : use_of s' n (below w 3) ≡ Free
      used_own =
          ap (λ (v : Value). (word_in v).used) (now.others (WordAt n (below w 3)) refl
          ∙ changed_there n (below w 3) (Put (IsWord (used_word Free))) u)

      tells_now : Tells s' n k.plan.memory store
      tells_now =
          tells_alike put s' n k.plan.memory store (λ j. now.others (WordAt n j) refl)
          (tells_unknown u n (below w 3) k.plan.memory store Free a.on.tells)

      none_now : (b : Alternative) → alternative_at s' n x ≡ Some b → ⊥
      none_now b e = none_some (sym (ap (λ (v : Value). alternative_of (stand_in v)) now.is) ∙ e)
        where
          none_some : None ≡ Some b → ⊥
          none_some g = cc

      no_port : (e : ℕ) → enables s n x e ≡ true → ⊥
      no_port e h = by (ports_in (u (Ports x))) refl free
        where
          by : (l : List ℕ) → ports_in (u (Ports x)) ≡ l → has_none l ≡ true → ⊥
          by [] f g =
              true≢false (sym h ∙ ap (λ (v : Value). has_port e (ports_in v)) (sym (a.on.keeps.others (Ports x) refl))
              ∙ ap (has_port e) f)
          by (i ∷ is) f g = true≢false (sym g)

      choosing_free : Choosing ≡ Free → ⊥
      choosing_free e = cc

      plain : IsPlainChoice p c s n x k s' after store d
      plain =
          record {
            tells = tells_now;
            stands = now.is;
            knows = record {
              priority = running.registers.priority;
              wptr = refl;
              iptr = refl;
              a = running.registers.a;
              b = running.registers.b;
              c = running.registers.c;
              nothing_lent = running.registers.nothing_lent;
            };
            same_wptr = refl;
            same_error = refl;
            same_halting = refl;
            others = λ q e f. now.others q f
                ∙ changed_else n (below w 3) (Put (IsWord (used_word Free))) u q e ∙ a.on.keeps.others q e;
            words = λ j. words j (cases_eq (below w 3) j);
            only = λ i h. refl;
            states = λ j e f. word_now j (λ h. f (sym h)) ∙ a.on.keeps.kept j (λ h. choosing_free (sym e ∙ h));
            state_cells = λ i e f. refl;
            own_choice = λ b e. absurd (none_now b e);
            own_apart = λ y b f home e same b' g. none_now b' g;
            own_word = other_word_than p c s n x k choice is;
            own_keeps = λ e h. absurd (no_port e h);
          }
        where
          words : (j : ℕ) → (below w 3 ≡ j) ⊎ (below w 3 ≡ j → ⊥) → (s' (WordAt n j) ≡ s (WordAt n j))
              ⊎ ((is_for_choice (use_of s n j) ≡ true) × (is_for_choice (use_of s' n j) ≡ true))
          words j (inl e) =
              inr (subst (λ i. (is_for_choice (use_of s n i) ≡ true) × (is_for_choice (use_of s' n i) ≡ true)) e
              (ap is_for_choice it.used, ap is_for_choice used_own))
          words j (inr e) = by (is_for_choice (use_of s n j)) refl
            where
              by : (b : Bool) → is_for_choice (use_of s n j) ≡ b → (s' (WordAt n j) ≡ s (WordAt n j))
                  ⊎ ((is_for_choice (use_of s n j) ≡ true) × (is_for_choice (use_of s' n j) ≡ true))
              by true f =
                  inr (
                    f,
                    ap is_for_choice (ap (λ (v : Value). (word_in v).used) (word_now j e) ∙ a.on.keeps.uses j)
                        ∙ f,
                  )
              by false f =
                  inl (word_now j e ∙ a.on.keeps.kept j (λ h. true≢false (sym (ap is_for_choice h) ∙ f)))

      may : word_break (length store) (claims_of m) Reads w ≡ None
      may =
          subst (λ z. word_break z (claims_of m) Reads w ≡ None) (sym shown.size)
          (word_passes site running.whole (claims_of m) u Reads w
          (permits_on s u n (claims_of m) a.on.keeps running.permits) t)

      runs : run_from (operation_step Altend (rank running.level) (control_at p c s n x k Altend a.size)) store
          (claims_of m) store ≡ Ok ((record m { registers = after; count = count }, ran.Instruction), store)
      unfolding operation_step
      runs = rw may refl

      altend_leads : LeadsTo p c n s'
      altend_leads =
          gone_leads p c s n x k s' after count m.links store d (plain_gone p c s n x k s' after count store d plain)
          (a.steps (record m { registers = after; count = count }) store runs)

  altend_then : (u : State) (a : IsAtOperation p c s n x k Altend u)
      → After (ends_choice site x (context_at p c s n x k a.size)) u (λ _ z. LeadsTo p c n z)
  altend_then u a =
      after_bind (under_way site context) _ u L
      (under_way_then site context u _ (λ choice is used clear.
      after_bind (require (has_none (ports_in (u (Ports x)))) WordInUse) _ u L
      (after_require (has_none (ports_in (u (Ports x)))) WordInUse u _ (λ free.
      after_bind (touch_word_at site Reads w) _ u L (touch_word_at_then site running.whole Reads w u _ (λ t.
      after_bind (known (known_word (word_of u n (word_number w)).cells)) _ u L
      (offset_then t _ (stands_then site p x (Runs (record context { iptr = plus context.iptr offset; choice = None }))
      (changed (WordAt n (below w 3)) (Put (IsWord (used_word Free))) u) L (λ s' now.
      altend_leads u a choice is free t s' now)))))))))
    where
      context : Context
      context = context_at p c s n x k a.size

      L : Unit {0} → State → Type 0
      L _ z = LeadsTo p c n z

      offset_then : IsWordTouched site running.whole u Reads w → (R : ℕ → State → Type 0) → R offset u
          → After (known (known_word (word_of u n (word_number w)).cells)) u R
      offset_then t R h = by (are_known (word_of u n (word_number w)).cells) refl
        where
          at : most_neg + 4 * word_number w ≡ w
          at = omega (arith, t.at, t.above)

          by : (b : Bool) → are_known (word_of u n (word_number w)).cells ≡ b
              → After (known (if b then Some (from_le_bytes w32 (shown_cells (word_of u n (word_number w)).cells))
              else None)) u R
          by false e = tt
          by true e =
              subst (λ v. R v u) (sym (word_known n site.size u store (word_number w) a.on.tells t.within e
              ∙ ap (word_at store) at)) h

pub altend_is_seen : IsSeenAtOnce Altend
altend_is_seen p c s s' n x k next makes none =
    after_step p x s s' (λ _ z. LeadsTo p c n z) makes
    (operation_then p c s n x k Altend (λ _ z. LeadsTo p c n z) next (λ u a. altend_then p c s n x k u a))
