-- `enbc` of the input of a link is seen.
use Rattle.std.proofs.Common.{◌≡◌, ◌≢◌, ℕ, ◌+◌, ◌/◌, ◌<◌, refl, sym, ap, subst, ◌∙◌, Bool, true, false, true≢false}
use Rattle.std.proofs.Common.{List}
use Rattle.std.proofs.Common.{length, Ok, arith, ◌⊎◌, inl, inr, Option, Some, None, get_or, pos, option_map}
use Rattle.std.specs.Prelude.{◌==◌, slice_index_or, slice_set, if◌then◌else◌}
use Rattle.std.proofs.lemmas.Bool.{cases_eq}
use Rattle.tword.specs.Words.{word_below}
use Rattle.tword.specs.Stores.{Store, word_at, with_word}
use Rattle.tword.specs.Actions.{run_from}
use Rattle.tword.specs.Touches.{Writes, word_break, word_place_break, is_aligned}
use Rattle.tcode.specs.declared.instruction.Operation.TheVariants.{Enbc}
use Rattle.tcpu.specs.Outcomes.{all_to}
use Rattle.tcpu.specs.declared.registers.Registers.{Registers}
use Rattle.tproc.specs.declared.channels.Side.TheVariants.{Input, Output}
use Rattle.tproc.specs.declared.ran.Ran.TheVariants as ran
use Rattle.tproc.specs.declared.waiter.LinkEnd.{LinkEnd}
use Rattle.tproc.specs.Channels.{enabling, ready, is_choosing}
use Rattle.tproc.specs.LinkChannels.{is_link, is_right_end, link_of, link_end, quiet_end, is_free}
use Rattle.tproc.specs.Machine.{Control, claims_of}
use Rattle.tproc.specs.Scheduler.{operation_step}
use Rattle.tproc.proofs.WordsApart.{LiesWord, word_set}
use Rattle.tplan.specs.declared.plan.Plan.{Plan}
use Rattle.tplan.specs.Wires.{end_at}
use Rattle.tnet.specs.Rendezvous.{Configuration}
use Rattle.treduction.specs.Plain.{rank}
use Rattle.tprocesses.specs.Places.{Place, Name, WordAt, Sending, Standing, Ports, Half, LinkHalf}
use Rattle.tprocesses.specs.Values.{Value, Free, Choosing, Choice, Context, Runs, Enabled}
use Rattle.tprocesses.specs.Values.{Fired, IsStand, IsLink, word_in, stand_in, ports_in, amount_in}
use Rattle.tprocesses.specs.Touching.{Site}
use Rattle.tprocesses.specs.Choosing.{drop_channel, has_port, with_port}
use Rattle.tprocesses.specs.Machine.{site_of, is_offered}
use Rattle.tseen.specs.Choices.{Alternative, alternative_of, alternative_at, enabler_on, enables, input_at}
use Rattle.tseen.specs.Choices.{input_channel}
use Rattle.tseen.specs.Choices.{descriptor_at, is_due, HasChoice, IsReady, IsUnready, unready_word}
use Rattle.tseen.specs.Shown.{ShowsNode}
use Rattle.tseen.specs.Steps.{IsCurrent, LeadsTo}
use Rattle.tseen.proofs.After.{State}
use Rattle.tseen.proofs.AtOperation.{IsAtOperation, registers_at, context_at, control_at}
use Rattle.tseen.proofs.Cells.{use_of, Tells}
use Rattle.tseen.proofs.ChannelFound.{same_rank}
use Rattle.tseen.proofs.ChoiceChanged.{due_where}
use Rattle.tseen.proofs.ChoicePlain.{IsChoiceWords, is_for_choice}
use Rattle.tseen.proofs.ChoiceShown.{gone_leads}
use Rattle.tseen.proofs.Choices.{alternative_with}
use Rattle.tseen.proofs.Finished.{is_stand_of}
use Rattle.tseen.proofs.LinkPort.{IsLinkPortChange, is_link_port_of, link_port_gone}
use Rattle.tseen.proofs.OwnChoice.{own, has, lies as state_lies, passes, no_other, other_word as other_state}
use Rattle.tseen.proofs.OwnLink.{names_input, claims_stay, input_free, set_there, set_other}
use Rattle.tseen.proofs.Ported.{with_has, has_with}
use Rattle.tseen.proofs.Running.{RunsThere}
use Rattle.tseen.proofs.Saving.{below}
use Rattle.tseen.proofs.SetUnknown.{set_unknown, tells_alike}
use Rattle.tseen.proofs.Stepped.{shown_node, there}
use Rattle.tseen.proofs.Written.{is_word_of}
use Rattle.tseen.proofs.Yielding.{other_cell_stays}

module _ (p : Plan) (c : Configuration) (s : State) (n : ℕ) (x : Name) (k : IsCurrent p c s n x) where
  abbrev m : Control
  m = k.node.machine.control

  abbrev store : Store
  store = k.node.machine.store

  abbrev running : RunsThere s n k.plan k.node x
  running = there p c s n x k

  abbrev shown : ShowsNode s n k.plan (k.shows.named n) (k.shows.sent n) k.node
  shown = shown_node p c s n x k

  abbrev site : Site
  site = site_of n k.plan

  abbrev w : ℕ
  w = m.registers.wptr

  abbrev address : ℕ
  address = word_below w 3

  abbrev channel : ℕ
  channel = m.registers.b

  abbrev pub l : ℕ
  l = link_of Input channel

  abbrev pub half : Place
  half = LinkHalf (end_at n l) Input

  -- the end of the link where the process is remembered
  abbrev noted : LinkEnd
  noted = record (link_end m l) { remembered = Some (w + rank running.level) }

  -- the links and the store afterwards, by whether a byte was noticed
  abbrev links_after : (noticed : Bool) → List LinkEnd
  links_after true = m.links
  links_after false = slice_set m.links l noted

  abbrev store_after : (noticed : Bool) → Store
  store_after true = with_word store address ready
  store_after false = store

  module _ (u : State) (a : IsAtOperation p c s n x k Enbc u) (choice : Choice)
      (is : running.context.choice ≡ Some choice) (clear : amount_in (u (Sending n (below w 3))) ≡ pos 0)
      (guard : (m.registers.a == 0) ≡ false) (link : is_link channel ≡ true) (aligned : is_aligned channel ≡ true)
      (right : is_right_end Input channel ≡ true) where
    abbrev after : Registers
    after = all_to m.registers.a (registers_at p c s n x k a.size)

    abbrev control : Control
    control = control_at p c s n x k Enbc a.size

    abbrev context : Context
    context = context_at p c s n x k a.size

    abbrev pub d : Context
    d = drop_channel context

    abbrev old : Alternative
    old = own p c s n x k choice is

    it : HasChoice s n m.links store x old
    it = has p c s n x k choice is

    small : l < 4
    small = (names_input channel link aligned right).0

    named_by : channel ≡ input_channel l
    named_by = (names_input channel link aligned right).1

    may_state : word_break (length store) (claims_of m) Writes address ≡ None
    may_state =
        passes p c s n x k choice is (sym (ap amount_in (a.on.keeps.others (Sending n (below w 3)) refl)) ∙ clear)

    abbrev Runs' : Bool → Type 0
    Runs' noticed =
        run_from (operation_step Enbc (rank running.level) control) store (claims_of m) store
        ≡ Ok (
          (
            record m { registers = after; count = control.count; links = links_after noticed },
            ran.Instruction,
          ),
          store_after noticed,
        )

    -- the state is one of an alternative that does not wait
    with_state : (b : Bool) → ((state : ℕ) → word_at store address ≡ state → is_choosing state ≡ true → Runs' b)
        → Runs' b
    with_state b h = of it.state
      where
        of : ((word_at store address ≡ ready) × IsReady s n m.links x choice.skips)
            ⊎ ((word_at store address ≡ unready_word false) × IsUnready s n m.links x choice.skips) → Runs' b
        of (inl (e, f)) = h ready e refl
        of (inr (e, f)) = h enabling e refl

    runs : is_free Input (link_end m l) m ≡ true → (b : Bool) → (link_end m l).noticed ≡ b → Runs' b
    unfolding operation_step
    runs free true e =
        with_state true (λ state f g. rw (may_state, f, g, guard, link, aligned, right, free, e) (rw may_state refl))
    runs free false e =
        with_state false (λ state f g. rw (may_state, f, g, guard, link, aligned, right, free, e) refl)

    -- the process has enabled the input of the link
    pub record IsEnabledNow (s' : State) : Type 0 where
      pub stands : s' (Standing x) ≡ IsStand (Runs d)
      pub words : (i : ℕ) → s' (WordAt n i) ≡ u (WordAt n i)
      pub others : (q : Place) → is_word_of n q ≡ false → is_stand_of x q ≡ false → is_link_port_of n x l q ≡ false
          → s' q ≡ s q
      pub enabled : s' half ≡ IsLink (Enabled x)
      pub ports : ports_in (s' (Ports x)) ≡ with_port channel (ports_in (s (Ports x)))
      pub before : (enabler_on s n l ≡ None) ⊎ (enabler_on s n l ≡ Some x)
      pub free : is_offered (input_at s n l) ≡ false

    module _ (s' : State) (g : IsEnabledNow s') where
      choosing_free : Choosing ≡ Free → ⊥
      choosing_free e = cc

      halves : (e : ℕ) → s' (Half n e Output) ≡ s (Half n e Output)
      halves e = g.others (Half n e Output) refl refl refl

      state_stays : s' (WordAt n (below w 3)) ≡ s (WordAt n (below w 3))
      state_stays = g.words (below w 3) ∙ a.on.keeps.kept (below w 3) (λ h. choosing_free (sym it.used ∙ h))

      alternative_now : alternative_at s' n x ≡ Some old
      alternative_now =
          ap (λ (v : Value). alternative_of (stand_in v)) g.stands ∙ alternative_with true false d choice is

      described_now : descriptor_at s' n x ≡ Some (w + rank running.level)
      described_now =
          ap (λ (v : Value). descriptor_of (alternative_of (stand_in v))) g.stands
          ∙ ap descriptor_of (alternative_with true false d choice is)
          ∙ ap (λ z. Some (w + z)) (running.registers.priority ∙ sym (same_rank running.level running.small))
        where
          descriptor_of : Option Alternative → Option ℕ
          descriptor_of o = option_map (λ (b : Alternative). b.wptr + b.priority) o

      port_now : enables s' n x channel ≡ true
      port_now = ap (has_port channel) g.ports ∙ has_with channel channel (ports_in (s (Ports x))) (inl refl)

      module _ (b : Bool) (noticed : (link_end m l).noticed ≡ b) where
        end_is : (b : Bool)
            → slice_index_or (links_after b) l quiet_end ≡ (if b then link_end m l else noted)
        end_is true = refl
        end_is false = set_there m l noted k.steady.placed.claimed.links small

        other_ends : (b : Bool) (j : ℕ) → (j ≡ l → ⊥) → slice_index_or (links_after b) j quiet_end ≡ link_end m j
        other_ends true j h = refl
        other_ends false j h = set_other m l noted j h

        same_end : {A : Type 0} (f : LinkEnd → A) → f noted ≡ f (link_end m l)
            → f (slice_index_or (links_after b) l quiet_end) ≡ f (link_end m l)
        same_end f e = ap f (end_is b) ∙ by b
          where
            by : (b : Bool) → f (if b then link_end m l else noted) ≡ f (link_end m l)
            by true = refl
            by false = e

        same_noticed : (j : ℕ) → (slice_index_or (links_after b) j quiet_end).noticed ≡ (link_end m j).noticed
        same_noticed j = by (cases_eq j l)
          where
            by : (j ≡ l) ⊎ (j ≡ l → ⊥)
                → (slice_index_or (links_after b) j quiet_end).noticed ≡ (link_end m j).noticed
            by (inl e) =
                subst (λ i. (slice_index_or (links_after b) i quiet_end).noticed ≡ (link_end m i).noticed) (sym e)
                (same_end (λ (z : LinkEnd). z.noticed) refl)
            by (inr h) = ap (λ (z : LinkEnd). z.noticed) (other_ends b j h)

        claims : claims_of (record m { links = links_after b }) ≡ claims_of m
        claims = by b
          where
            by : (b : Bool) → claims_of (record m { links = links_after b }) ≡ claims_of m
            by true = refl
            by false = claims_stay m l noted refl refl

        due_before : (e : ℕ) → is_due s' n (links_after b) e ≡ is_due s n m.links e
        due_before e = due_where s s' n m.links (links_after b) halves same_noticed e

        due_there : is_due s' n (links_after b) channel ≡ b
        due_there = rw link (same_noticed l ∙ noticed)

        tells : Tells s' n k.plan.memory (store_after b)
        tells = by b
          where
            by : (b : Bool) → Tells s' n k.plan.memory (store_after b)
            by true =
                set_unknown s' n k.plan.memory store address ready
                (tells_alike u s' n k.plan.memory store g.words a.on.tells)
                (subst (λ z. LiesWord z address) shown.size (state_lies p c s n x k choice is))
                (ap (λ (v : Value). (word_in v).cells) state_stays ∙ it.unseen)
            by false = tells_alike u s' n k.plan.memory store g.words a.on.tells

        other_cell : (i : ℕ) → i / 4 ≢ below w 3 → get_or (store_after b) i None ≡ get_or store i None
        other_cell i h = by b
          where
            by : (b : Bool) → get_or (store_after b) i None ≡ get_or store i None
            by true = other_cell_stays store address ready i (state_lies p c s n x k choice is) h
            by false = refl

        ready_then : (skips : Bool) → IsReady s n m.links x skips → IsReady s' n (links_after b) x skips
        ready_then skips (inl e) = inl e
        ready_then skips (inr (e, f, h)) =
            inr (
              e,
              ap (has_port e) g.ports ∙ has_with e channel (ports_in (s (Ports x))) (inr f),
              due_before e ∙ h,
            )

        unready_then : (skips : Bool) → b ≡ false → IsUnready s n m.links x skips
            → IsUnready s' n (links_after b) x skips
        unready_then skips silent (e, f) = (
          e,
          λ i h. of i (with_has i channel (ports_in (s (Ports x))) (sym (ap (has_port i) g.ports) ∙ h)),
        )
          where
            of : (i : ℕ) → (channel ≡ i) ⊎ (has_port i (ports_in (s (Ports x))) ≡ true)
                → is_due s' n (links_after b) i ≡ false
            of i (inl e) = ap (is_due s' n (links_after b)) (sym e) ∙ due_there ∙ silent
            of i (inr e) = due_before i ∙ f i e

        abbrev IsTold : Bool → Type 0
        IsTold t =
            ((word_at (store_after t) address ≡ ready) × IsReady s' n (links_after b) x choice.skips)
            ⊎ ((word_at (store_after t) address ≡ enabling) × IsUnready s' n (links_after b) x choice.skips)

        told : (t : Bool) → b ≡ t → IsTold t
        told true e =
            inl (
              word_set store address ready (state_lies p c s n x k choice is) (omega arith),
              inr (channel, port_now, due_there ∙ e),
            )
        told false e = of it.state
          where
            of : ((word_at store address ≡ ready) × IsReady s n m.links x choice.skips)
                ⊎ ((word_at store address ≡ unready_word false) × IsUnready s n m.links x choice.skips)
                → IsTold false
            of (inl (f, h)) = inl (f, ready_then choice.skips h)
            of (inr (f, h)) = inr (f, unready_then choice.skips e h)

        new_choice : HasChoice s' n (links_after b) (store_after b) x old
        new_choice =
            record {
              small = it.small;
              placed = subst (λ z. word_place_break z address ≡ None) (sym (tells.length ∙ sym shown.size)) it.placed;
              used = ap (λ (v : Value). (word_in v).used) state_stays ∙ it.used;
              unseen = ap (λ (v : Value). (word_in v).cells) state_stays ∙ it.unseen;
              unsent = ap amount_in (g.others (Sending n (below w 3)) refl refl refl) ∙ it.unsent;
              state = told b refl;
              unready = λ e. absurd (true≢false (sym e));
            }

        changes : IsChoiceWords p c s n x k s' (store_after b)
        changes =
            record {
              tells = tells;
              words = λ i. words i (is_for_choice (use_of s n i)) refl;
              only = λ i h. other_cell i (λ e. true≢false (sym (ap is_for_choice (ap (use_of s n) e ∙ it.used)) ∙ h));
              states = λ i e f. g.words i ∙ a.on.keeps.kept i (λ h. choosing_free (sym e ∙ h));
              state_cells = λ i e f. other_cell i f;
              own_word = other_state p c s n x k choice is;
            }
          where
            words : (i : ℕ) (t : Bool) → is_for_choice (use_of s n i) ≡ t → (s' (WordAt n i) ≡ s (WordAt n i))
                ⊎ ((is_for_choice (use_of s n i) ≡ true) × (is_for_choice (use_of s' n i) ≡ true))
            words i true f =
                inr (f, ap is_for_choice (ap (λ (v : Value). (word_in v).used) (g.words i) ∙ a.on.keeps.uses i) ∙ f)
            words i false f =
                inl (g.words i ∙ a.on.keeps.kept i (λ h. true≢false (sym (ap is_for_choice h) ∙ f)))

        remembered_now : b ≡ false → (slice_index_or (links_after b) l quiet_end).remembered
            ≡ Some (w + rank running.level)
        remembered_now e =
            ap (λ (z : LinkEnd). z.remembered) (end_is b)
            ∙ ap (λ (t : Bool). (if t then link_end m l else noted).remembered) e

        forgotten_now : b ≡ true → (slice_index_or (links_after b) l quiet_end).remembered ≡ None
        forgotten_now e =
            ap (λ (z : LinkEnd). z.remembered) (end_is b)
            ∙ ap (λ (t : Bool). (if t then link_end m l else noted).remembered) e
            ∙ (shown.links l small).forgotten (noticed ∙ e)

        back : (e : ℕ) → (input_channel l ≡ e → ⊥) → (channel ≡ e) ⊎ (has_port e (ports_in (s (Ports x))) ≡ true)
            → has_port e (ports_in (s (Ports x))) ≡ true
        back e h (inl f) = absurd (h (sym named_by ∙ f))
        back e h (inr f) = f

        change : IsLinkPortChange p c s n x k l s' after (links_after b) (store_after b) d
        change =
            record {
              changes = changes;
              stands = g.stands;
              knows = record {
                priority = running.registers.priority;
                wptr = refl;
                iptr = refl;
                a = running.registers.a;
                b = running.registers.c;
                c = running.registers.c;
                nothing_lent = running.registers.nothing_lent;
              };
              same_wptr = refl;
              same_error = refl;
              same_halting = refl;
              others = g.others;
              own_choice = λ i e. subst (HasChoice s' n (links_after b) (store_after b) x)
                  (one_is (sym alternative_now ∙ e)) new_choice;
              own_apart = λ y i f home e same i' h. no_other p c s n x k choice is y i f home e same;
              own_keeps = (old, alternative_now);
              small = small;
              before = g.before;
              free = g.free;
              pending = Enabled x;
              half = g.enabled;
              not_offered = refl;
              after_by = inr refl;
              other_ends = other_ends b;
              same_input = same_end (λ (z : LinkEnd). z.input) refl;
              same_output = same_end (λ (z : LinkEnd). z.output) refl;
              same_noticed = same_noticed l;
              same_claims = claims;
              remembered = λ e. remembered_now (sym noticed ∙ e) ∙ sym described_now;
              forgotten = λ e. forgotten_now (sym noticed ∙ e);
              fired = λ y e. absurd (not_fired e);
              ports_back = λ e h f. back e h (with_has e channel (ports_in (s (Ports x)))
                  (sym (ap (has_port e) g.ports) ∙ f));
              ports_on = λ e h f. ap (has_port e) g.ports ∙ has_with e channel (ports_in (s (Ports x))) (inr f);
              port_back = λ e. refl;
              port_there = λ e. ap (enables s' n x) (sym named_by) ∙ port_now;
            }
          where
            one_is : {i i' : Alternative} → Some i ≡ Some i' → i ≡ i'
            one_is e = cc

            not_fired : {y : Name} → Enabled x ≡ Fired y → ⊥
            not_fired e = cc

        pub enabled_leads : LeadsTo p c n s'
        enabled_leads =
            gone_leads p c s n x k s' after control.count (links_after b) (store_after b) d
            (link_port_gone p c s n x k l s' after control.count (links_after b) (store_after b) d change)
            (a.steps (record m { registers = after; count = control.count; links = links_after b }) (store_after b)
            (runs (input_free p c s n x k choice is l small g.before g.free) b noticed))
