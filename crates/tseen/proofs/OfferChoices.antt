-- A process sends on a channel that an alternative has enabled: the alternatives of the node after that.
use Rattle.tseen.specs.Choices.{enabler, is_due, input_at, HasEnabled, link_enabler, enabler_on, IsEnabledLink}
use Rattle.std.proofs.Common.{◌≡◌, ◌≢◌, ℕ, ◌+◌, ◌*◌, ◌≤◌, ◌<◌, ◌^◌}
use Rattle.std.proofs.Common.{refl, sym, ap, subst, ◌∙◌, Bool, true, false, true≢false}
use Rattle.std.proofs.Common.{length, Some, None, arith, ◌⊎◌, inl, inr}
use Rattle.std.proofs.lemmas.Bool.{eqb-true, cases_eq}
use Rattle.tword.specs.Words.{most_neg, word_below}
use Rattle.tword.specs.Stores.{Store, place, word_at}
use Rattle.tword.specs.Touches.{word_place_break}
use Rattle.tproc.specs.declared.channels.Side.TheVariants.{Input, Output}
use Rattle.tproc.specs.Channels.{ready}
use Rattle.tproc.proofs.WordsApart.{LiesWord}
use Rattle.tplan.specs.declared.plan.Plan.{Plan}
use Rattle.tnet.specs.Rendezvous.{Configuration}
use Rattle.tprocesses.specs.Places.{Name, WordAt, Sending, Standing, Ports, Half, same_name, LinkHalf}
use Rattle.tprocesses.specs.Values.{Value, Free, Engaged, word_in, stand_in, half_in, amount_in, ports_in, link_in}
use Rattle.tprocesses.specs.Choosing.{has_port, is_taken}
use Rattle.tprocesses.specs.Touching.{Site, word_number}
use Rattle.tprocesses.specs.Machine.{site_of}
use Rattle.tseen.specs.Words.{use_at}
use Rattle.tseen.specs.Choices.{Alternative, alternative_of, alternative_at, is_quiet, enabler_at, enables, is_sent}
use Rattle.tseen.specs.Choices.{HasChoice, IsEnabled, ShowsChoices, state_use, input_channel}
use Rattle.tseen.specs.Shown.{ShowsNode}
use Rattle.tseen.specs.Steps.{IsCurrent}
use Rattle.tseen.proofs.After.{State}
use Rattle.tseen.proofs.Cells.{use_of}
use Rattle.tseen.proofs.ChoiceChanged.{IsChanged, choices_changed, one_workspace}
use Rattle.tseen.proofs.Choices.{is_lasting, lasting_not_free, is_state, state_lasts, state_use_is}
use Rattle.tseen.proofs.Enabler.{theirs, theirs_is, number, has, it, address, state_not_free, not_channel}
use Rattle.tseen.proofs.Finished.{one_name, place_itself}
use Rattle.tseen.proofs.Running.{RunsThere}
use Rattle.tseen.proofs.Saving.{below}
use Rattle.tseen.proofs.Spans.{word_placed}
use Rattle.tseen.proofs.Stepped.{shown_node, there}
use Rattle.tseen.proofs.Taken.{HasTaken}
use Rattle.tseen.proofs.TakenWords.{alternative_before, lies_here}
use Rattle.tseen.proofs.Writing.{word_lies}
use Rattle.tplan.specs.Wires.{end_at}
use Rattle.tproc.specs.Machine.{Control}

module _ (p : Plan) (c : Configuration) (s : State) (n : ℕ) (x : Name) (k : IsCurrent p c s n x) (v : State)
    (h : HasTaken p c s n x k v) (y : Name) (enabled : enabler_at s n k.node.machine.control.registers.b ≡ Some y) where
  abbrev m : Control
  m = k.node.machine.control

  abbrev store : Store
  store = k.node.machine.store

  abbrev site : Site
  site = site_of n k.plan

  abbrev running : RunsThere s n k.plan k.node x
  running = there p c s n x k

  abbrev shown : ShowsNode s n k.plan (k.shows.named n) (k.shows.sent n) k.node
  shown = shown_node p c s n x k

  abbrev channel : ℕ
  channel = k.node.machine.control.registers.b

  abbrev old : Alternative
  old = theirs p c s n x k v h y enabled

  abbrev had : HasChoice s n m.links store y old
  had = has p c s n x k v h y enabled

  abbrev state : ℕ
  state = address p c s n x k v h y enabled

  -- the message is sent, and the alternative of the process that has enabled the channel does not wait
  pub record HasSent (t : State) (last : Store) (now : Alternative) : Type 0 where
    pub own_none : alternative_at t n x ≡ None
    pub own_quiet : is_quiet (stand_in (t (Standing x))) ≡ true
    pub stands : (z : Name) → same_name x z ≡ false → same_name y z ≡ false → t (Standing z) ≡ s (Standing z)
    pub ports : (z : Name) → t (Ports z) ≡ s (Ports z)
    pub inputs : (d : ℕ) → enabler_at t n d ≡ enabler_at s n d
    pub held : (d : ℕ) → (channel ≡ d → ⊥) → t (Half n d Input) ≡ s (Half n d Input)
    pub outputs : (d : ℕ) → (channel ≡ d → ⊥) → t (Half n d Output) ≡ s (Half n d Output)
    pub sent : is_sent t n channel ≡ true
    pub links : (l : ℕ) → t (LinkHalf (end_at n l) Input) ≡ s (LinkHalf (end_at n l) Input)
    pub amounts : (i : ℕ) → t (Sending n i) ≡ s (Sending n i)
    pub words : (i : ℕ) → (use_of s n i ≡ Free → ⊥) → i ≢ word_number channel → t (WordAt n i) ≡ s (WordAt n i)
    pub engaged : use_at t n channel ≡ Engaged
    pub size : length last ≡ length store
    pub is_ready : word_at last state ≡ ready
    pub others : (a : ℕ) → LiesWord k.plan.memory a → is_lasting (use_at s n a) ≡ true
        → word_number a ≢ word_number channel → word_number a ≢ number p c s n x k v h y enabled
        → word_at last a ≡ word_at store a
    pub is : alternative_at t n y ≡ Some now
    pub same : (now.wptr ≡ old.wptr) × (now.priority ≡ old.priority) × (now.runs ≡ old.runs) × (now.waits ≡ false)
    pub quiet : is_quiet (stand_in (t (Standing y))) ≡ true

  module _ (t : State) (last : Store) (now : Alternative) (g : HasSent t last now) where
    differ : (z : Name) → same_name y z ≡ false → y ≡ z → ⊥
    differ z f e = true≢false (sym (place_itself p (Standing y)) ∙ ap (same_name y) e ∙ f)

    some_name : {a b : Name} → Some a ≡ Some b → a ≡ b
    some_name e = cc

    -- a channel that another process has enabled is another one
    other_channel : (d : ℕ) (z : Name) → same_name y z ≡ false → enabler_at s n d ≡ Some z → channel ≡ d → ⊥
    other_channel d z f e same = differ z f (some_name (sym enabled ∙ ap (enabler_at s n) same ∙ e))

    lies_at : (a : ℕ) → word_place_break (length store) a ≡ None → LiesWord k.plan.memory a
    lies_at a there =
        let l : (place a ≡ 4 * word_number a) × (most_neg ≤ a) × (4 * word_number a + 4 ≤ k.plan.memory) =
        word_lies site running.whole a (subst (λ z. word_place_break z a ≡ None) shown.size there) in
        record {
          above = l.1;
          within = omega (arith, l.0, l.1, l.2);
          aligned = eqb-true _ _ (word_placed (length store) a there).0;
        }

    -- so its word is another one
    apart_word : (d : ℕ) → word_place_break (length store) d ≡ None → (channel ≡ d → ⊥)
        → word_number d ≢ word_number channel
    apart_word d there f e =
        let l : LiesWord k.plan.memory d = lies_at d there in
        let here : LiesWord k.plan.memory channel = lies_here p c s n x k v h in
        f (omega (arith, e, l.above, l.aligned, here.above, here.aligned))

    not_state_word : (i : ℕ) → use_of s n i ≡ Engaged → i ≢ number p c s n x k v h y enabled
    not_state_word i e f = by old.runs (sym had.used ∙ ap (use_of s n) (sym f) ∙ e)
      where
        by : (r : Bool) → state_use r ≡ Engaged → ⊥
        by true q = cc
        by false q = cc

    engaged_lasts : (i : ℕ) → use_of s n i ≡ Engaged → is_lasting (use_of s n i) ≡ true
    engaged_lasts i e = ap is_lasting e

    engaged_not_free : (i : ℕ) → use_of s n i ≡ Engaged → use_of s n i ≡ Free → ⊥
    engaged_not_free i e f = lasting_not_free (engaged_lasts i e) f

    -- another channel word
    channel_kept : (d : ℕ) (z : Name) → IsEnabled s n store d z → (channel ≡ d → ⊥)
        → (use_at t n d ≡ Engaged) × (word_at last d ≡ word_at store d)
    channel_kept d z it f = (
      ap (λ (q : Value). (word_in q).used) (g.words (word_number d) (engaged_not_free (word_number d) it.engaged)
          (apart_word d it.placed f)) ∙ it.engaged,
      g.others d (lies_at d it.placed) (engaged_lasts (word_number d) it.engaged) (apart_word d it.placed f)
          (not_state_word (word_number d) it.engaged),
    )

    -- the word of the state of another alternative
    state_kept : (z : Name) (b : Alternative) → same_name y z ≡ false → z.node ≡ n → alternative_at s n z ≡ Some b
        → HasChoice s n m.links store z b
        → (t (WordAt n (below b.wptr 3)) ≡ s (WordAt n (below b.wptr 3)))
        × (word_at last (word_below b.wptr 3) ≡ word_at store (word_below b.wptr 3))
    state_kept z b f home is it = (
      g.words (below b.wptr 3) (lasting_not_free lasts) apart,
      g.others (word_below b.wptr 3) (lies_at (word_below b.wptr 3) it.placed) lasts apart other,
    )
      where
        stateful : is_state (use_of s n (below b.wptr 3)) ≡ true
        stateful = ap is_state it.used ∙ state_use_is b.runs

        lasts : is_lasting (use_of s n (below b.wptr 3)) ≡ true
        lasts = state_lasts (use_of s n (below b.wptr 3)) stateful

        apart : below b.wptr 3 ≢ word_number channel
        apart e =
            true≢false (sym stateful ∙ ap (λ i. is_state (use_of s n i)) e
            ∙ ap is_state (shown.choices.enabled channel y enabled).engaged)

        other : below b.wptr 3 ≢ number p c s n x k v h y enabled
        other e =
            differ z f (shown.choices.apart y z old b (shown.choices.enabled channel y enabled).home home
            (theirs_is p c s n x k v h y enabled) is (sym (one_workspace site running.whole b.wptr old.wptr it.small.1
            had.small.1 (subst (λ q. word_place_break q (word_below b.wptr 3) ≡ None) shown.size it.placed)
            (subst (λ q. word_place_break q state ≡ None) shown.size had.placed) e)))

    stand_alike : (z : Name) → same_name y z ≡ false → alternative_at t n z ≡ alternative_at s n z
    stand_alike z f = by (same_name x z) refl
      where
        by : (b : Bool) → same_name x z ≡ b → alternative_at t n z ≡ alternative_at s n z
        by true e =
            subst (λ a. alternative_at t n a ≡ alternative_at s n a) (one_name p x z e)
            (g.own_none ∙ sym (alternative_before p c s n x k v h))
        by false e = ap (λ (q : Value). alternative_of (stand_in q)) (g.stands z e f)

    quiet_alike : (z : Name) → same_name y z ≡ false → is_quiet (stand_in (s (Standing z))) ≡ true
        → is_quiet (stand_in (t (Standing z))) ≡ true
    quiet_alike z f before = by (same_name x z) refl
      where
        by : (b : Bool) → same_name x z ≡ b → is_quiet (stand_in (t (Standing z))) ≡ true
        by true e = subst (λ a. is_quiet (stand_in (t (Standing a))) ≡ true) (one_name p x z e) g.own_quiet
        by false e = ap (λ (q : Value). is_quiet (stand_in q)) (g.stands z e f) ∙ before

    is_now : (b : Alternative) → alternative_at t n y ≡ Some b → now ≡ b
    is_now b e = one_is (sym g.is ∙ e)
      where
        one_is : {a b : Alternative} → Some a ≡ Some b → a ≡ b
        one_is f = cc

    enables_alike : (d : ℕ) → enables t n y d ≡ enables s n y d
    enables_alike d = ap (λ (q : Value). has_port d (ports_in q)) (g.ports y)

    -- the alternative is ready
    new_choice : HasChoice t n m.links last y now
    new_choice =
        record {
          small = (subst (λ q. q < 2) (sym g.same.1) had.small.0, subst (λ q. q < 2 ^ 32) (sym g.same.0) had.small.1);
          placed = subst (λ q. word_place_break (length last) (word_below q 3) ≡ None) (sym g.same.0)
              (subst (λ q. word_place_break q state ≡ None) (sym g.size) had.placed);
          used = ap (λ (q : Value). (word_in q).used) word_is ∙ had.used ∙ ap state_use (sym g.same.2);
          unseen = ap (λ (q : Value). (word_in q).cells) word_is ∙ had.unseen;
          unsent = ap amount_in (g.amounts (below now.wptr 3) ∙ ap (λ q. s (Sending n (below q 3))) g.same.0)
              ∙ had.unsent;
          state = inl (
            ap (λ q. word_at last (word_below q 3)) g.same.0 ∙ g.is_ready,
            inr (channel, enables_alike channel ∙ (it p c s n x k v h y enabled).port, due),
          );
          unready = λ e. absurd (true≢false (sym e ∙ g.same.3));
        }
      where
        due : is_due t n m.links channel ≡ true
        due = rw (it p c s n x k v h y enabled).internal g.sent

        word_is : t (WordAt n (below now.wptr 3)) ≡ s (WordAt n (below old.wptr 3))
        word_is =
            ap (λ q. t (WordAt n (below q 3))) g.same.0
            ∙ g.words (below old.wptr 3) (state_not_free p c s n x k v h y enabled)
            (not_channel p c s n x k v h y enabled)

    own_enabled : (d : ℕ) → enabler_at t n d ≡ Some y → IsEnabled t n last d y
    own_enabled d e = by (cases_eq channel d)
      where
        old_one : IsEnabled s n store d y
        old_one = shown.choices.enabled d y (sym (g.inputs d) ∙ e)

        with_names : (use_at t n d ≡ Engaged) → ((is_sent t n d ≡ false) → word_at last d ≡ old.wptr + old.priority)
            → IsEnabled t n last d y
        with_names engaged names =
            record {
              internal = old_one.internal;
              home = old_one.home;
              port = enables_alike d ∙ old_one.port;
              placed = subst (λ q. word_place_break q d ≡ None) (sym g.size) old_one.placed;
              engaged = engaged;
              names = λ f a i. names f ∙ sym (ap (λ (q : Alternative). q.wptr + q.priority) (sym (is_now a i))
                  ∙ omega (arith, g.same.0, g.same.1));
              awaited = λ a i f. absurd (true≢false (sym f
                  ∙ ap (λ (q : Alternative). q.waits) (sym (is_now a i)) ∙ g.same.3));
            }

        by : (channel ≡ d) ⊎ (channel ≡ d → ⊥) → IsEnabled t n last d y
        by (inl f) =
            with_names (ap (use_at t n) (sym f) ∙ g.engaged)
            (λ i. absurd (true≢false (sym g.sent ∙ ap (is_sent t n) f ∙ i)))
        by (inr f) =
            let kept = channel_kept d y old_one f in
            with_names kept.0 (λ i. kept.1 ∙ old_one.names (sym (ap (λ (q : Value). is_taken (half_in q))
            (g.outputs d f)) ∙ i) old (theirs_is p c s n x k v h y enabled))

    input_is : (l : ℕ) → input_at t n l ≡ input_at s n l
    input_is l = ap link_in (g.links l)

    has_enabled : (d : ℕ) (z : Name) → HasEnabled s n d z → HasEnabled t n d z
    has_enabled d z (inl (internal, e)) = inl (internal, g.inputs d ∙ e)
    has_enabled d z (inr (l, b, is, e)) = inr (l, b, is, ap link_enabler (input_is l) ∙ e)

    own_linked : (l : ℕ) → l < 4 → enabler_on t n l ≡ Some y → IsEnabledLink t n l y
    own_linked l b e =
        let old_one : IsEnabledLink s n l y = shown.choices.linked l y b (sym (ap link_enabler (input_is l)) ∙ e) in
        record {
          home = old_one.home;
          port = enables_alike (input_channel l) ∙ old_one.port;
          awaited = λ a i f. absurd (true≢false (sym f
              ∙ ap (λ (q : Alternative). q.waits) (sym (is_now a i)) ∙ g.same.3));
        }

    changed : IsChanged p s t n m.links m.links store last y
    changed =
        record {
          stands = λ z f home. stand_alike z f;
          quiet = λ z f home e. quiet_alike z f e;
          ports = λ z f home. g.ports z;
          inputs = λ d z f e. g.inputs d ∙ e;
          inputs_back = λ d z f e. sym (g.inputs d) ∙ e;
          held = λ d z f e. ap half_in (g.held d (other_channel d z f (ap enabler e))) ∙ e;
          sent = λ d z f e. ap (λ (q : Value). is_taken (half_in q)) (g.outputs d (other_channel d z f e));
          unsent = λ i e z. ap amount_in (g.amounts i) ∙ z;
          size = g.size;
          states = state_kept;
          words = λ d z f e it. channel_kept d z it (other_channel d z f e);
          linked = λ l z f e. ap link_enabler (input_is l) ∙ e;
          linked_back = λ l z f e. sym (ap link_enabler (input_is l)) ∙ e;
          awaited = λ l z f e. input_is l ∙ e;
          noticed = λ l z f e. refl;
          own_quiet = g.quiet;
          own_choice = λ a e. subst (HasChoice t n m.links last y) (is_now a e) new_choice;
          own_apart = λ a e z b f home is same. differ z f (shown.choices.apart y z old b
              (it p c s n x k v h y enabled).home home (theirs_is p c s n x k v h y enabled) is
              (sym g.same.0 ∙ ap (λ (q : Alternative). q.wptr) (is_now a e) ∙ same));
          own_ports = λ d home e. (
            now,
            g.is,
            has_enabled d y (shown.choices.owner y d home (sym (enables_alike d) ∙ e)).2,
          );
          own_enabled = own_enabled;
          own_linked = own_linked;
        }

    pub sent_choices : ShowsChoices t n m.links last
    sent_choices = choices_changed p s t n m.links m.links store last y changed shown.choices
