-- An operation of an alternative that enables or disables a channel.
use Rattle.tprocesses.specs.Places.{Sending}
use Rattle.tprocesses.specs.Values.{amount_in}
use Rattle.tword.specs.declared.span.Span.{Span}
use Rattle.tseen.specs.Seats.{Waiting}
use Rattle.tproc.specs.ProcessStatus.{reason_of}
use Rattle.std.proofs.lemmas.Bool.{eq-eqb, ne_eqb}
use Rattle.tseen.proofs.Finished.{place_itself, one_name}
use Rattle.tseen.proofs.InputChannels.{unfired_enabler, input_is_link}
use Rattle.tseen.proofs.Staying.{link_stays}
use Rattle.tseen.specs.Halves.{IsTakenHalf, HasHolder, reason_at}
use Rattle.tprocesses.specs.Values.{Holder, Nobody, TakenBy, EnabledBy, AwaitedBy, Request, IsHalf}
use Rattle.std.specs.Prelude.{◌==◌, ◌&&◌}
use Rattle.tseen.proofs.ChoicePlain.{is_for_choice, for_choice_open, not_open_for_choice, alternative_context}
use Rattle.tseen.proofs.ChoiceShown.{is_choice_place}
use Rattle.std.proofs.Common.{◌≡◌, ◌≢◌, ℕ, ◌+◌, ◌*◌, ◌/◌, ◌≤◌, refl, sym, ap, subst, ◌∙◌, Bool, true, false}
use Rattle.std.proofs.Common.{true≢false}
use Rattle.std.proofs.Common.{length, arith, ◌⊎◌, inl, inr, Option, Some, None, get_or, option_map, ◌<◌}
use Rattle.std.proofs.lemmas.Bool.{cases_eq}
use Rattle.tword.specs.Words.{most_neg, word_below}
use Rattle.tword.specs.Stores.{Store, place, word_at}
use Rattle.tword.specs.Touches.{word_place_break}
use Rattle.tcpu.specs.declared.registers.Registers.{Registers}
use Rattle.tproc.specs.declared.channels.Side.{Side}
use Rattle.tproc.specs.declared.channels.Side.TheVariants.{Input, Output}
use Rattle.tproc.specs.Machine.{Control}
use Rattle.tplan.specs.declared.plan.Plan.{Plan}
use Rattle.tnet.specs.Rendezvous.{Configuration}
use Rattle.tprocesses.specs.Places.{Place, Name, WordAt, Standing, Ports, Half, LinkHalf, Unfinished, same_name}
use Rattle.tplan.specs.Wires.{end_at}
use Rattle.tproc.specs.LinkChannels.{is_link}
use Rattle.tprocesses.specs.Values.{Value, Engaged, Choosing, Awaiting, Context}
use Rattle.tprocesses.specs.Values.{Runs, IsStand, word_in, stand_in, half_in, link_in}
use Rattle.tprocesses.specs.Choosing.{is_taken}
use Rattle.tprocesses.specs.Touching.{Site, word_number}
use Rattle.tprocesses.specs.Machine.{site_of}
use Rattle.tseen.specs.Known.{HasRegisters}
use Rattle.tseen.specs.Seats.{Seat}
use Rattle.tseen.specs.Words.{use_at}
use Rattle.tseen.specs.Halves.{ShowsChannels}
use Rattle.tseen.specs.Choices.{Alternative, alternative_of, alternative_at, is_quiet, enabler, enabler_at}
use Rattle.tseen.specs.Choices.{enables, enabler_on, link_enabler, input_at, input_channel, unfired, descriptor_at}
use Rattle.tseen.specs.Choices.{is_sent, HasChoice, HasEnabled, IsEnabled, IsEnabledLink, state_use}
use Rattle.tseen.specs.Shown.{ShowsNode}
use Rattle.tseen.specs.Steps.{IsCurrent}
use Rattle.tseen.proofs.After.{State}
use Rattle.tseen.proofs.Cells.{use_of, Tells}
use Rattle.tseen.proofs.Written.{is_word_of}
use Rattle.tseen.proofs.Writing.{word_lies}
use Rattle.tseen.proofs.Finished.{is_stand_of}
use Rattle.tseen.proofs.Saving.{below}
use Rattle.tseen.proofs.QueueLinks.{word_alike}
use Rattle.tseen.proofs.Running.{RunsThere}
use Rattle.tseen.proofs.ChoiceChanged.{IsChanged, choices_changed}
use Rattle.tseen.proofs.ChoiceShown.{HasGone, gone, is_open}
use Rattle.tseen.proofs.Stepped.{shown_node, there}

-- a place that changes where a channel is enabled or disabled
abbrev pub is_port_of : ℕ → Name → (channel : ℕ) → Place → Bool
is_port_of n x channel (Ports y) = same_name x y
is_port_of n x channel (Half m e Input) = (n == m) && (channel == e)
is_port_of n x channel _ = false

module _ (p : Plan) (c : Configuration) (s : State) (n : ℕ) (x : Name) (k : IsCurrent p c s n x) where
  abbrev m : Control
  m = k.node.machine.control

  abbrev store : Store
  store = k.node.machine.store

  abbrev running : RunsThere s n k.plan k.node x
  running = there p c s n x k

  abbrev shown : ShowsNode s n k.plan (k.shows.named n) (k.shows.sent n) k.node
  shown = shown_node p c s n x k

  abbrev site : Site
  site = site_of n k.plan

  abbrev pub w : ℕ
  w = m.registers.wptr

  module _ (channel : ℕ) where
    abbrev pub j : ℕ
    j = word_number channel

    -- the process has gone on, and has enabled or disabled the channel
    pub record IsPortChange (s' : State) (after : Registers) (last : Store) (d : Context) : Type 0 where
      pub tells : Tells s' n k.plan.memory last
      pub stands : s' (Standing x) ≡ IsStand (Runs d)
      pub knows : HasRegisters running.level after d
      pub same_wptr : after.wptr ≡ w
      pub same_error : after.error ≡ m.registers.error
      pub same_halting : after.halt_on_error ≡ m.registers.halt_on_error
      pub internal : is_link channel ≡ false
      pub placed : word_place_break (length store) channel ≡ None
      pub others : (q : Place) → is_word_of n q ≡ false → is_stand_of x q ≡ false → is_port_of n x channel q ≡ false
          → s' q ≡ s q
      pub open_before : is_open (use_of s n j) ≡ true
      pub open_after : is_open (use_of s' n j) ≡ true
      pub words : (i : ℕ) → (j ≡ i → ⊥) → (s' (WordAt n i) ≡ s (WordAt n i))
          ⊎ ((is_for_choice (use_of s n i) ≡ true) × (is_for_choice (use_of s' n i) ≡ true))
      pub only : (i : ℕ) → (j ≡ i / 4 → ⊥) → is_for_choice (use_of s n (i / 4)) ≡ false
          → get_or last i None ≡ get_or store i None
      -- the state of another alternative stays
      pub states : (i : ℕ) → use_of s n i ≡ Choosing → i ≢ below w 3 → s' (WordAt n i) ≡ s (WordAt n i)
      pub state_cells : (i : ℕ) → use_of s n (i / 4) ≡ Choosing → i / 4 ≢ below w 3
          → get_or last i None ≡ get_or store i None
      -- who has the input of the channel, before and after
      pub before : (enabler_at s n channel ≡ None) ⊎ (enabler_at s n channel ≡ Some x)
      pub before_free : (q : Request) → half_in (s (Half n channel Input)) ≡ TakenBy q → ⊥
      pub holder : Holder
      pub half : s' (Half n channel Input) ≡ IsHalf holder
      pub after_free : (q : Request) → holder ≡ TakenBy q → ⊥
      pub after_by : (enabler holder ≡ None) ⊎ (enabler holder ≡ Some x)
      -- a channel on which a message is sent stays in use
      pub sent_stays : is_sent s n channel ≡ true
          → (use_of s' n j ≡ Engaged) × (word_at last channel ≡ word_at store channel)
      pub engaged_after : use_of s' n j ≡ Engaged
          → (is_sent s n channel ≡ true) ⊎ (enabler holder ≡ Some x)
      pub engaged_before : is_sent s n channel ≡ true → use_of s n j ≡ Engaged
      -- the alternative of the process
      pub own_choice : (a : Alternative) → alternative_at s' n x ≡ Some a → HasChoice s' n m.links last x a
      pub own_apart : (y : Name) (b : Alternative) → same_name x y ≡ false → y.node ≡ n → alternative_at s n y ≡ Some b
          → b.wptr ≡ w → (a : Alternative) → alternative_at s' n x ≡ Some a → ⊥
      pub own_word : (y : Name) (b : Alternative) → same_name x y ≡ false → y.node ≡ n → alternative_at s n y ≡ Some b
          → HasChoice s n m.links store y b → below b.wptr 3 ≢ below w 3
      pub own_keeps : (a : Alternative) × (alternative_at s' n x ≡ Some a)
      pub ports_back : (e : ℕ) → (channel ≡ e → ⊥) → enables s' n x e ≡ true → enables s n x e ≡ true
      pub ports_on : (e : ℕ) → (channel ≡ e → ⊥) → enables s n x e ≡ true → enables s' n x e ≡ true
      pub port_back : enables s' n x channel ≡ true → enabler holder ≡ Some x
      pub port_there : enabler holder ≡ Some x → IsEnabled s' n last channel x

    module _ (s' : State) (after : Registers) (count : ℕ) (last : Store) (d : Context)
        (g : IsPortChange s' after last d) where
      stays : (i : ℕ) → (j ≡ i → ⊥) → is_for_choice (use_of s n i) ≡ false → s' (WordAt n i) ≡ s (WordAt n i)
      stays i e h = by (g.words i e)
        where
          by : (s' (WordAt n i) ≡ s (WordAt n i))
              ⊎ ((is_for_choice (use_of s n i) ≡ true) × (is_for_choice (use_of s' n i) ≡ true))
              → s' (WordAt n i) ≡ s (WordAt n i)
          by (inl e) = e
          by (inr e) = absurd (true≢false (sym e.0 ∙ h))

      used : (i : ℕ) → (j ≡ i → ⊥) → is_for_choice (use_of s n i) ≡ false → use_of s' n i ≡ use_of s n i
      used i e h = ap (λ (v : Value). (word_in v).used) (stays i e h)

      same_size : length last ≡ length store
      same_size = g.tells.length ∙ sym shown.size

      lies_at : (a : ℕ) → word_place_break (length store) a ≡ None
          → (place a ≡ 4 * word_number a) × (most_neg ≤ a) × (4 * word_number a + 4 ≤ k.plan.memory)
      lies_at a h = word_lies site running.whole a (subst (λ z. word_place_break z a ≡ None) shown.size h)

      word_same : (a : ℕ) → word_place_break (length store) a ≡ None
          → ((i : ℕ) → i / 4 ≡ word_number a → get_or last i None ≡ get_or store i None)
          → word_at last a ≡ word_at store a
      word_same a h same =
          let l = lies_at a h in
          word_alike store last a same_size
          (record {
            above = l.1;
            within = omega (arith, l.0, l.2, shown.size);
            aligned = omega (arith, l.0, l.1);
          }) (λ i b. same (place a + i) (omega (arith, l.0, b)))

      -- another channel has another word
      apart_channel : (e : ℕ) → (channel ≡ e → ⊥) → word_place_break (length store) e ≡ None → j ≡ word_number e → ⊥
      apart_channel e h f same =
          let l = lies_at e f in
          let l' = lies_at channel g.placed in
          h (omega (arith, same, l.0, l.1, l'.0, l'.1))

      other_channel : (e : ℕ) → (channel ≡ e → ⊥) → word_place_break (length store) e ≡ None → use_at s n e ≡ Engaged
          → (use_at s' n e ≡ Engaged) × (word_at last e ≡ word_at store e)
      other_channel e h f used_so = (let other = apart_channel e h f in (
        used (word_number e) other (ap is_for_choice used_so) ∙ used_so,
        word_same e f (λ i l. g.only i (λ r. other (r ∙ l)) (ap is_for_choice (ap (use_of s n) l ∙ used_so))),
      ))

      other_half : (e : ℕ) (side : Side) → (channel ≡ e → ⊥) → s' (Half n e side) ≡ s (Half n e side)
      other_half e Input h = g.others (Half n e Input) refl refl (rw (eq-eqb n n refl, ne_eqb channel e h) refl)
      other_half e Output h = g.others (Half n e Output) refl refl refl

      output_half : (e : ℕ) → s' (Half n e Output) ≡ s (Half n e Output)
      output_half e = g.others (Half n e Output) refl refl refl

      sent_is : (e : ℕ) → is_sent s' n e ≡ is_sent s n e
      sent_is e = ap (λ (v : Value). is_taken (half_in v)) (output_half e)

      stand_stays : (y : Name) → same_name x y ≡ false → s' (Standing y) ≡ s (Standing y)
      stand_stays y h = g.others (Standing y) refl h refl

      ports_are : (y : Name) → same_name x y ≡ false → s' (Ports y) ≡ s (Ports y)
      ports_are y h = g.others (Ports y) refl refl h

      enabler_now : enabler_at s' n channel ≡ enabler g.holder
      enabler_now = ap (λ (v : Value). enabler (half_in v)) g.half

      other_enabler : (e : ℕ) → (channel ≡ e → ⊥) → enabler_at s' n e ≡ enabler_at s n e
      other_enabler e h = ap (λ (v : Value). enabler (half_in v)) (other_half e Input h)

      none_some : {y : Name} → None ≡ Some y → ⊥
      none_some e = cc

      one_is : {y z : Name} → Some y ≡ Some z → y ≡ z
      one_is e = cc

      not_own : (y : Name) → same_name x y ≡ false → Some x ≡ Some y → ⊥
      not_own y f e = true≢false (sym (place_itself p (Standing x)) ∙ ap (same_name x) (one_is e) ∙ f)

      -- a channel that another process has enabled
      apart_from : (e : ℕ) (y : Name) → same_name x y ≡ false → enabler_at s n e ≡ Some y → channel ≡ e → ⊥
      apart_from e y f h same = by g.before
        where
          here : enabler_at s n channel ≡ Some y
          here = ap (enabler_at s n) same ∙ h

          by : (enabler_at s n channel ≡ None) ⊎ (enabler_at s n channel ≡ Some x) → ⊥
          by (inl i) = none_some (sym i ∙ here)
          by (inr i) = not_own y f (sym i ∙ here)

      inputs_back : (e : ℕ) (y : Name) → same_name x y ≡ false → enabler_at s' n e ≡ Some y
          → enabler_at s n e ≡ Some y
      inputs_back e y f h = by (cases_eq channel e)
        where
          by : (channel ≡ e) ⊎ (channel ≡ e → ⊥) → enabler_at s n e ≡ Some y
          by (inl i) = absurd (of g.after_by)
            where
              here : enabler g.holder ≡ Some y
              here = sym enabler_now ∙ ap (enabler_at s' n) i ∙ h

              of : (enabler g.holder ≡ None) ⊎ (enabler g.holder ≡ Some x) → ⊥
              of (inl l) = none_some (sym l ∙ here)
              of (inr l) = not_own y f (sym l ∙ here)
          by (inr i) = sym (other_enabler e i) ∙ h

      state_stays : (y : Name) (b : Alternative) → same_name x y ≡ false → y.node ≡ n → alternative_at s n y ≡ Some b
          → HasChoice s n m.links store y b
          → (s' (WordAt n (below b.wptr 3)) ≡ s (WordAt n (below b.wptr 3)))
          × (word_at last (word_below b.wptr 3) ≡ word_at store (word_below b.wptr 3))
      state_stays y b f home is it = by b.runs refl
        where
          i : ℕ
          i = below b.wptr 3

          by : (r : Bool) → b.runs ≡ r → (s' (WordAt n i) ≡ s (WordAt n i))
              × (word_at last (word_below b.wptr 3) ≡ word_at store (word_below b.wptr 3))
          by true e =
              let choosing : use_of s n i ≡ Choosing = it.used ∙ ap state_use e in (
                g.states i choosing (g.own_word y b f home is it),
                word_same (word_below b.wptr 3) it.placed (λ l h. g.state_cells l (ap (use_of s n) h ∙ choosing)
                    (λ r. g.own_word y b f home is it (sym h ∙ r))),
              )
          by false e =
              let awaiting : use_of s n i ≡ Awaiting = it.used ∙ ap state_use e in
              let apart : j ≡ i → ⊥ =
              λ h. true≢false (sym g.open_before ∙ ap (λ z. is_open (use_of s n z)) h ∙ ap is_open awaiting) in (
                stays i apart (ap is_for_choice awaiting),
                word_same (word_below b.wptr 3) it.placed
                    (λ l h. g.only l (λ r. apart (r ∙ h)) (ap is_for_choice (ap (use_of s n) h ∙ awaiting))),
              )

      same_context : (a b : Alternative) → alternative_at s n x ≡ Some a → alternative_at s' n x ≡ Some b
          → a.wptr + a.priority ≡ b.wptr + b.priority
      same_context a b e f =
          let old = alternative_context true false running.context a
          (sym (ap (λ (v : Value). alternative_of (stand_in v)) running.stood) ∙ e) in
          let new = alternative_context true false d b
          (sym (ap (λ (v : Value). alternative_of (stand_in v)) g.stands) ∙ f) in
          omega (
            arith,
            old.0,
            old.1,
            new.0,
            new.1,
            running.registers.wptr,
            running.registers.priority,
            g.knows.wptr,
            g.knows.priority,
            g.same_wptr,
          )

      input_is : (l : ℕ) → input_at s' n l ≡ input_at s n l
      input_is l = ap link_in (g.others (LinkHalf (end_at n l) Input) refl refl refl)

      on_is : (l : ℕ) → enabler_on s' n l ≡ enabler_on s n l
      on_is l = ap link_enabler (input_is l)

      has_enabled : (e : ℕ) → (channel ≡ e → ⊥) → HasEnabled s n e x → HasEnabled s' n e x
      has_enabled e i (inl (internal, f)) = inl (internal, other_enabler e i ∙ f)
      has_enabled e i (inr (l, b, is, f)) = inr (l, b, is, on_is l ∙ f)

      -- an input of a link is another channel
      not_input : (l : ℕ) → l < 4 → channel ≡ input_channel l → ⊥
      not_input l b e = true≢false (sym (input_is_link l b) ∙ ap is_link (sym e) ∙ g.internal)

      changed_choice : IsChanged p s s' n m.links m.links store last x
      changed_choice =
          record {
            stands = λ y f home. ap (λ (v : Value). alternative_of (stand_in v)) (stand_stays y f);
            quiet = λ y f home e. ap (λ (v : Value). is_quiet (stand_in v)) (stand_stays y f) ∙ e;
            ports = λ y f home. ports_are y f;
            inputs = λ e y f h. other_enabler e (apart_from e y f h) ∙ h;
            inputs_back = inputs_back;
            held = λ e y f h. ap half_in (other_half e Input (apart_from e y f (ap enabler h))) ∙ h;
            unsent = λ i e z. ap amount_in (g.others (Sending n i) refl refl refl) ∙ z;
            sent = λ e y f h. sent_is e;
            size = same_size;
            states = state_stays;
            words = λ e y f h it. other_channel e (apart_from e y f h) it.placed it.engaged;
            own_quiet = ap (λ (v : Value). is_quiet (stand_in v)) g.stands;
            own_choice = g.own_choice;
            own_apart = λ a e y b f home is same. g.own_apart y b f home is (sym same ∙ workspace a e) a e;
            linked = λ l y f h. on_is l ∙ h;
            linked_back = λ l y f h. sym (on_is l) ∙ h;
            awaited = λ l y f h. input_is l ∙ h;
            noticed = λ l y f h. refl;
            own_ports = λ e home h. own_ports e home h (cases_eq channel e);
            own_enabled = λ e h. own_enabled e h (cases_eq channel e);
            own_linked = own_linked;
          }
        where
          workspace : (a : Alternative) → alternative_at s' n x ≡ Some a → a.wptr ≡ w
          workspace a e =
              (alternative_context true false d a
              (sym (ap (λ (v : Value). alternative_of (stand_in v)) g.stands) ∙ e)).0
              ∙ g.knows.wptr ∙ g.same_wptr

          own_ports : (e : ℕ) → x.node ≡ n → enables s' n x e ≡ true → (channel ≡ e) ⊎ (channel ≡ e → ⊥)
              → (a : Alternative) × (alternative_at s' n x ≡ Some a) × HasEnabled s' n e x
          own_ports e home h (inl i) = (
            g.own_keeps.0,
            g.own_keeps.1,
            subst (λ z. HasEnabled s' n z x) i
                (inl (g.internal, enabler_now ∙ g.port_back (ap (enables s' n x) i ∙ h))),
          )
          own_ports e home h (inr i) = (
            g.own_keeps.0,
            g.own_keeps.1,
            has_enabled e i (shown.choices.owner x e home (g.ports_back e i h)).2,
          )

          own_enabled : (e : ℕ) → enabler_at s' n e ≡ Some x → (channel ≡ e) ⊎ (channel ≡ e → ⊥)
              → IsEnabled s' n last e x
          own_enabled e h (inl i) =
              subst (λ z. IsEnabled s' n last z x) i
              (g.port_there (sym enabler_now ∙ ap (enabler_at s' n) i ∙ h))
          own_enabled e h (inr i) =
              let old : IsEnabled s n store e x = shown.choices.enabled e x (sym (other_enabler e i) ∙ h) in
              let own = shown.choices.owner x e old.home old.port in
              let still = other_channel e i old.placed old.engaged in
              record {
                internal = old.internal;
                home = old.home;
                port = g.ports_on e i old.port;
                placed = subst (λ z. word_place_break z e ≡ None) (sym same_size) old.placed;
                engaged = still.0;
                names = λ f a l. still.1 ∙ old.names (sym (sent_is e) ∙ f) own.0 own.1 ∙ same_context own.0 a own.1 l;
                awaited = λ a l f. absurd (true≢false (sym f ∙ (alternative_context true false d a
                    (sym (ap (λ (v : Value). alternative_of (stand_in v)) g.stands) ∙ l)).3));
              }

          own_linked : (l : ℕ) → l < 4 → enabler_on s' n l ≡ Some x → IsEnabledLink s' n l x
          own_linked l b h =
              let old : IsEnabledLink s n l x = shown.choices.linked l x b (sym (on_is l) ∙ h) in
              record {
                home = old.home;
                port = g.ports_on (input_channel l) (not_input l b) old.port;
                awaited = λ a i f. absurd (true≢false (sym f ∙ (alternative_context true false d a
                    (sym (ap (λ (v : Value). alternative_of (stand_in v)) g.stands) ∙ i)).3));
              }

      -- who has enabled the input of a link has the same descriptor
      descriptor_is : (l : ℕ) → l < 4 → (y : Name) → unfired (input_at s n l) ≡ Some y
          → descriptor_at s' n y ≡ descriptor_at s n y
      descriptor_is l b y e = by (same_name x y) refl
        where
          old : IsEnabledLink s n l y
          old = shown.choices.linked l y b (unfired_enabler (input_at s n l) y e)

          own_is : x.node ≡ n → enables s n x (input_channel l) ≡ true → descriptor_at s' n x ≡ descriptor_at s n x
          own_is home port =
              let own = shown.choices.owner x (input_channel l) home port in
              ap described g.own_keeps.1
              ∙ ap (λ z. Some z) (sym (same_context own.0 g.own_keeps.0 own.1 g.own_keeps.1))
              ∙ sym (ap described own.1)
            where
              described : Option Alternative → Option ℕ
              described o = option_map (λ (a : Alternative). a.wptr + a.priority) o

          by : (t : Bool) → same_name x y ≡ t → descriptor_at s' n y ≡ descriptor_at s n y
          by false f = ap (λ (v : Value). option_map (λ (a : Alternative). a.wptr + a.priority)
              (alternative_of (stand_in v))) (stand_stays y f)
          by true f =
              let same : x ≡ y = one_name p x y f in
              subst (λ z. descriptor_at s' n z ≡ descriptor_at s n z) same
              (own_is (ap (λ (z : Name). z.node) same ∙ old.home)
              (ap (λ z. enables s n z (input_channel l)) same ∙ old.port))

      abbrev named : Seat → Name
      named = k.shows.named n

      -- the half of the channel that is taken
      taken_stays : (a : ℕ) (side : Side) (q : Request) → IsTakenHalf s n named k.node.machine a side q
          → s (Half n a side) ≡ IsHalf (TakenBy q) → (channel ≡ a) ⊎ (channel ≡ a → ⊥)
          → IsTakenHalf s' n named (gone p c s n x k after count m.links last) a side q
      taken_stays a side q t e h =
          let still = of side e h in
          record {
            process = t.process;
            name = t.name;
            waits = t.waits;
            channel_word = still.1 ∙ t.channel_word;
            engaged = still.0;
            placed = subst (λ z. word_place_break z a ≡ None) (sym same_size) t.placed;
          }
        where
          of : (side : Side) → s (Half n a side) ≡ IsHalf (TakenBy q) → (channel ≡ a) ⊎ (channel ≡ a → ⊥)
              → (use_at s' n a ≡ Engaged) × (word_at last a ≡ word_at store a)
          of Input e (inl i) =
              absurd (g.before_free q (ap (λ z. half_in (s (Half n z Input))) i ∙ ap half_in e))
          of Output e (inl i) =
              subst (λ z. (use_at s' n z ≡ Engaged) × (word_at last z ≡ word_at store z)) i
              (g.sent_stays (ap (λ z. is_sent s n z) i ∙ ap (λ (v : Value). is_taken (half_in v)) e))
          of _ e (inr i) = other_channel a i t.placed t.engaged

      channels_now : ShowsChannels s' n named (gone p c s n x k after count m.links last)
      channels_now =
          record {
            taken = λ a side q e. taken a side q e (cases_eq channel a);
            halves = λ a side. halves a side (cases_eq channel a);
            waiting = λ b a side span e. waiting b a side span e (cases_eq channel a);
            engaged = λ i e. engaged i e (cases_eq j i);
          }
        where
          half_before : (a : ℕ) (side : Side) (q : Request) → s' (Half n a side) ≡ IsHalf (TakenBy q)
              → (channel ≡ a) ⊎ (channel ≡ a → ⊥) → s (Half n a side) ≡ IsHalf (TakenBy q)
          half_before a Input q e (inl i) =
              absurd (g.after_free q (half_is (sym g.half ∙ ap (λ z. s' (Half n z Input)) i ∙ e)))
            where
              half_is : {h h' : Holder} → IsHalf h ≡ IsHalf h' → h ≡ h'
              half_is e = cc
          half_before a Output q e (inl i) = sym (output_half a) ∙ e
          half_before a side q e (inr i) = sym (other_half a side i) ∙ e

          taken : (a : ℕ) (side : Side) (q : Request) → s' (Half n a side) ≡ IsHalf (TakenBy q)
              → (channel ≡ a) ⊎ (channel ≡ a → ⊥)
              → IsTakenHalf s' n named (gone p c s n x k after count m.links last) a side q
          taken a side q e h =
              let old = half_before a side q e h in
              taken_stays a side q (shown.channels.taken a side q old) old h

          halves : (a : ℕ) (side : Side) → (channel ≡ a) ⊎ (channel ≡ a → ⊥)
              → (h : Holder) × (s' (Half n a side) ≡ IsHalf h)
          halves a Input (inl i) = (g.holder, ap (λ z. s' (Half n z Input)) (sym i) ∙ g.half)
          halves a Output (inl i) =
              (let o = shown.channels.halves a Output in (o.0, output_half a ∙ o.1))
          halves a side (inr i) =
              (let o = shown.channels.halves a side in (o.0, other_half a side i ∙ o.1))

          waiting : (b a : ℕ) (side : Side) (span : Span) → reason_of m b ≡ Some (reason_at side a span)
              → (channel ≡ a) ⊎ (channel ≡ a → ⊥)
              → s' (Half n a side) ≡ IsHalf (TakenBy (record { process = named (Waiting b); buffer = span }))
          waiting b a Input span e (inl i) =
              absurd (g.before_free _ (ap (λ z. half_in (s (Half n z Input))) i
              ∙ ap half_in (shown.channels.waiting b a Input span e)))
          waiting b a Output span e (inl i) = output_half a ∙ shown.channels.waiting b a Output span e
          waiting b a side span e (inr i) = other_half a side i ∙ shown.channels.waiting b a side span e

          engaged : (i : ℕ) → use_of s' n i ≡ Engaged → (j ≡ i) ⊎ (j ≡ i → ⊥)
              → (a : ℕ) × (word_number a ≡ i) × HasHolder s' n named a
          engaged i e (inl f) = (channel, f, of (g.engaged_after (ap (use_of s' n) f ∙ e)))
            where
              sent_by : (h : Holder) → s (Half n channel Output) ≡ IsHalf h → is_taken h ≡ true
                  → HasHolder s' n named channel
              sent_by (TakenBy q) l r = inl (Output, q, output_half channel ∙ l)
              sent_by Nobody l r = absurd (true≢false (sym r))
              sent_by (EnabledBy y) l r = absurd (true≢false (sym r))
              sent_by (AwaitedBy y) l r = absurd (true≢false (sym r))

              of : (is_sent s n channel ≡ true) ⊎ (enabler g.holder ≡ Some x) → HasHolder s' n named channel
              of (inl l) =
                  let o = shown.channels.halves channel Output in
                  sent_by o.0 o.1 (sym (ap (λ (v : Value). is_taken (half_in v)) o.1) ∙ l)
              of (inr l) = inr (x, enabler_now ∙ l)
          engaged i e (inr f) =
              let old = shown.channels.engaged i (before_engaged (g.words i f)) in
              (old.0, old.1, held old.0 old.1 old.2 (cases_eq channel old.0))
            where
              before_engaged : (s' (WordAt n i) ≡ s (WordAt n i))
                  ⊎ ((is_for_choice (use_of s n i) ≡ true) × (is_for_choice (use_of s' n i) ≡ true))
                  → use_of s n i ≡ Engaged
              before_engaged (inl l) = ap (λ (v : Value). (word_in v).used) (sym l) ∙ e
              before_engaged (inr l) = absurd (true≢false (sym l.1 ∙ ap is_for_choice e))

              held : (a : ℕ) → word_number a ≡ i → HasHolder s n named a
                  → (channel ≡ a) ⊎ (channel ≡ a → ⊥) → HasHolder s' n named a
              held a z (inl (Output, q, l)) h = inl (Output, q, output_half a ∙ l)
              held a z (inl (Input, q, l)) (inl h) = absurd (f (ap word_number h ∙ z))
              held a z (inl (Input, q, l)) (inr h) = inl (Input, q, other_half a Input h ∙ l)
              held a z (inr (y, l)) (inr h) = inr (y, other_enabler a h ∙ l)
              held a z (inr (y, l)) (inl h) = absurd (f (ap word_number h ∙ z))

      -- so the process has gone on
      pub port_gone : HasGone p c s n x k s' after count m.links last d
      port_gone =
          record {
            tells = g.tells;
            stands = g.stands;
            knows = g.knows;
            same_wptr = g.same_wptr;
            same_error = g.same_error;
            same_halting = g.same_halting;
            others = other;
            words = λ i. opened i (cases_eq j i);
            only = λ i h. g.only i (λ e. true≢false (sym g.open_before ∙ ap (λ z. is_open (use_of s n z)) e ∙ h))
                (not_open_for_choice (use_of s n (i / 4)) h);
            channels = channels_now;
            choices = choices_changed p s s' n m.links m.links store last x changed_choice shown.choices;
            same_inputs = λ l. refl;
            same_claims = refl;
            notices = λ l e. e;
            linked = λ l b. link_stays s s' n named named (k.shows.sent n) k.node
                (record k.node { machine = gone p c s n x k after count m.links last }) l (λ w. refl)
                (λ side. g.others (LinkHalf (end_at n l) side) refl refl refl)
                (g.others (Unfinished (end_at n l)) refl refl refl) (descriptor_is l b) refl refl (shown.links l b);
          }
        where
          opened : (i : ℕ) → (j ≡ i) ⊎ (j ≡ i → ⊥) → (s' (WordAt n i) ≡ s (WordAt n i))
              ⊎ ((is_open (use_of s n i) ≡ true) × (is_open (use_of s' n i) ≡ true))
          opened i (inl e) =
              inr (subst (λ z. (is_open (use_of s n z) ≡ true) × (is_open (use_of s' n z) ≡ true)) e
              (g.open_before, g.open_after))
          opened i (inr e) = of (g.words i e)
            where
              of : (s' (WordAt n i) ≡ s (WordAt n i))
                  ⊎ ((is_for_choice (use_of s n i) ≡ true) × (is_for_choice (use_of s' n i) ≡ true))
                  → (s' (WordAt n i) ≡ s (WordAt n i))
                  ⊎ ((is_open (use_of s n i) ≡ true) × (is_open (use_of s' n i) ≡ true))
              of (inl f) = inl f
              of (inr f) = inr (for_choice_open _ f.0, for_choice_open _ f.1)

          other : (q : Place) → is_choice_place n x q ≡ false → s' q ≡ s q
          other (WordAt a i) h = g.others (WordAt a i) h refl refl
          other (Standing y) h = g.others (Standing y) refl h refl
          other (Ports y) h = g.others (Ports y) refl refl h
          other (Half a e Input) h = g.others (Half a e Input) refl refl (rw h refl)
          other q h = g.others q refl refl refl
