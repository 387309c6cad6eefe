-- The alternatives of a node, where the current process waits for its own.
use Rattle.tseen.proofs.AwaitedHalves.{enabler_same, held}
use Rattle.tprocesses.specs.Places.{Sending}
use Rattle.tprocesses.specs.Values.{amount_in}
use Rattle.std.proofs.Common.{◌≡◌, ◌≢◌, ℕ, ◌+◌, ◌*◌, ◌<◌, ◌≤◌, refl, sym, ap, subst, ◌∙◌, Bool, true, false}
use Rattle.std.proofs.Common.{true≢false, length, Some, None, arith}
use Rattle.std.proofs.Common.{◌⊎◌}
use Rattle.std.proofs.Common.{inl, inr}
use Rattle.std.specs.Prelude.{is_some}
use Rattle.std.proofs.lemmas.Bool.{eqb-true, ne_eqb, cases_eq}
use Rattle.tword.specs.Words.{most_neg, word_below}
use Rattle.tword.specs.Stores.{Store, word_at, place}
use Rattle.tword.specs.Touches.{word_place_break}
use Rattle.tproc.specs.declared.channels.Side.{Side}
use Rattle.tproc.specs.declared.channels.Side.TheVariants.{Input, Output}
use Rattle.tproc.specs.Machine.{Control, Machine}
use Rattle.tplan.specs.declared.plan.Plan.{Plan}
use Rattle.tplan.specs.Wires.{end_at}
use Rattle.tnet.specs.Rendezvous.{Configuration}
use Rattle.tprocesses.specs.Places.{Place, Name, WordAt, Standing, Ports, Half, LinkHalf}
use Rattle.tprocesses.specs.Places.{same_name}
use Rattle.tprocesses.specs.Values.{Value, Free, Engaged, Choosing, Context, Chooses}
use Rattle.tprocesses.specs.Values.{Nobody, EnabledBy, Empty, Enabled, Awaited, IsStand, IsHalf, IsLink}
use Rattle.tprocesses.specs.Values.{word_in, stand_in, half_in, link_in, ports_in}
use Rattle.tprocesses.specs.Choosing.{has_port, is_taken as is_taken_half}
use Rattle.tprocesses.specs.Touching.{Site, word_number}
use Rattle.tprocesses.specs.Standing.{forget}
use Rattle.tprocesses.specs.Machine.{site_of}
use Rattle.tseen.specs.Choices.{Alternative, alternative_of, alternative_at, is_quiet, enabler_at, enables, state_use}
use Rattle.tseen.specs.Choices.{enabler_on, link_enabler, input_at, input_channel, HasChoice}
use Rattle.tseen.specs.Choices.{HasEnabled}
use Rattle.tseen.specs.Choices.{IsEnabled, IsEnabledLink, IsUnready}
use Rattle.tseen.specs.Shown.{ShowsNode}
use Rattle.tseen.specs.Steps.{IsCurrent}
use Rattle.tseen.specs.Words.{use_at}
use Rattle.tseen.proofs.After.{State}
use Rattle.tseen.proofs.AltwtMeets.{far, input_now, taken_up}
use Rattle.tseen.proofs.AltwtSteps.{IsTakenUp, port_place, awaited_value}
use Rattle.tseen.proofs.AtOperation.{context_at}
use Rattle.tseen.proofs.AwaitedHalves.{is_input_half, IsAwaitedNow}
use Rattle.tseen.proofs.AwaitingWords.{Awaits, r, process, aligned, small, made}
use Rattle.tseen.proofs.AwaitingWords.{word_three}
use Rattle.tseen.proofs.AwaitingWords.{kept_word, plain_stays, tells_now, word_stays, state_there}
use Rattle.tseen.proofs.AwaitingWords.{three_used}
use Rattle.tseen.proofs.Cells.{use_of}
use Rattle.tseen.proofs.ChoiceChanged.{IsChanged, due_same}
use Rattle.tseen.proofs.ChoicePlain.{is_for_choice}
use Rattle.tseen.proofs.Choices.{alternative_with, unready_same}
use Rattle.tseen.proofs.Finished.{is_stand_of}
use Rattle.tseen.proofs.InputChannels.{input_is_link, input_names_link}
use Rattle.tseen.proofs.OwnChoice.{own, own_is, has, no_other, other_word}
use Rattle.tseen.proofs.Running.{RunsThere}
use Rattle.tseen.proofs.Saving.{below}
use Rattle.tseen.proofs.Spans.{word_placed}
use Rattle.tseen.proofs.Stepped.{shown_node, there}
use Rattle.tseen.proofs.Writing.{word_lies}
use Rattle.tseen.proofs.Written.{is_word_of}

-- who has the input of a channel has none of a link
half_no_link : (x : Name) (v : Value) → half_in v ≡ EnabledBy x → link_in v ≡ Empty
half_no_link x (IsHalf h) e = refl
half_no_link x v e = absurd (differ e)
  where
    differ : Nobody ≡ EnabledBy x → ⊥
    differ f = cc

module _ (p : Plan) (c : Configuration) (s : State) (n : ℕ) (x : Name) (k : IsCurrent p c s n x) (s' : State)
    (h : Awaits p c s n x k s') where
  abbrev m : Control
  m = k.node.machine.control

  abbrev store : Store
  store = k.node.machine.store

  abbrev site : Site
  site = site_of n k.plan

  abbrev running : RunsThere s n k.plan k.node x
  running = there p c s n x k

  abbrev shown : ShowsNode s n k.plan (k.shows.named n) (k.shows.sent n) k.node
  shown = shown_node p c s n x k

  abbrev w : ℕ
  w = m.registers.wptr

  abbrev v : State
  v = r p c s n x k s' h

  abbrev ours : ℕ
  ours = process p c s n x k s' h

  abbrev context : Context
  context = context_at p c s n x k h.operation.size

  abbrev waits : Context
  waits = forget context

  abbrev now : Machine
  now = made p c s n x k s' h

  -- what is no word and not where the process stands
  pub stay : (q : Place) → is_word_of n q ≡ false → is_stand_of x q ≡ false → v q ≡ s q
  stay (Half i d Input) f g = refl
  stay (Half i d Output) f g = far p c s n x k h.before h.operation h.choice h.written h.way s' h.waits _ f g refl
  stay (LinkHalf e Input) f g = refl
  stay (LinkHalf e Output) f g = far p c s n x k h.before h.operation h.choice h.written h.way s' h.waits _ f g refl
  stay q f g = far p c s n x k h.before h.operation h.choice h.written h.way s' h.waits q f g refl

  pub stood : v (Standing x) ≡ IsStand (Chooses waits)
  stood = h.waits.stands

  stand_stays : (y : Name) → same_name x y ≡ false → v (Standing y) ≡ s (Standing y)
  stand_stays y e = stay (Standing y) refl e

  pub same_size : length now.store ≡ length store
  same_size = (tells_now p c s n x k s' h).length ∙ sym shown.size

  other_at : (b : ℕ) → word_place_break (length store) b ≡ None → (use_at s n b ≡ Free → ⊥)
      → word_number b ≢ below w 3 → word_at now.store b ≡ word_at store b
  other_at b there e f =
      let l : (place b ≡ 4 * word_number b) × (most_neg ≤ b) × (4 * word_number b + 4 ≤ k.plan.memory) =
      word_lies site running.whole b (subst (λ z. word_place_break z b ≡ None) shown.size there) in
      word_stays p c s n x k s' h b (record {
        above = l.1;
        within = omega (arith, l.0, l.1, l.2);
        aligned = eqb-true _ _ (word_placed (length store) b there).0;
      }) e f

  engaged_not_free : Engaged ≡ Free → ⊥
  engaged_not_free e = cc

  engaged_not_choosing : Engaged ≡ Choosing → ⊥
  engaged_not_choosing e = cc

  pub channel_at : (b : ℕ) → word_place_break (length store) b ≡ None → use_at s n b ≡ Engaged
      → word_at now.store b ≡ word_at store b
  channel_at b there e =
      other_at b there (λ f. engaged_not_free (sym e ∙ f))
      (λ f. engaged_not_choosing (sym e ∙ ap (use_of s n) f ∙ three_used p c s n x k s' h))

  pub engaged_still : (j : ℕ) → use_of s n j ≡ Engaged → use_of v n j ≡ Engaged
  engaged_still j e =
      ap (λ (z : Value). (word_in z).used) (plain_stays p c s n x k s' h j (ap is_for_choice e)) ∙ e

  pub half_same : (d : ℕ) (side : Side) → v (Half n d side) ≡ s (Half n d side)
  half_same d side = stay (Half n d side) refl refl

  -- the alternatives
  abbrev pub old : Alternative
  old = own p c s n x k h.choice h.way.is

  abbrev it : HasChoice s n m.links store x old
  it = has p c s n x k h.choice h.way.is

  abbrev new : Alternative
  new =
      record { skips = h.choice.skips; wptr = w; priority = running.context.priority; runs = false; waits = true }

  pub new_is : alternative_at v n x ≡ Some new
  new_is =
      ap (λ (z : Value). alternative_of (stand_in z)) stood ∙ alternative_with false true waits h.choice h.way.is

  is_new_one : (b : Alternative) → alternative_at v n x ≡ Some b → b ≡ new
  is_new_one b e = one_is (sym e ∙ new_is)
    where
      one_is : {b b' : Alternative} → Some b ≡ Some b' → b ≡ b'
      one_is g = cc

  -- the state with its halves
  pub same_now : (q : Place) → is_input_half q ≡ false → s' q ≡ v q
  same_now (Half i e Input) f = absurd (true≢false f)
  same_now (Half i e Output) f = refl
  same_now (LinkHalf e Input) f = absurd (true≢false f)
  same_now (LinkHalf e Output) f = refl
  same_now q f = refl

  pub awaited_now : (i e : ℕ) → IsAwaitedNow (v (Half i e Input)) (s' (Half i e Input))
  awaited_now i e = by (cases_eq n i)
    where
      by : (n ≡ i) ⊎ (n ≡ i → ⊥) → IsAwaitedNow (v (Half i e Input)) (s' (Half i e Input))
      by (inl f) =
          subst (λ b. IsAwaitedNow (s (Half b e Input)) (s' (Half b e Input))) f
          (input_now p c s n x k h.before h.operation h.choice h.written h.way s' h.waits e)
      by (inr f) =
          inl (far p c s n x k h.before h.operation h.choice h.written h.way s' h.waits (Half i e Input) refl refl
          (ne_eqb n i f))

  enabler_now : (e : ℕ) → enabler_at s' n e ≡ enabler_at s n e
  enabler_now = enabler_same v s' same_now awaited_now n

  unready_now : IsUnready v n m.links x h.choice.skips
  unready_now =
      unready_same s v n m.links m.links x (stay (Ports x) refl refl)
      (λ d e. due_same s v n m.links (λ i. half_same i Output) d) h.choice.skips h.unready

  new_choice : HasChoice s' n m.links now.store x new
  new_choice =
      record {
        small = it.small;
        placed = subst (λ z. word_place_break z (word_below w 3) ≡ None) (sym same_size) it.placed;
        used = word_three p c s n x k s' h;
        unseen = ap (λ (z : Value). (word_in z).cells) h.waits.three;
        unsent = ap amount_in (stay (Sending n (below w 3)) refl refl) ∙ it.unsent;
        state = inr (state_there p c s n x k s' h, unready_now);
        unready = λ e. unready_now;
      }

  -- the state of another alternative
  state_stays : (y : Name) (b : Alternative) → same_name x y ≡ false → y.node ≡ n → alternative_at s n y ≡ Some b
      → HasChoice s n m.links store y b
      → (v (WordAt n (below b.wptr 3)) ≡ s (WordAt n (below b.wptr 3)))
      × (word_at now.store (word_below b.wptr 3) ≡ word_at store (word_below b.wptr 3))
  state_stays y b f home is a = (
    kept_word p c s n x k s' h (below b.wptr 3) not_free differs,
    other_at (word_below b.wptr 3) a.placed not_free differs,
  )
    where
      differs : below b.wptr 3 ≢ below w 3
      differs = other_word p c s n x k h.choice h.way.is y b f home is a

      by : (t : Bool) → state_use t ≡ Free → ⊥
      by true e = cc
      by false e = cc

      not_free : use_of s n (below b.wptr 3) ≡ Free → ⊥
      not_free e = by b.runs (sym a.used ∙ e)

  -- the inputs of links
  link_cases : (l : ℕ) → (s' (LinkHalf (end_at n l) Input) ≡ s (LinkHalf (end_at n l) Input))
      ⊎ IsTakenUp x (s (LinkHalf (end_at n l) Input)) (s' (LinkHalf (end_at n l) Input))
  link_cases l =
      taken_up p c s n x k h.before h.operation h.choice h.written h.way s' h.waits (LinkHalf (end_at n l) Input) refl
      refl

  on_now : (l : ℕ) → enabler_on s' n l ≡ enabler_on s n l
  on_now l = by (link_cases l)
    where
      by : (s' (LinkHalf (end_at n l) Input) ≡ s (LinkHalf (end_at n l) Input))
          ⊎ IsTakenUp x (s (LinkHalf (end_at n l) Input)) (s' (LinkHalf (end_at n l) Input))
          → enabler_on s' n l ≡ enabler_on s n l
      by (inl e) = ap (λ (z : Value). link_enabler (link_in z)) e
      by (inr (inl (e, f))) =
          ap (λ (z : Value). link_enabler (link_in z)) f
          ∙ sym (ap link_enabler (half_no_link x (s (LinkHalf (end_at n l) Input)) e))
      by (inr (inr (e, f))) = ap (λ (z : Value). link_enabler (link_in z)) f ∙ sym (ap link_enabler e)

  awaited_still : (l : ℕ) (y : Name) → input_at s n l ≡ Awaited y → input_at s' n l ≡ Awaited y
  awaited_still l y g = by (link_cases l)
    where
      empty : Empty ≡ Awaited y → ⊥
      empty e = cc

      enabled : Enabled x ≡ Awaited y → ⊥
      enabled e = cc

      by : (s' (LinkHalf (end_at n l) Input) ≡ s (LinkHalf (end_at n l) Input))
          ⊎ IsTakenUp x (s (LinkHalf (end_at n l) Input)) (s' (LinkHalf (end_at n l) Input))
          → input_at s' n l ≡ Awaited y
      by (inl e) = ap link_in e ∙ g
      by (inr (inl (e, f))) = absurd (empty (sym (half_no_link x (s (LinkHalf (end_at n l) Input)) e) ∙ g))
      by (inr (inr (e, f))) = absurd (enabled (sym e ∙ g))

  pub changed_choice : IsChanged p s s' n m.links m.links store now.store x
  changed_choice =
      record {
        stands = λ y f home. ap (λ (z : Value). alternative_of (stand_in z)) (stand_stays y f);
        quiet = λ y f home e. ap (λ (z : Value). is_quiet (stand_in z)) (stand_stays y f) ∙ e;
        ports = λ y f home. stay (Ports y) refl refl;
        inputs = λ e y f g. enabler_now e ∙ g;
        inputs_back = λ e y f g. sym (enabler_now e) ∙ g;
        held = λ e y f g. held v s' same_now awaited_now n e y g (awaited_now n e);
        unsent = λ i e z. ap amount_in (stay (Sending n i) refl refl) ∙ z;
        sent = λ e y f g. ap (λ (z : Value). is_taken_half (half_in z)) (half_same e Output);
        size = same_size;
        states = state_stays;
        words = λ e y f g a. (engaged_still (word_number e) a.engaged, channel_at e a.placed a.engaged);
        own_quiet = ap (λ (z : Value). is_quiet (stand_in z)) stood ∙ ap is_some h.way.is;
        own_choice = λ b e. subst (HasChoice s' n m.links now.store x) (sym (is_new_one b e)) new_choice;
        own_apart = λ a e y b f home is same. no_other p c s n x k h.choice h.way.is y b f home is
            (sym same ∙ ap (λ (z : Alternative). z.wptr) (is_new_one a e));
        linked = λ l y f g. on_now l ∙ g;
        linked_back = λ l y f g. sym (on_now l) ∙ g;
        awaited = λ l y f g. awaited_still l y g;
        noticed = λ l y f g. refl;
        own_ports = λ e home g. (
          new,
          new_is,
          has_enabled e (shown.choices.owner x e home (sym (enables_is e) ∙ g)).2,
        );
        own_enabled = own_enabled;
        own_linked = own_linked;
      }
    where
      ports_then : h.written (Ports x) ≡ s (Ports x)
      ports_then = h.way.written.keeps.others (Ports x) refl ∙ h.operation.on.keeps.others (Ports x) refl

      port_then : (e : ℕ) → enables s n x e ≡ true → has_port e (ports_in (h.written (Ports x))) ≡ true
      port_then e f = ap (λ (z : Value). has_port e (ports_in z)) ports_then ∙ f

      enables_is : (e : ℕ) → enables s' n x e ≡ enables s n x e
      enables_is e = ap (λ (z : Value). has_port e (ports_in z)) (stay (Ports x) refl refl)

      own_enabled : (e : ℕ) → enabler_at s' n e ≡ Some x → IsEnabled s' n now.store e x
      own_enabled e g =
          let before : IsEnabled s n store e x = shown.choices.enabled e x (sym (enabler_now e) ∙ g) in
          record {
            internal = before.internal;
            home = before.home;
            port = enables_is e ∙ before.port;
            placed = subst (λ z. word_place_break z e ≡ None) (sym same_size) before.placed;
            engaged = engaged_still (word_number e) before.engaged;
            names = λ f a i. channel_at e before.placed before.engaged
                ∙ before.names (sym (ap (λ (z : Value). is_taken_half (half_in z)) (half_same e Output)) ∙ f) old
                (own_is p c s n x k h.choice h.way.is)
                ∙ ap (λ (z : Alternative). z.wptr + z.priority) (sym (is_new_one a i));
            awaited = λ a i f. ap half_in (subst (λ b. s' (port_place n b e) ≡ awaited_value x b) before.internal
                (h.waits.awaited e (port_then e before.port)));
          }

      has_enabled : (e : ℕ) → HasEnabled s n e x → HasEnabled s' n e x
      has_enabled e (inl (internal, f)) = inl (internal, enabler_now e ∙ f)
      has_enabled e (inr (l, b, is, f)) = inr (l, b, is, on_now l ∙ f)

      own_linked : (l : ℕ) → l < 4 → enabler_on s' n l ≡ Some x → IsEnabledLink s' n l x
      own_linked l b g =
          let before : IsEnabledLink s n l x = shown.choices.linked l x b (sym (on_now l) ∙ g) in
          record {
            home = before.home;
            port = enables_is (input_channel l) ∙ before.port;
            awaited = λ a i f. ap link_in
                (subst (λ j. s' (LinkHalf (end_at n j) Input) ≡ IsLink (Awaited x)) (input_names_link l b)
                (subst (λ t. s' (port_place n t (input_channel l)) ≡ awaited_value x t) (input_is_link l b)
                (h.waits.awaited (input_channel l) (port_then (input_channel l) before.port))));
          }
