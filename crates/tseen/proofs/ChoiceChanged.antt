-- Where one process alone changes its alternative, what is shown of those of others stays shown.
use Rattle.tprocesses.specs.Values.{AwaitedBy}
use Rattle.tprocesses.specs.Values.{word_in}
use Rattle.tproc.specs.declared.channels.Side.TheVariants.{Input, Output}
use Rattle.tprocesses.specs.Places.{WordAt, Sending, Half}
use Rattle.tseen.proofs.Writing.{word_lies}
use Rattle.tprocesses.specs.Touching.{Site, word_number}
use Rattle.std.specs.Prelude.{◌^◌, ◌-◌, slice_index_or, if◌then◌else◌}
use Rattle.std.proofs.Common.{◌%◌, ◌<◌, ◌+◌, arith, pos}
use Rattle.std.proofs.Common.{◌⊎◌, inl, inr, ◌≡◌, ℕ, refl, sym, ap, subst, ◌∙◌, Bool, true, false, length}
use Rattle.std.proofs.Common.{Some, None, List}
use Rattle.tword.specs.Stores.{Store, word_at}
use Rattle.tword.specs.Words.{word_below}
use Rattle.tword.specs.Touches.{word_place_break}
use Rattle.tproc.specs.Channels.{ready}
use Rattle.tproc.specs.Queues.{state_word}
use Rattle.tproc.specs.declared.waiter.LinkEnd.{LinkEnd}
use Rattle.tproc.specs.LinkChannels.{is_link, link_of, quiet_end}
use Rattle.tplan.specs.declared.plan.Plan.{Plan}
use Rattle.tprocesses.specs.Places.{Name, Standing, Ports, same_name}
use Rattle.tprocesses.specs.Values.{Value, Engaged, Awaited, stand_in, half_in, amount_in, ports_in}
use Rattle.tprocesses.specs.Choosing.{has_port, is_taken}
use Rattle.tseen.specs.Words.{use_at}
use Rattle.tseen.specs.Choices.{Alternative, alternative_at, is_quiet, enabler_at, enabler_on, enables, is_sent}
use Rattle.tseen.specs.Choices.{is_due}
use Rattle.tseen.specs.Choices.{input_at, input_channel, IsReady, IsUnready, HasEnabled}
use Rattle.tseen.specs.Choices.{HasChoice, IsEnabled, IsEnabledLink, ShowsChoices, unready_word}
use Rattle.tseen.proofs.After.{State}
use Rattle.tseen.proofs.Cells.{use_of}
use Rattle.tseen.proofs.Choices.{is_state, state_use_is, ready_same, unready_same}
use Rattle.tseen.proofs.InputChannels.{input_is_link, input_names_link}
use Rattle.tseen.proofs.Finished.{one_name}

-- two workspaces with one word for the state of their alternatives are one
pub one_workspace : (site : Site) (whole : site.size % 4 ≡ 0) (v w : ℕ) → v < 2 ^ 32 → w < 2 ^ 32
    → word_place_break site.size (word_below v state_word) ≡ None
    → word_place_break site.size (word_below w state_word) ≡ None
    → word_number (word_below v state_word) ≡ word_number (word_below w state_word) → v ≡ w
one_workspace site whole v w small small' a b e =
    let k = word_lies site whole (word_below v 3) a in
    let l = word_lies site whole (word_below w 3) b in
    let v_is : (v + (2 ^ 32 - 12)) % 2 ^ 32 ≡ word_below v 3 = refl in
    let w_is : (w + (2 ^ 32 - 12)) % 2 ^ 32 ≡ word_below w 3 = refl in
    omega (arith, k.0, k.1, l.0, l.1, e, v_is, w_is, small, small')

-- a channel is ready as before where the same is sent and noticed
pub due_where : (s s' : State) (n : ℕ) (links links' : List LinkEnd)
    → ((d : ℕ) → s' (Half n d Output) ≡ s (Half n d Output))
    → ((l : ℕ) → (slice_index_or links' l quiet_end).noticed ≡ (slice_index_or links l quiet_end).noticed) → (d : ℕ)
    → is_due s' n links' d ≡ is_due s n links d
due_where s s' n links links' halves noticed d = by (is_link d)
  where
    by : (b : Bool)
        → (if b then (slice_index_or links' (link_of Input d) quiet_end).noticed else is_sent s' n d)
        ≡ (if b then (slice_index_or links (link_of Input d) quiet_end).noticed else is_sent s n d)
    by true = noticed (link_of Input d)
    by false = ap (λ (v : Value). is_taken (half_in v)) (halves d)

pub due_same : (s s' : State) (n : ℕ) (links : List LinkEnd)
    → ((d : ℕ) → s' (Half n d Output) ≡ s (Half n d Output)) → (d : ℕ) → is_due s' n links d ≡ is_due s n links d
due_same s s' n links halves d = due_where s s' n links links halves (λ l. refl) d

module _ (p : Plan) (s s' : State) (n : ℕ) (links links' : List LinkEnd) (store store' : Store) (x : Name) where
  -- the alternatives of other processes stay, and this process has one, with channels, or none
  pub record IsChanged : Type 0 where
    pub stands : (y : Name) → same_name x y ≡ false → y.node ≡ n → alternative_at s' n y ≡ alternative_at s n y
    pub quiet : (y : Name) → same_name x y ≡ false → y.node ≡ n → is_quiet (stand_in (s (Standing y))) ≡ true
        → is_quiet (stand_in (s' (Standing y))) ≡ true
    pub ports : (y : Name) → same_name x y ≡ false → y.node ≡ n → s' (Ports y) ≡ s (Ports y)
    pub inputs : (d : ℕ) (y : Name) → same_name x y ≡ false → enabler_at s n d ≡ Some y → enabler_at s' n d ≡ Some y
    pub inputs_back : (d : ℕ) (y : Name) → same_name x y ≡ false → enabler_at s' n d ≡ Some y
        → enabler_at s n d ≡ Some y
    pub held : (d : ℕ) (y : Name) → same_name x y ≡ false → half_in (s (Half n d Input)) ≡ AwaitedBy y
        → half_in (s' (Half n d Input)) ≡ AwaitedBy y
    pub sent : (d : ℕ) (y : Name) → same_name x y ≡ false → enabler_at s n d ≡ Some y → is_sent s' n d ≡ is_sent s n d
    pub unsent : (k : ℕ) → is_state (use_of s n k) ≡ true → amount_in (s (Sending n k)) ≡ pos 0
        → amount_in (s' (Sending n k)) ≡ pos 0
    pub size : length store' ≡ length store
    pub states : (y : Name) (b : Alternative) → same_name x y ≡ false → y.node ≡ n → alternative_at s n y ≡ Some b
        → HasChoice s n links store y b
        → (s' (WordAt n (word_number (word_below b.wptr state_word)))
        ≡ s (WordAt n (word_number (word_below b.wptr state_word))))
        × (word_at store' (word_below b.wptr state_word) ≡ word_at store (word_below b.wptr state_word))
    pub words : (d : ℕ) (y : Name) → same_name x y ≡ false → enabler_at s n d ≡ Some y → IsEnabled s n store d y
        → (use_at s' n d ≡ Engaged) × (word_at store' d ≡ word_at store d)
    -- the inputs of links that other processes have enabled
    pub linked : (l : ℕ) (y : Name) → same_name x y ≡ false → enabler_on s n l ≡ Some y → enabler_on s' n l ≡ Some y
    pub linked_back : (l : ℕ) (y : Name) → same_name x y ≡ false → enabler_on s' n l ≡ Some y
        → enabler_on s n l ≡ Some y
    pub awaited : (l : ℕ) (y : Name) → same_name x y ≡ false → input_at s n l ≡ Awaited y
        → input_at s' n l ≡ Awaited y
    pub noticed : (l : ℕ) (y : Name) → same_name x y ≡ false → enabler_on s n l ≡ Some y
        → (slice_index_or links' l quiet_end).noticed ≡ (slice_index_or links l quiet_end).noticed
    -- the process itself
    pub own_quiet : is_quiet (stand_in (s' (Standing x))) ≡ true
    pub own_choice : (a : Alternative) → alternative_at s' n x ≡ Some a → HasChoice s' n links' store' x a
    pub own_apart : (a : Alternative) → alternative_at s' n x ≡ Some a → (y : Name) (b : Alternative)
        → same_name x y ≡ false → y.node ≡ n → alternative_at s n y ≡ Some b → a.wptr ≡ b.wptr → ⊥
    pub own_ports : (d : ℕ) → x.node ≡ n → enables s' n x d ≡ true
        → (a : Alternative) × (alternative_at s' n x ≡ Some a) × HasEnabled s' n d x
    pub own_enabled : (d : ℕ) → enabler_at s' n d ≡ Some x → IsEnabled s' n store' d x
    pub own_linked : (l : ℕ) → l < 4 → enabler_on s' n l ≡ Some x → IsEnabledLink s' n l x

  module _ (k : IsChanged) (h : ShowsChoices s n links store) where
    enables_alike : (y : Name) (d : ℕ) → same_name x y ≡ false → y.node ≡ n → enables s' n y d ≡ enables s n y d
    enables_alike y d other home = ap (λ (v : Value). has_port d (ports_in v)) (k.ports y other home)

    due_alike : (y : Name) (d : ℕ) → same_name x y ≡ false → y.node ≡ n → enables s n y d ≡ true
        → is_due s' n links' d ≡ is_due s n links d
    due_alike y d other home e = by (h.owner y d home e).2
      where
        by : HasEnabled s n d y → is_due s' n links' d ≡ is_due s n links d
        by (inl (internal, f)) = rw internal (k.sent d y other f)
        by (inr (l, b, is, f)) =
            subst (λ z. is_due s' n links' z ≡ is_due s n links z) (sym is)
            (rw (input_is_link l b, input_names_link l b) (k.noticed l y other f))

    ready_alike : (y : Name) (skips : Bool) → same_name x y ≡ false → y.node ≡ n → IsReady s n links y skips
        → IsReady s' n links' y skips
    ready_alike y skips other home =
        ready_same s s' n links links' y (k.ports y other home) (λ d e. due_alike y d other home e) skips

    unready_alike : (y : Name) (skips : Bool) → same_name x y ≡ false → y.node ≡ n → IsUnready s n links y skips
        → IsUnready s' n links' y skips
    unready_alike y skips other home =
        unready_same s s' n links links' y (k.ports y other home) (λ d e. due_alike y d other home e) skips

    choice_alike : (y : Name) (b : Alternative) → same_name x y ≡ false → y.node ≡ n → alternative_at s n y ≡ Some b
        → HasChoice s n links store y b → HasChoice s' n links' store' y b
    choice_alike y b other home is c =
        record {
          small = c.small;
          placed = subst (λ z. word_place_break z (word_below b.wptr state_word) ≡ None) (sym k.size) c.placed;
          used = ap (λ (v : Value). (word_in v).used) same.0 ∙ c.used;
          unseen = ap (λ (v : Value). (word_in v).cells) same.0 ∙ c.unseen;
          unsent = k.unsent (word_number address) (ap is_state c.used ∙ state_use_is b.runs) c.unsent;
          state = by c.state;
          unready = λ e. unready_alike y b.skips other home (c.unready e);
        }
      where
        address : ℕ
        address = word_below b.wptr state_word

        same : (s' (WordAt n (word_number address)) ≡ s (WordAt n (word_number address)))
            × (word_at store' address ≡ word_at store address)
        same = k.states y b other home is c

        by : ((word_at store address ≡ ready) × IsReady s n links y b.skips)
            ⊎ ((word_at store address ≡ unready_word b.waits) × IsUnready s n links y b.skips)
            → ((word_at store' address ≡ ready) × IsReady s' n links' y b.skips)
            ⊎ ((word_at store' address ≡ unready_word b.waits) × IsUnready s' n links' y b.skips)
        by (inl (e, f)) = inl (same.1 ∙ e, ready_alike y b.skips other home f)
        by (inr (e, f)) = inr (same.1 ∙ e, unready_alike y b.skips other home f)

    choices_now : (y : Name) (b : Alternative) → y.node ≡ n → alternative_at s' n y ≡ Some b
        → HasChoice s' n links' store' y b
    choices_now y b home e = by (same_name x y) refl
      where
        by : (t : Bool) → same_name x y ≡ t → HasChoice s' n links' store' y b
        by true f =
            let same : x ≡ y = one_name p x y f in
            subst (λ z. HasChoice s' n links' store' z b) same (k.own_choice b (ap (alternative_at s' n) same ∙ e))
        by false f =
            let old : alternative_at s n y ≡ Some b = sym (k.stands y f home) ∙ e in
            choice_alike y b f home old (h.choices y b home old)

    apart_now : (y z : Name) (a b : Alternative) → y.node ≡ n → z.node ≡ n → alternative_at s' n y ≡ Some a
        → alternative_at s' n z ≡ Some b → a.wptr ≡ b.wptr → y ≡ z
    apart_now y z a b f g d e i = by (same_name x y) refl (same_name x z) refl
      where
        by : (t : Bool) → same_name x y ≡ t → (u : Bool) → same_name x z ≡ u → y ≡ z
        by true j true l = sym (one_name p x y j) ∙ one_name p x z l
        by true j false l =
            absurd (k.own_apart a (ap (alternative_at s' n) (one_name p x y j) ∙ d) z b l g
            (sym (k.stands z l g) ∙ e) i)
        by false j true l =
            absurd (k.own_apart b (ap (alternative_at s' n) (one_name p x z l) ∙ e) y a j f
            (sym (k.stands y j f) ∙ d) (sym i))
        by false j false l = h.apart y z a b f g (sym (k.stands y j f) ∙ d) (sym (k.stands z l g) ∙ e) i

    quiet_now : (y : Name) → y.node ≡ n → is_quiet (stand_in (s' (Standing y))) ≡ true
    quiet_now y home = by (same_name x y) refl
      where
        by : (t : Bool) → same_name x y ≡ t → is_quiet (stand_in (s' (Standing y))) ≡ true
        by true f = subst (λ z. is_quiet (stand_in (s' (Standing z))) ≡ true) (one_name p x y f) k.own_quiet
        by false f = k.quiet y f home (h.quiet y home)

    abbrev Owns : Name → ℕ → Type 0
    Owns y d = (a : Alternative) × (alternative_at s' n y ≡ Some a) × HasEnabled s' n d y

    owner_now : (y : Name) (d : ℕ) → y.node ≡ n → enables s' n y d ≡ true → Owns y d
    owner_now y d home e = by (same_name x y) refl
      where
        has_enabled : same_name x y ≡ false → HasEnabled s n d y → HasEnabled s' n d y
        has_enabled f (inl (internal, g)) = inl (internal, k.inputs d y f g)
        has_enabled f (inr (l, b, is, g)) = inr (l, b, is, k.linked l y f g)

        by : (t : Bool) → same_name x y ≡ t → Owns y d
        by true f =
            let same : x ≡ y = one_name p x y f in
            subst (λ z. Owns z d) same
            (k.own_ports d (ap (λ (z : Name). z.node) same ∙ home) (ap (λ z. enables s' n z d) same ∙ e))
        by false f =
            let o = h.owner y d home (sym (enables_alike y d f home) ∙ e) in
            (o.0, k.stands y f home ∙ o.1, has_enabled f o.2)

    enabled_now : (d : ℕ) (y : Name) → enabler_at s' n d ≡ Some y → IsEnabled s' n store' d y
    enabled_now d y e = by (same_name x y) refl
      where
        by : (t : Bool) → same_name x y ≡ t → IsEnabled s' n store' d y
        by true f =
            let same : x ≡ y = one_name p x y f in
            subst (λ z. IsEnabled s' n store' d z) same (k.own_enabled d (e ∙ ap (λ z. Some z) (sym same)))
        by false f =
            let before : enabler_at s n d ≡ Some y = k.inputs_back d y f e in
            let old : IsEnabled s n store d y = h.enabled d y before in
            let now = k.words d y f before old in
            record {
              internal = old.internal;
              home = old.home;
              port = enables_alike y d f old.home ∙ old.port;
              placed = subst (λ z. word_place_break z d ≡ None) (sym k.size) old.placed;
              engaged = now.0;
              names = λ g a i. now.1
                  ∙ old.names (sym (k.sent d y f before) ∙ g) a (sym (k.stands y f old.home) ∙ i);
              awaited = λ a i g. k.held d y f (old.awaited a (sym (k.stands y f old.home) ∙ i) g);
            }

    linked_now : (l : ℕ) (y : Name) → l < 4 → enabler_on s' n l ≡ Some y → IsEnabledLink s' n l y
    linked_now l y b e = by (same_name x y) refl
      where
        by : (t : Bool) → same_name x y ≡ t → IsEnabledLink s' n l y
        by true f =
            let same : x ≡ y = one_name p x y f in
            subst (λ z. IsEnabledLink s' n l z) same (k.own_linked l b (e ∙ ap (λ z. Some z) (sym same)))
        by false f =
            let old : IsEnabledLink s n l y = h.linked l y b (k.linked_back l y f e) in
            record {
              home = old.home;
              port = enables_alike y (input_channel l) f old.home ∙ old.port;
              awaited = λ a i g. k.awaited l y f (old.awaited a (sym (k.stands y f old.home) ∙ i) g);
            }

    pub choices_changed : ShowsChoices s' n links' store'
    choices_changed =
        record {
          choices = choices_now;
          apart = apart_now;
          quiet = quiet_now;
          owner = owner_now;
          enabled = enabled_now;
          linked = linked_now;
        }
