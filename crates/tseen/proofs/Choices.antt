-- What is shown of alternatives stays shown where what it looks at stays.
use Rattle.tprocesses.specs.Values.{AwaitedBy}
use Rattle.tprocesses.specs.Values.{word_in}
use Rattle.tprocesses.specs.Places.{WordAt, Sending}
use Rattle.tseen.specs.Choices.{state_use}
use Rattle.tprocesses.specs.Values.{Awaiting, Receiving, Last, Spoilt}
use Rattle.std.proofs.lemmas.Bool.{or_cases, eqb-true}
use Rattle.std.specs.Prelude.{◌||◌, ◌==◌}
use Rattle.std.proofs.Common.{◌⊎◌, inl, inr, ◌≡◌, ℕ, refl, sym, ap, subst, ◌∙◌, Bool, true, false, length, Option, Some}
use Rattle.std.proofs.Common.{None, option_map, true≢false, pos, List, ◌<◌}
use Rattle.std.specs.Prelude.{is_none}
use Rattle.tword.specs.Stores.{Store, word_at}
use Rattle.tword.specs.Touches.{word_place_break}
use Rattle.tword.specs.Words.{word_below}
use Rattle.tproc.specs.declared.channels.Side.{Side}
use Rattle.tproc.specs.declared.channels.Side.TheVariants.{Input, Output}
use Rattle.tproc.specs.Channels.{ready}
use Rattle.tproc.specs.Queues.{state_word}
use Rattle.tproc.specs.declared.waiter.LinkEnd.{LinkEnd}
use Rattle.tplan.specs.declared.plan.Plan.{Plan}
use Rattle.tprocesses.specs.Places.{Name, Standing, Half, Ports, same_name}
use Rattle.tprocesses.specs.Values.{Value, Use, Free, Saved, Engaged}
use Rattle.tprocesses.specs.Values.{Choosing, Choice, Context, Runs, IsStand, stand_in}
use Rattle.tprocesses.specs.Values.{half_in, ports_in, amount_in}
use Rattle.tprocesses.specs.Choosing.{has_port, is_taken}
use Rattle.tprocesses.specs.Touching.{word_number}
use Rattle.tseen.specs.Words.{use_at}
use Rattle.tseen.specs.Choices.{Alternative, alternative, alternative_of, alternative_at, is_quiet}
use Rattle.tseen.specs.Choices.{enabler, enabler_at, enabler_on, enables, is_sent, is_due, input_channel, IsReady}
use Rattle.tseen.specs.Choices.{HasEnabled, IsEnabledLink}
use Rattle.tseen.specs.Choices.{IsUnready, HasChoice, IsEnabled, ShowsChoices, unready_word}
use Rattle.tseen.proofs.After.{State}
use Rattle.tseen.proofs.Cells.{use_of}
use Rattle.tseen.proofs.Finished.{one_name}
use Rattle.tseen.proofs.InputChannels.{KeepsInputs, due_stays, enabler_stays, awaited_stays}

-- the alternative of a context
pub alternative_with : (runs waits : Bool) (c : Context) (choice : Choice) → c.choice ≡ Some choice
    → alternative runs waits c
    ≡ Some (record { skips = choice.skips; wptr = c.wptr; priority = c.priority; runs = runs; waits = waits })
alternative_with runs waits c choice e =
    ap (λ (o : Option Choice). option_map (λ (choice : Choice). record {
      skips = choice.skips;
      wptr = c.wptr;
      priority = c.priority;
      runs = runs;
      waits = waits;
    }) o) e

pub alternative_none : (runs waits : Bool) (c : Context) → c.choice ≡ None → alternative runs waits c ≡ None
alternative_none runs waits c e =
    ap (λ (o : Option Choice). option_map (λ (choice : Choice). record {
      skips = choice.skips;
      wptr = c.wptr;
      priority = c.priority;
      runs = runs;
      waits = waits;
    }) o) e

pub none_is : {A : Type 0} (o : Option A) → is_none o ≡ true → o ≡ None
none_is None e = refl
none_is (Some a) e = absurd (true≢false (sym e))

-- two contexts with the same one
pub alternative_alike : (c c' : Context) → c'.choice ≡ c.choice → c'.priority ≡ c.priority
    → (c'.choice ≡ None) ⊎ (c'.wptr ≡ c.wptr) → alternative true false c' ≡ alternative true false c
alternative_alike c c' same priority (inl e) =
    alternative_none true false c' e ∙ sym (alternative_none true false c (sym same ∙ e))
alternative_alike c c' same priority (inr e) = λ i. option_map (λ (choice : Choice). record {
  skips = choice.skips;
  wptr = e i;
  priority = priority i;
  runs = true;
  waits = false;
}) (same i)

-- a word is in use as a channel or for an alternative
abbrev pub is_lasting : Use → Bool
is_lasting Engaged = true
is_lasting Choosing = true
is_lasting Awaiting = true
is_lasting _ = false

-- a word has the state of an alternative
abbrev pub is_state : Use → Bool
is_state Choosing = true
is_state Awaiting = true
is_state _ = false

pub state_lasts : (u : Use) → is_state u ≡ true → is_lasting u ≡ true
state_lasts Choosing e = refl
state_lasts Awaiting e = refl
state_lasts Free e = absurd (true≢false (sym e))
state_lasts Saved e = absurd (true≢false (sym e))
state_lasts Receiving e = absurd (true≢false (sym e))
state_lasts Engaged e = absurd (true≢false (sym e))
state_lasts (Last q) e = absurd (true≢false (sym e))
state_lasts Spoilt e = absurd (true≢false (sym e))

pub state_use_is : (runs : Bool) → is_state (state_use runs) ≡ true
state_use_is true = refl
state_use_is false = refl

pub lasting_not_free : {used : Use} → is_lasting used ≡ true → used ≡ Free → ⊥
lasting_not_free e f = true≢false (sym e ∙ ap is_lasting f)

pub lasting_not_saved : {used : Use} → is_lasting used ≡ true → used ≡ Saved → ⊥
lasting_not_saved e f = true≢false (sym e ∙ ap is_lasting f)

-- whether an alternative need not wait, where its channels are those and the same are ready
module _ (s s' : State) (n : ℕ) (links links' : List LinkEnd) (x : Name) (ports : s' (Ports x) ≡ s (Ports x))
    (due : (d : ℕ) → enables s n x d ≡ true → is_due s' n links' d ≡ is_due s n links d) where
  pub enables_same : (d : ℕ) → enables s' n x d ≡ enables s n x d
  enables_same d = ap (λ (v : Value). has_port d (ports_in v)) ports

  pub ready_same : (skips : Bool) → IsReady s n links x skips → IsReady s' n links' x skips
  ready_same skips (inl e) = inl e
  ready_same skips (inr (d, e, f)) = inr (d, enables_same d ∙ e, due d e ∙ f)

  pub unready_same : (skips : Bool) → IsUnready s n links x skips → IsUnready s' n links' x skips
  unready_same skips (e, f) = (
    e,
    λ d g. (let old : enables s n x d ≡ true = sym (enables_same d) ∙ g in due d old ∙ f d old),
  )

-- where one process alone stands elsewhere
module _ (p : Plan) (s s' : State) (n : ℕ) (x : Name)
    (stay : (y : Name) → same_name x y ≡ false → s' (Standing y) ≡ s (Standing y)) where
  pub stands_alike : alternative_at s' n x ≡ alternative_at s n x → (y : Name)
      → alternative_at s' n y ≡ alternative_at s n y
  stands_alike own y = by (same_name x y) refl
    where
      by : (b : Bool) → same_name x y ≡ b → alternative_at s' n y ≡ alternative_at s n y
      by true e = subst (λ z. alternative_at s' n z ≡ alternative_at s n z) (one_name p x y e) own
      by false e = ap (λ (v : Value). alternative_of (stand_in v)) (stay y e)

  pub quiet_alike : is_quiet (stand_in (s' (Standing x))) ≡ true → (y : Name)
      → is_quiet (stand_in (s (Standing y))) ≡ true → is_quiet (stand_in (s' (Standing y))) ≡ true
  quiet_alike own y h = by (same_name x y) refl
    where
      by : (b : Bool) → same_name x y ≡ b → is_quiet (stand_in (s' (Standing y))) ≡ true
      by true e = subst (λ z. is_quiet (stand_in (s' (Standing z))) ≡ true) (one_name p x y e) own
      by false e = ap (λ (v : Value). is_quiet (stand_in v)) (stay y e) ∙ h

-- where two processes alone stand elsewhere
module _ (p : Plan) (s s' : State) (n : ℕ) (x z : Name)
    (stay : (y : Name) → same_name x y ≡ false → same_name z y ≡ false → s' (Standing y) ≡ s (Standing y)) where
  pub both_alike : alternative_at s' n x ≡ alternative_at s n x → alternative_at s' n z ≡ alternative_at s n z
      → (y : Name) → alternative_at s' n y ≡ alternative_at s n y
  both_alike own other y = by (same_name x y) refl (same_name z y) refl
    where
      by : (a : Bool) → same_name x y ≡ a → (b : Bool) → same_name z y ≡ b
          → alternative_at s' n y ≡ alternative_at s n y
      by true e b f = subst (λ z. alternative_at s' n z ≡ alternative_at s n z) (one_name p x y e) own
      by false e true f = subst (λ z. alternative_at s' n z ≡ alternative_at s n z) (one_name p z y f) other
      by false e false f = ap (λ (v : Value). alternative_of (stand_in v)) (stay y e f)

  pub both_quiet : is_quiet (stand_in (s' (Standing x))) ≡ true → is_quiet (stand_in (s' (Standing z))) ≡ true
      → (y : Name) → is_quiet (stand_in (s (Standing y))) ≡ true → is_quiet (stand_in (s' (Standing y))) ≡ true
  both_quiet own other y h = by (same_name x y) refl (same_name z y) refl
    where
      by : (a : Bool) → same_name x y ≡ a → (b : Bool) → same_name z y ≡ b
          → is_quiet (stand_in (s' (Standing y))) ≡ true
      by true e b f = subst (λ z. is_quiet (stand_in (s' (Standing z))) ≡ true) (one_name p x y e) own
      by false e true f = subst (λ z. is_quiet (stand_in (s' (Standing z))) ≡ true) (one_name p z y f) other
      by false e false f = ap (λ (v : Value). is_quiet (stand_in v)) (stay y e f) ∙ h

-- a process has no alternative where the word is free that would have its state
pub no_choice : (s : State) (n : ℕ) (links : List LinkEnd) (store : Store) (x : Name) (c : Context)
    → ShowsChoices s n links store → x.node ≡ n
    → s (Standing x) ≡ IsStand (Runs c) → use_at s n (word_below c.wptr state_word) ≡ Free → c.choice ≡ None
no_choice s n links store x c h home stood free = by c.choice refl
  where
    differ : Choosing ≡ Free → ⊥
    differ e = cc

    by : (o : Option Choice) → c.choice ≡ o → c.choice ≡ None
    by None e = e
    by (Some choice) e =
        let a : Alternative =
        record { skips = choice.skips; wptr = c.wptr; priority = c.priority; runs = true; waits = false } in
        let is : alternative_at s n x ≡ Some a =
        ap (λ (v : Value). alternative_of (stand_in v)) stood ∙ alternative_with true false c choice e in
        absurd (differ (sym (h.choices x a home is).used ∙ free))

-- also where it could have moved without one
pub no_choice_moved : (s : State) (n : ℕ) (links : List LinkEnd) (store : Store) (x : Name) (c : Context) (w : ℕ)
    → ShowsChoices s n links store
    → x.node ≡ n → s (Standing x) ≡ IsStand (Runs c) → (is_none c.choice || (c.wptr == w)) ≡ true
    → use_at s n (word_below w state_word) ≡ Free → c.choice ≡ None
no_choice_moved s n links store x c w h home stood still free = by (or_cases (is_none c.choice) (c.wptr == w) still)
  where
    by : (is_none c.choice ≡ true) ⊎ ((c.wptr == w) ≡ true) → c.choice ≡ None
    by (inl e) = none_is c.choice e
    by (inr e) =
        no_choice s n links store x c h home stood
        (subst (λ a. use_at s n (word_below a state_word) ≡ Free) (sym (eqb-true c.wptr w e)) free)

module _ (s s' : State) (n : ℕ) (links links' : List LinkEnd) (store store' : Store) where
  -- the alternatives stay, with their words and channels
  pub record AreKeptChoices : Type 0 where
    pub stands : (x : Name) → x.node ≡ n → alternative_at s' n x ≡ alternative_at s n x
    pub quiet : (x : Name) → x.node ≡ n → is_quiet (stand_in (s (Standing x))) ≡ true
        → is_quiet (stand_in (s' (Standing x))) ≡ true
    pub ports : (x : Name) → x.node ≡ n → s' (Ports x) ≡ s (Ports x)
    pub inputs : (d : ℕ) → enabler_at s' n d ≡ enabler_at s n d
    pub held : (d : ℕ) (x : Name) → half_in (s (Half n d Input)) ≡ AwaitedBy x
        → half_in (s' (Half n d Input)) ≡ AwaitedBy x
    pub linked : KeepsInputs s s' n links links'
    pub sent : (d : ℕ) (x : Name) → enabler_at s n d ≡ Some x → is_sent s' n d ≡ is_sent s n d
    pub unsent : (k : ℕ) → is_state (use_of s n k) ≡ true → amount_in (s (Sending n k)) ≡ pos 0
        → amount_in (s' (Sending n k)) ≡ pos 0
    pub choosing : (k : ℕ) → is_state (use_of s n k) ≡ true → s' (WordAt n k) ≡ s (WordAt n k)
    pub engaged : (d : ℕ) (x : Name) → enabler_at s n d ≡ Some x → use_at s n d ≡ Engaged → use_at s' n d ≡ Engaged
    pub size : length store' ≡ length store
    pub states : (a : ℕ) → word_place_break (length store) a ≡ None → is_state (use_at s n a) ≡ true
        → word_at store' a ≡ word_at store a
    pub words : (d : ℕ) (x : Name) → enabler_at s n d ≡ Some x → word_place_break (length store) d ≡ None
        → use_at s n d ≡ Engaged → word_at store' d ≡ word_at store d

  module _ (k : AreKeptChoices) (h : ShowsChoices s n links store) where
    enables_alike : (x : Name) (d : ℕ) → x.node ≡ n → enables s' n x d ≡ enables s n x d
    enables_alike x d home = ap (λ (v : Value). has_port d (ports_in v)) (k.ports x home)

    due_alike : (x : Name) (d : ℕ) → x.node ≡ n → enables s n x d ≡ true
        → is_due s' n links' d ≡ is_due s n links d
    due_alike x d home e =
        due_stays s s' n links links' k.linked d x (h.owner x d home e).2 (λ f. k.sent d x f)

    ready_alike : (x : Name) (skips : Bool) → x.node ≡ n → IsReady s n links x skips → IsReady s' n links' x skips
    ready_alike x skips home = ready_same s s' n links links' x (k.ports x home) (λ d e. due_alike x d home e) skips

    unready_alike : (x : Name) (skips : Bool) → x.node ≡ n → IsUnready s n links x skips
        → IsUnready s' n links' x skips
    unready_alike x skips home = unready_same s s' n links links' x (k.ports x home) (λ d e. due_alike x d home e) skips

    choice_alike : (x : Name) (a : Alternative) → x.node ≡ n → HasChoice s n links store x a
        → HasChoice s' n links' store' x a
    choice_alike x a home c =
        record {
          small = c.small;
          placed = subst (λ z. word_place_break z (word_below a.wptr state_word) ≡ None) (sym k.size) c.placed;
          used = ap (λ (v : Value). (word_in v).used) same_word ∙ c.used;
          unseen = ap (λ (v : Value). (word_in v).cells) same_word ∙ c.unseen;
          unsent = k.unsent (word_number address) is_used c.unsent;
          state = by c.state;
          unready = λ e. unready_alike x a.skips home (c.unready e);
        }
      where
        address : ℕ
        address = word_below a.wptr state_word

        is_used : is_state (use_at s n address) ≡ true
        is_used = ap is_state c.used ∙ state_use_is a.runs

        same_word : s' (WordAt n (word_number address)) ≡ s (WordAt n (word_number address))
        same_word = k.choosing (word_number address) is_used

        by : ((word_at store address ≡ ready) × IsReady s n links x a.skips)
            ⊎ ((word_at store address ≡ unready_word a.waits) × IsUnready s n links x a.skips)
            → ((word_at store' address ≡ ready) × IsReady s' n links' x a.skips)
            ⊎ ((word_at store' address ≡ unready_word a.waits) × IsUnready s' n links' x a.skips)
        by (inl (e, f)) = inl (k.states address c.placed is_used ∙ e, ready_alike x a.skips home f)
        by (inr (e, f)) = inr (k.states address c.placed is_used ∙ e, unready_alike x a.skips home f)

    pub choices_kept : ShowsChoices s' n links' store'
    choices_kept =
        record {
          choices = λ x a home e. choice_alike x a home (h.choices x a home (sym (k.stands x home) ∙ e));
          apart = λ x y a b f g d e i. h.apart x y a b f g (sym (k.stands x f) ∙ d) (sym (k.stands y g) ∙ e) i;
          quiet = λ x home. k.quiet x home (h.quiet x home);
          owner = λ x d home e. (let o = h.owner x d home (sym (enables_alike x d home) ∙ e) in
              (o.0, k.stands x home ∙ o.1, has_enabled d x o.2));
          enabled = enabled_now;
          linked = linked_now;
        }
      where
        has_enabled : (d : ℕ) (x : Name) → HasEnabled s n d x → HasEnabled s' n d x
        has_enabled d x (inl (internal, e)) = inl (internal, k.inputs d ∙ e)
        has_enabled d x (inr (l, b, is, e)) = inr (l, b, is, enabler_stays s s' n links links' k.linked l ∙ e)

        enabled_now : (d : ℕ) (x : Name) → enabler_at s' n d ≡ Some x → IsEnabled s' n store' d x
        enabled_now d x e =
            let before : enabler_at s n d ≡ Some x = sym (k.inputs d) ∙ e in
            let old : IsEnabled s n store d x = h.enabled d x before in
            record {
              internal = old.internal;
              home = old.home;
              port = enables_alike x d old.home ∙ old.port;
              placed = subst (λ z. word_place_break z d ≡ None) (sym k.size) old.placed;
              engaged = k.engaged d x before old.engaged;
              names = λ f a g. k.words d x before old.placed old.engaged
                  ∙ old.names (sym (k.sent d x before) ∙ f) a (sym (k.stands x old.home) ∙ g);
              awaited = λ a g f. k.held d x (old.awaited a (sym (k.stands x old.home) ∙ g) f);
            }

        linked_now : (l : ℕ) (x : Name) → l < 4 → enabler_on s' n l ≡ Some x → IsEnabledLink s' n l x
        linked_now l x b e =
            let old : IsEnabledLink s n l x = h.linked l x b (sym (enabler_stays s s' n links links' k.linked l) ∙ e) in
            record {
              home = old.home;
              port = enables_alike x (input_channel l) old.home ∙ old.port;
              awaited = λ a g f. awaited_stays s s' n links links' k.linked l x
                  (old.awaited a (sym (k.stands x old.home) ∙ g) f);
            }

-- where all halves stay
module _ (s s' : State) (n : ℕ) (links links' : List LinkEnd) (store store' : Store)
    (inputs : KeepsInputs s s' n links links')
    (stands : (x : Name) → x.node ≡ n → alternative_at s' n x ≡ alternative_at s n x)
    (quiet : (x : Name) → x.node ≡ n → is_quiet (stand_in (s (Standing x))) ≡ true
    → is_quiet (stand_in (s' (Standing x))) ≡ true)
    (ports : (x : Name) → x.node ≡ n → s' (Ports x) ≡ s (Ports x))
    (halves : (c : ℕ) (side : Side) → s' (Half n c side) ≡ s (Half n c side))
    (unsent : (k : ℕ) → is_state (use_of s n k) ≡ true → amount_in (s (Sending n k)) ≡ pos 0
    → amount_in (s' (Sending n k)) ≡ pos 0)
    (lasting : (k : ℕ) → is_lasting (use_of s n k) ≡ true → s' (WordAt n k) ≡ s (WordAt n k))
    (size : length store' ≡ length store)
    (words : (a : ℕ) → word_place_break (length store) a ≡ None → is_lasting (use_at s n a) ≡ true
    → word_at store' a ≡ word_at store a) where
  pub choices_stay : ShowsChoices s n links store → ShowsChoices s' n links' store'
  choices_stay =
      choices_kept s s' n links links' store store' (record {
        linked = inputs;
        stands = stands;
        quiet = quiet;
        ports = ports;
        inputs = λ d. ap (λ (v : Value). enabler (half_in v)) (halves d Input);
        held = λ d x e. ap half_in (halves d Input) ∙ e;
        unsent = unsent;
        sent = λ d x e. ap (λ (v : Value). is_taken (half_in v)) (halves d Output);
        choosing = λ k e. lasting k (state_lasts (use_of s n k) e);
        engaged = λ d x e f. ap (λ (v : Value). (word_in v).used) (lasting (word_number d) (ap is_lasting f)) ∙ f;
        size = size;
        states = λ a e f. words a e (state_lasts (use_at s n a) f);
        words = λ d x e f g. words d f (ap is_lasting g);
      })
