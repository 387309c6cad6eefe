-- An operation of an alternative that changes neither channels nor who has enabled them.
use Rattle.tprocesses.specs.Places.{Sending}
use Rattle.tprocesses.specs.Values.{amount_in}
use Rattle.tseen.proofs.ChoiceShown.{is_choice_place}
use Rattle.std.proofs.Common.{option_map, ◌<◌}
use Rattle.std.proofs.Common.{◌≡◌, ◌≢◌, ℕ, ◌+◌, ◌*◌, ◌/◌, ◌≤◌, refl, sym, ap, subst, ◌∙◌, Bool, true, false}
use Rattle.std.proofs.Common.{true≢false}
use Rattle.std.proofs.Common.{length, arith, ◌⊎◌, inl, inr, Option, Some, None, get_or}
use Rattle.tword.specs.Words.{most_neg, word_below}
use Rattle.tword.specs.Stores.{Store, place, word_at}
use Rattle.tword.specs.Touches.{word_place_break}
use Rattle.tcpu.specs.declared.registers.Registers.{Registers}
use Rattle.tproc.specs.declared.channels.Side.{Side}
use Rattle.tproc.specs.declared.channels.Side.TheVariants.{Input, Output}
use Rattle.tproc.specs.Machine.{Control}
use Rattle.tproc.specs.Queues.{state_word}
use Rattle.tplan.specs.declared.plan.Plan.{Plan}
use Rattle.tnet.specs.Rendezvous.{Configuration}
use Rattle.tprocesses.specs.Places.{Place, Name, WordAt, Standing, Ports, Half, LinkHalf, Unfinished, same_name}
use Rattle.tplan.specs.Wires.{end_at}
use Rattle.tprocesses.specs.Values.{Value, Use, Free, Saved, Receiving, Engaged}
use Rattle.tprocesses.specs.Values.{Choosing, Awaiting, Last, Spoilt, Context}
use Rattle.tprocesses.specs.Values.{Choice, Runs, IsStand, word_in, stand_in, half_in, link_in, ports_in}
use Rattle.tprocesses.specs.Choosing.{has_port, is_taken}
use Rattle.tprocesses.specs.Touching.{Site, word_number}
use Rattle.tprocesses.specs.Machine.{site_of}
use Rattle.tseen.specs.Known.{HasRegisters}
use Rattle.tseen.specs.Words.{use_at}
use Rattle.tseen.specs.Choices.{Alternative, alternative, alternative_of, alternative_at, is_quiet, enabler}
use Rattle.tseen.specs.Choices.{enabler_at}
use Rattle.tseen.specs.Choices.{enables, enabler_on, link_enabler, input_at, input_channel, unfired, descriptor_at}
use Rattle.tseen.specs.Choices.{is_sent, HasChoice, HasEnabled, IsEnabled, IsEnabledLink, state_use}
use Rattle.tseen.specs.Shown.{ShowsNode}
use Rattle.tseen.specs.Steps.{IsCurrent}
use Rattle.tseen.proofs.After.{State}
use Rattle.tseen.proofs.Cells.{use_of, Tells}
use Rattle.tseen.proofs.Written.{is_word_of}
use Rattle.tseen.proofs.Writing.{word_lies}
use Rattle.tseen.proofs.Finished.{is_stand_of, one_name}
use Rattle.tseen.proofs.InputChannels.{unfired_enabler}
use Rattle.tseen.proofs.Saving.{below}
use Rattle.tseen.proofs.QueueLinks.{word_alike}
use Rattle.tseen.proofs.Running.{RunsThere}
use Rattle.tseen.proofs.Staying.{channels_stay, link_stays}
use Rattle.tseen.proofs.ChoiceChanged.{IsChanged, choices_changed}
use Rattle.tseen.proofs.ChoiceShown.{HasGone, gone, is_open}
use Rattle.tseen.proofs.Stepped.{shown_node, there}

-- a word that programs may use, or that has the state of an alternative
abbrev pub is_for_choice : Use → Bool
is_for_choice Free = true
is_for_choice Choosing = true
is_for_choice _ = false

pub for_choice_open : (u : Use) → is_for_choice u ≡ true → is_open u ≡ true
for_choice_open Free e = refl
for_choice_open Choosing e = refl
for_choice_open Saved e = absurd (true≢false (sym e))
for_choice_open Receiving e = absurd (true≢false (sym e))
for_choice_open Engaged e = refl
for_choice_open Awaiting e = absurd (true≢false (sym e))
for_choice_open (Last q) e = absurd (true≢false (sym e))
for_choice_open Spoilt e = absurd (true≢false (sym e))

pub not_open_for_choice : (u : Use) → is_open u ≡ false → is_for_choice u ≡ false
not_open_for_choice Free e = e
not_open_for_choice Choosing e = e
not_open_for_choice Engaged e = refl
not_open_for_choice Saved e = refl
not_open_for_choice Receiving e = refl
not_open_for_choice Awaiting e = refl
not_open_for_choice (Last q) e = refl
not_open_for_choice Spoilt e = refl

-- what an alternative has of its context
pub alternative_context : (runs waits : Bool) (k : Context) (a : Alternative) → alternative runs waits k ≡ Some a
    → (a.wptr ≡ k.wptr) × (a.priority ≡ k.priority) × (a.runs ≡ runs) × (a.waits ≡ waits)
alternative_context runs waits k a e = by k.choice e
  where
    of : (choice : Choice) → Alternative
    of choice =
        record { skips = choice.skips; wptr = k.wptr; priority = k.priority; runs = runs; waits = waits }

    by : (o : Option Choice) → option_map of o ≡ Some a
        → (a.wptr ≡ k.wptr) × (a.priority ≡ k.priority) × (a.runs ≡ runs) × (a.waits ≡ waits)
    by None f = absurd (differ f)
      where
        differ : None ≡ Some a → ⊥
        differ g = cc
    by (Some choice) f = (let same : of choice ≡ a = one_is f in (
      ap (λ (z : Alternative). z.wptr) (sym same),
      ap (λ (z : Alternative). z.priority) (sym same),
      ap (λ (z : Alternative). z.runs) (sym same),
      ap (λ (z : Alternative). z.waits) (sym same),
    ))
      where
        one_is : {b b' : Alternative} → Some b ≡ Some b' → b ≡ b'
        one_is g = cc

module _ (p : Plan) (c : Configuration) (s : State) (n : ℕ) (x : Name) (k : IsCurrent p c s n x) where
  abbrev m : Control
  m = k.node.machine.control

  abbrev store : Store
  store = k.node.machine.store

  abbrev running : RunsThere s n k.plan k.node x
  running = there p c s n x k

  abbrev shown : ShowsNode s n k.plan (k.shows.named n) (k.shows.sent n) k.node
  shown = shown_node p c s n x k

  abbrev site : Site
  site = site_of n k.plan

  abbrev pub w : ℕ
  w = m.registers.wptr

  -- words have changed that programs may use or that have the state of the alternative of the process
  pub record IsChoiceWords (s' : State) (last : Store) : Type 0 where
    pub tells : Tells s' n k.plan.memory last
    pub words : (j : ℕ) → (s' (WordAt n j) ≡ s (WordAt n j))
        ⊎ ((is_for_choice (use_of s n j) ≡ true) × (is_for_choice (use_of s' n j) ≡ true))
    pub only : (i : ℕ) → is_for_choice (use_of s n (i / 4)) ≡ false → get_or last i None ≡ get_or store i None
    -- the state of another alternative stays
    pub states : (j : ℕ) → use_of s n j ≡ Choosing → j ≢ below w 3 → s' (WordAt n j) ≡ s (WordAt n j)
    pub state_cells : (i : ℕ) → use_of s n (i / 4) ≡ Choosing → i / 4 ≢ below w 3
        → get_or last i None ≡ get_or store i None
    -- that word is of no other one
    pub own_word : (y : Name) (b : Alternative) → same_name x y ≡ false → y.node ≡ n → alternative_at s n y ≡ Some b
        → HasChoice s n m.links store y b → below b.wptr 3 ≢ below w 3

  module _ (s' : State) (last : Store) (g : IsChoiceWords s' last) where
    -- what is neither free nor the state of an alternative stays
    pub stays : (j : ℕ) → is_for_choice (use_of s n j) ≡ false → s' (WordAt n j) ≡ s (WordAt n j)
    stays j h = by (g.words j)
      where
        by : (s' (WordAt n j) ≡ s (WordAt n j))
            ⊎ ((is_for_choice (use_of s n j) ≡ true) × (is_for_choice (use_of s' n j) ≡ true))
            → s' (WordAt n j) ≡ s (WordAt n j)
        by (inl e) = e
        by (inr e) = absurd (true≢false (sym e.0 ∙ h))

    pub used : (j : ℕ) → is_for_choice (use_of s n j) ≡ false → use_of s' n j ≡ use_of s n j
    used j h = ap (λ (v : Value). (word_in v).used) (stays j h)

    pub engaged_back : (j : ℕ) → use_of s' n j ≡ Engaged → use_of s n j ≡ Engaged
    engaged_back j e = by (g.words j)
      where
        by : (s' (WordAt n j) ≡ s (WordAt n j))
            ⊎ ((is_for_choice (use_of s n j) ≡ true) × (is_for_choice (use_of s' n j) ≡ true))
            → use_of s n j ≡ Engaged
        by (inl f) = ap (λ (v : Value). (word_in v).used) (sym f) ∙ e
        by (inr f) = absurd (true≢false (sym f.1 ∙ ap is_for_choice e))

    pub same_size : length last ≡ length store
    same_size = g.tells.length ∙ sym shown.size

    -- a word whose cells stay
    word_same : (a : ℕ) → word_place_break (length store) a ≡ None
        → ((i : ℕ) → i / 4 ≡ word_number a → get_or last i None ≡ get_or store i None)
        → word_at last a ≡ word_at store a
    word_same a h same =
        let l : (place a ≡ 4 * word_number a) × (most_neg ≤ a) × (4 * word_number a + 4 ≤ k.plan.memory) =
        word_lies site running.whole a (subst (λ z. word_place_break z a ≡ None) shown.size h) in
        word_alike store last a same_size
        (record {
          above = l.1;
          within = omega (arith, l.0, l.2, shown.size);
          aligned = omega (arith, l.0, l.1);
        }) (λ j b. same (place a + j) (omega (arith, l.0, b)))

    pub channel_word : (a : ℕ) → word_place_break (length store) a ≡ None → use_at s n a ≡ Engaged
        → word_at last a ≡ word_at store a
    channel_word a h e =
        word_same a h (λ i f. g.only i (ap is_for_choice (ap (use_of s n) f ∙ e)))

    -- the word of another alternative
    pub state_stays : (y : Name) (b : Alternative) → same_name x y ≡ false → y.node ≡ n → alternative_at s n y ≡ Some b
        → HasChoice s n m.links store y b
        → (s' (WordAt n (below b.wptr 3)) ≡ s (WordAt n (below b.wptr 3)))
        × (word_at last (word_below b.wptr state_word) ≡ word_at store (word_below b.wptr state_word))
    state_stays y b f home is it = by b.runs refl
      where
        j : ℕ
        j = below b.wptr 3

        by : (r : Bool) → b.runs ≡ r
            → (s' (WordAt n j) ≡ s (WordAt n j))
            × (word_at last (word_below b.wptr 3) ≡ word_at store (word_below b.wptr 3))
        by true e =
            let choosing : use_of s n j ≡ Choosing = it.used ∙ ap state_use e in (
              g.states j choosing (g.own_word y b f home is it),
              word_same (word_below b.wptr 3) it.placed (λ i h. g.state_cells i (ap (use_of s n) h ∙ choosing)
                  (λ l. g.own_word y b f home is it (sym h ∙ l))),
            )
        by false e =
            let other : is_for_choice (use_of s n j) ≡ false = ap is_for_choice (it.used ∙ ap state_use e) in (
              stays j other,
              word_same (word_below b.wptr 3) it.placed
                  (λ i h. g.only i (ap (λ z. is_for_choice (use_of s n z)) h ∙ other)),
            )

  -- an alternative of the process before and after has the same workspace and priority
  pub same_context : (s' : State) (after : Registers) (d : Context) → s' (Standing x) ≡ IsStand (Runs d)
      → HasRegisters running.level after d → after.wptr ≡ w → (a b : Alternative) → alternative_at s n x ≡ Some a
      → alternative_at s' n x ≡ Some b → a.wptr + a.priority ≡ b.wptr + b.priority
  same_context s' after d stands knows same_wptr a b e f =
      let old = alternative_context true false running.context a
      (sym (ap (λ (v : Value). alternative_of (stand_in v)) running.stood) ∙ e) in
      let new = alternative_context true false d b
      (sym (ap (λ (v : Value). alternative_of (stand_in v)) stands) ∙ f) in
      omega (
        arith,
        old.0,
        old.1,
        new.0,
        new.1,
        running.registers.wptr,
        running.registers.priority,
        knows.wptr,
        knows.priority,
        same_wptr,
      )

  -- the process has gone on with words that programs may use or that have the state of its alternative
  pub record IsPlainChoice (s' : State) (after : Registers) (last : Store) (d : Context) : Type 0 where
    pub tells : Tells s' n k.plan.memory last
    pub stands : s' (Standing x) ≡ IsStand (Runs d)
    pub knows : HasRegisters running.level after d
    pub same_wptr : after.wptr ≡ w
    pub same_error : after.error ≡ m.registers.error
    pub same_halting : after.halt_on_error ≡ m.registers.halt_on_error
    pub others : (q : Place) → is_word_of n q ≡ false → is_stand_of x q ≡ false → s' q ≡ s q
    pub words : (j : ℕ) → (s' (WordAt n j) ≡ s (WordAt n j))
        ⊎ ((is_for_choice (use_of s n j) ≡ true) × (is_for_choice (use_of s' n j) ≡ true))
    pub only : (i : ℕ) → is_for_choice (use_of s n (i / 4)) ≡ false → get_or last i None ≡ get_or store i None
    -- the state of another alternative stays
    pub states : (j : ℕ) → use_of s n j ≡ Choosing → j ≢ below w 3 → s' (WordAt n j) ≡ s (WordAt n j)
    pub state_cells : (i : ℕ) → use_of s n (i / 4) ≡ Choosing → i / 4 ≢ below w 3
        → get_or last i None ≡ get_or store i None
    -- the alternative of the process
    pub own_choice : (a : Alternative) → alternative_at s' n x ≡ Some a → HasChoice s' n m.links last x a
    pub own_apart : (y : Name) (b : Alternative) → same_name x y ≡ false → y.node ≡ n → alternative_at s n y ≡ Some b
        → b.wptr ≡ w → (a : Alternative) → alternative_at s' n x ≡ Some a → ⊥
    -- that word is of no other one
    pub own_word : (y : Name) (b : Alternative) → same_name x y ≡ false → y.node ≡ n → alternative_at s n y ≡ Some b
        → HasChoice s n m.links store y b → below b.wptr 3 ≢ below w 3
    pub own_keeps : (e : ℕ) → enables s n x e ≡ true → (a : Alternative) × (alternative_at s' n x ≡ Some a)

  module _ (s' : State) (after : Registers) (count : ℕ) (last : Store) (d : Context)
      (g : IsPlainChoice s' after last d) where
    abbrev changes : IsChoiceWords s' last
    changes =
        record {
          tells = g.tells;
          words = g.words;
          only = g.only;
          states = g.states;
          state_cells = g.state_cells;
          own_word = g.own_word;
        }

    halves : (a : ℕ) (side : Side) → s' (Half n a side) ≡ s (Half n a side)
    halves a side = g.others (Half n a side) refl refl

    ports_are : (y : Name) → s' (Ports y) ≡ s (Ports y)
    ports_are y = g.others (Ports y) refl refl

    enabler_is : (e : ℕ) → enabler_at s' n e ≡ enabler_at s n e
    enabler_is e = ap (λ (v : Value). enabler (half_in v)) (halves e Input)

    sent_is : (e : ℕ) → is_sent s' n e ≡ is_sent s n e
    sent_is e = ap (λ (v : Value). is_taken (half_in v)) (halves e Output)

    enables_is : (e : ℕ) → enables s' n x e ≡ enables s n x e
    enables_is e = ap (λ (v : Value). has_port e (ports_in v)) (ports_are x)

    stand_stays : (y : Name) → same_name x y ≡ false → s' (Standing y) ≡ s (Standing y)
    stand_stays y h = g.others (Standing y) refl h

    context_same : (a b : Alternative) → alternative_at s n x ≡ Some a → alternative_at s' n x ≡ Some b
        → a.wptr + a.priority ≡ b.wptr + b.priority
    context_same = same_context s' after d g.stands g.knows g.same_wptr

    input_is : (l : ℕ) → input_at s' n l ≡ input_at s n l
    input_is l = ap link_in (g.others (LinkHalf (end_at n l) Input) refl refl)

    on_is : (l : ℕ) → enabler_on s' n l ≡ enabler_on s n l
    on_is l = ap link_enabler (input_is l)

    has_enabled : (e : ℕ) → HasEnabled s n e x → HasEnabled s' n e x
    has_enabled e (inl (internal, f)) = inl (internal, enabler_is e ∙ f)
    has_enabled e (inr (l, b, is, f)) = inr (l, b, is, on_is l ∙ f)

    changed_choice : IsChanged p s s' n m.links m.links store last x
    changed_choice =
        record {
          stands = λ y f home. ap (λ (v : Value). alternative_of (stand_in v)) (stand_stays y f);
          quiet = λ y f home e. ap (λ (v : Value). is_quiet (stand_in v)) (stand_stays y f) ∙ e;
          ports = λ y f home. ports_are y;
          inputs = λ e y f h. enabler_is e ∙ h;
          inputs_back = λ e y f h. sym (enabler_is e) ∙ h;
          held = λ e y f h. ap half_in (halves e Input) ∙ h;
          unsent = λ j e z. ap amount_in (g.others (Sending n j) refl refl) ∙ z;
          sent = λ e y f h. sent_is e;
          size = same_size s' last changes;
          states = state_stays s' last changes;
          words = λ e y f h it. (
            used s' last changes (word_number e) (ap is_for_choice it.engaged) ∙ it.engaged,
            channel_word s' last changes e it.placed it.engaged,
          );
          own_quiet = ap (λ (v : Value). is_quiet (stand_in v)) g.stands;
          own_choice = g.own_choice;
          own_apart = λ a e y b f home is same. g.own_apart y b f home is (sym same ∙ workspace a e) a e;
          linked = λ l y f h. on_is l ∙ h;
          linked_back = λ l y f h. sym (on_is l) ∙ h;
          awaited = λ l y f h. input_is l ∙ h;
          noticed = λ l y f h. refl;
          own_ports = λ e home h. (let old : enables s n x e ≡ true = sym (enables_is e) ∙ h in
              let keeps = g.own_keeps e old in
              (keeps.0, keeps.1, has_enabled e (shown.choices.owner x e home old).2));
          own_enabled = own_enabled;
          own_linked = own_linked;
        }
      where
        workspace : (a : Alternative) → alternative_at s' n x ≡ Some a → a.wptr ≡ w
        workspace a e =
            (alternative_context true false d a (sym (ap (λ (v : Value). alternative_of (stand_in v)) g.stands) ∙ e)).0
            ∙ g.knows.wptr ∙ g.same_wptr

        own_enabled : (e : ℕ) → enabler_at s' n e ≡ Some x → IsEnabled s' n last e x
        own_enabled e h =
            let old : IsEnabled s n store e x = shown.choices.enabled e x (sym (enabler_is e) ∙ h) in
            let own = shown.choices.owner x e old.home old.port in
            record {
              internal = old.internal;
              home = old.home;
              port = enables_is e ∙ old.port;
              placed = subst (λ z. word_place_break z e ≡ None) (sym (same_size s' last changes)) old.placed;
              engaged = used s' last changes (word_number e) (ap is_for_choice old.engaged) ∙ old.engaged;
              names = λ f a i. channel_word s' last changes e old.placed old.engaged
                  ∙ old.names (sym (sent_is e) ∙ f) own.0 own.1
                  ∙ context_same own.0 a own.1 i;
              awaited = λ a i f. absurd (true≢false (sym f ∙ (alternative_context true false d a
                  (sym (ap (λ (v : Value). alternative_of (stand_in v)) g.stands) ∙ i)).3));
            }

        own_linked : (l : ℕ) → l < 4 → enabler_on s' n l ≡ Some x → IsEnabledLink s' n l x
        own_linked l b h =
            let old : IsEnabledLink s n l x = shown.choices.linked l x b (sym (on_is l) ∙ h) in
            record {
              home = old.home;
              port = enables_is (input_channel l) ∙ old.port;
              awaited = λ a i f. absurd (true≢false (sym f ∙ (alternative_context true false d a
                  (sym (ap (λ (v : Value). alternative_of (stand_in v)) g.stands) ∙ i)).3));
            }

    -- who has enabled the input of a link has the same descriptor
    descriptor_is : (l : ℕ) → l < 4 → (y : Name) → unfired (input_at s n l) ≡ Some y
        → descriptor_at s' n y ≡ descriptor_at s n y
    descriptor_is l b y e = by (same_name x y) refl
      where
        old : IsEnabledLink s n l y
        old = shown.choices.linked l y b (unfired_enabler (input_at s n l) y e)

        own_is : x.node ≡ n → enables s n x (input_channel l) ≡ true → descriptor_at s' n x ≡ descriptor_at s n x
        own_is home port =
            let keeps = g.own_keeps (input_channel l) port in
            let own = shown.choices.owner x (input_channel l) home port in
            ap described keeps.1 ∙ ap (λ z. Some z) (sym (context_same own.0 keeps.0 own.1 keeps.1))
            ∙ sym (ap described own.1)
          where
            described : Option Alternative → Option ℕ
            described o = option_map (λ (a : Alternative). a.wptr + a.priority) o

        by : (t : Bool) → same_name x y ≡ t → descriptor_at s' n y ≡ descriptor_at s n y
        by false f = ap (λ (v : Value). option_map (λ (a : Alternative). a.wptr + a.priority)
            (alternative_of (stand_in v))) (stand_stays y f)
        by true f =
            let same : x ≡ y = one_name p x y f in
            subst (λ z. descriptor_at s' n z ≡ descriptor_at s n z) same
            (own_is (ap (λ (z : Name). z.node) same ∙ old.home)
            (ap (λ z. enables s n z (input_channel l)) same ∙ old.port))

    -- so the process has gone on
    pub plain_gone : HasGone p c s n x k s' after count m.links last d
    plain_gone =
        record {
          tells = g.tells;
          stands = g.stands;
          knows = g.knows;
          same_wptr = g.same_wptr;
          same_error = g.same_error;
          same_halting = g.same_halting;
          others = other;
          words = λ j. opened j (g.words j);
          only = λ i h. g.only i (not_open_for_choice (use_of s n (i / 4)) h);
          channels = channels_stay s s' n (k.shows.named n) (k.shows.named n) k.node.machine
              (gone p c s n x k after count m.links last) (λ b. refl)
              (λ j e. used s' last changes j (ap is_for_choice e) ∙ e) (engaged_back s' last changes) halves (λ b. refl)
              (same_size s' last changes) (channel_word s' last changes)
              shown.channels;
          choices = choices_changed p s s' n m.links m.links store last x changed_choice shown.choices;
          same_inputs = λ l. refl;
          same_claims = refl;
          notices = λ l e. e;
          linked = λ l b. link_stays s s' n (k.shows.named n) (k.shows.named n) (k.shows.sent n) k.node
              (record k.node { machine = gone p c s n x k after count m.links last }) l (λ w. refl)
              (λ side. g.others (LinkHalf (end_at n l) side) refl refl)
              (g.others (Unfinished (end_at n l)) refl refl) (descriptor_is l b) refl refl (shown.links l b);
        }
      where
        opened : (j : ℕ) → (s' (WordAt n j) ≡ s (WordAt n j))
            ⊎ ((is_for_choice (use_of s n j) ≡ true) × (is_for_choice (use_of s' n j) ≡ true))
            → (s' (WordAt n j) ≡ s (WordAt n j)) ⊎ ((is_open (use_of s n j) ≡ true) × (is_open (use_of s' n j) ≡ true))
        opened j (inl e) = inl e
        opened j (inr e) = inr (for_choice_open _ e.0, for_choice_open _ e.1)

        other : (q : Place) → is_choice_place n x q ≡ false → s' q ≡ s q
        other (WordAt i j) h = g.others (WordAt i j) h refl
        other (Standing y) h = g.others (Standing y) refl h
        other q h = g.others q refl refl
