-- The alternative of a process becomes ready, since a byte was noticed at one of its links: those of others stay.
use Rattle.std.proofs.Common.{◌≡◌, ◌≢◌, ℕ, ◌+◌, ◌<◌, ◌%◌, sym, ap, subst, ◌∙◌, Bool, true, false, true≢false}
use Rattle.std.proofs.Common.{List, length, Some, None, inl, inr}
use Rattle.std.specs.Prelude.{slice_index_or, ◌^◌}
use Rattle.tword.specs.Stores.{Store, word_at}
use Rattle.tword.specs.Words.{word_below}
use Rattle.tword.specs.Touches.{word_place_break}
use Rattle.tproc.specs.declared.channels.Side.TheVariants.{Input, Output}
use Rattle.tproc.specs.declared.waiter.LinkEnd.{LinkEnd}
use Rattle.tproc.specs.Channels.{ready}
use Rattle.tproc.specs.LinkChannels.{quiet_end}
use Rattle.tproc.specs.Queues.{state_word}
use Rattle.tplan.specs.declared.plan.Plan.{Plan}
use Rattle.tprocesses.specs.Places.{Name, WordAt, Sending, Standing, Ports, Half, same_name}
use Rattle.tprocesses.specs.Values.{Value, Engaged, Awaited, word_in, stand_in}
use Rattle.tprocesses.specs.Values.{half_in, amount_in, ports_in}
use Rattle.tprocesses.specs.Choosing.{has_port, is_taken}
use Rattle.tprocesses.specs.Touching.{Site, word_number}
use Rattle.tseen.specs.Words.{use_at}
use Rattle.tseen.specs.Choices.{Alternative, alternative_of, alternative_at, is_quiet, enabler, enabler_at, enabler_on}
use Rattle.tseen.specs.Choices.{input_at, enables, input_channel, state_use, IsReady, HasEnabled, HasChoice, IsEnabled}
use Rattle.tseen.specs.Choices.{IsEnabledLink, ShowsChoices}
use Rattle.tseen.proofs.After.{State}
use Rattle.tseen.proofs.Cells.{use_of}
use Rattle.tseen.proofs.ChoiceChanged.{IsChanged, choices_changed, one_workspace}
use Rattle.tseen.proofs.Choices.{is_lasting, is_state, state_lasts, state_use_is}
use Rattle.tseen.proofs.Finished.{place_itself}

module _ (p : Plan) (site : Site) (whole : site.size % 4 ≡ 0) (s s' : State) (links links' : List LinkEnd)
    (store store' : Store) (size : length store ≡ site.size) (x : Name) (a b : Alternative) where
  abbrev n : ℕ
  n = site.number

  -- what changed
  pub record BecomesReady : Type 0 where
    pub home : x.node ≡ n
    pub before : alternative_at s n x ≡ Some a
    pub now : alternative_at s' n x ≡ Some b
    pub wptr : b.wptr ≡ a.wptr
    pub priority : b.priority ≡ a.priority
    pub runs : b.runs ≡ a.runs
    pub awake : b.waits ≡ false
    pub stands : (y : Name) → same_name x y ≡ false → s' (Standing y) ≡ s (Standing y)
    pub quiet : is_quiet (stand_in (s' (Standing x))) ≡ true
    pub ports : (y : Name) → s' (Ports y) ≡ s (Ports y)
    pub words : (k : ℕ) → s' (WordAt n k) ≡ s (WordAt n k)
    pub sendings : (k : ℕ) → s' (Sending n k) ≡ s (Sending n k)
    pub inputs : (d : ℕ) → s' (Half n d Input) ≡ s (Half n d Input)
    pub outputs : (d : ℕ) → s' (Half n d Output) ≡ s (Half n d Output)
    pub enablers : (l : ℕ) → enabler_on s' n l ≡ enabler_on s n l
    pub awaited : (l : ℕ) (y : Name) → same_name x y ≡ false → input_at s n l ≡ Awaited y
        → input_at s' n l ≡ Awaited y
    pub noticed : (l : ℕ) (y : Name) → same_name x y ≡ false → enabler_on s n l ≡ Some y
        → (slice_index_or links' l quiet_end).noticed ≡ (slice_index_or links l quiet_end).noticed
    -- the word of its state alone was set
    pub same_size : length store' ≡ length store
    pub others : (d : ℕ) → word_place_break (length store) d ≡ None → is_lasting (use_at s n d) ≡ true
        → word_number d ≢ word_number (word_below a.wptr state_word) → word_at store' d ≡ word_at store d
    pub is : word_at store' (word_below a.wptr state_word) ≡ ready
    pub due : IsReady s' n links' x b.skips

  module _ (k : BecomesReady) (h : ShowsChoices s n links store) where
    was : HasChoice s n links store x a
    was = h.choices x a k.home k.before

    one : {c d : Alternative} → Some c ≡ Some d → c ≡ d
    one e = cc

    uses : (j : ℕ) → use_of s' n j ≡ use_of s n j
    uses j = ap (λ (v : Value). (word_in v).used) (k.words j)

    -- another alternative has another word for its state
    other_word : (y : Name) (c : Alternative) → same_name x y ≡ false → y.node ≡ n → alternative_at s n y ≡ Some c
        → HasChoice s n links store y c
        → word_number (word_below c.wptr state_word) ≢ word_number (word_below a.wptr state_word)
    other_word y c other home is has e =
        true≢false (sym (place_itself p (Standing x)) ∙ ap (same_name x) (sym (h.apart y x c a home k.home is k.before
        (one_workspace site whole c.wptr a.wptr has.small.1 was.small.1
        (subst (λ z. word_place_break z (word_below c.wptr state_word) ≡ None) size has.placed)
        (subst (λ z. word_place_break z (word_below a.wptr state_word) ≡ None) size was.placed) e))) ∙ other)

    -- a channel word is not the word of its state
    not_state : (d : ℕ) → use_at s n d ≡ Engaged → word_number d ≢ word_number (word_below a.wptr state_word)
    not_state d e f = by a.runs (sym was.used ∙ ap (use_of s n) (sym f) ∙ e)
      where
        by : (r : Bool) → state_use r ≡ Engaged → ⊥
        by true g = cc
        by false g = cc

    own_choice : (c : Alternative) → alternative_at s' n x ≡ Some c → HasChoice s' n links' store' x c
    own_choice c e = subst (HasChoice s' n links' store' x) (one (sym k.now ∙ e)) it
      where
        address : ℕ
        address = word_below a.wptr state_word

        same : word_below b.wptr state_word ≡ word_below a.wptr state_word
        same = ap (λ w. word_below w state_word) k.wptr

        same_word : s' (WordAt n (word_number (word_below b.wptr state_word)))
            ≡ s (WordAt n (word_number (word_below a.wptr state_word)))
        same_word = ap (λ d. s' (WordAt n (word_number d))) same ∙ k.words _

        it : HasChoice s' n links' store' x b
        it =
            record {
              small = (
                subst (λ z. z < 2) (sym k.priority) was.small.0,
                subst (λ z. z < 2 ^ 32) (sym k.wptr) was.small.1,
              );
              placed = subst (λ d. word_place_break (length store') d ≡ None) (sym same)
                  (subst (λ z. word_place_break z (word_below a.wptr state_word) ≡ None) (sym k.same_size) was.placed);
              used = ap (λ (v : Value). (word_in v).used) same_word ∙ was.used ∙ ap state_use (sym k.runs);
              unseen = ap (λ (v : Value). (word_in v).cells) same_word ∙ was.unseen;
              unsent = ap (λ d. amount_in (s' (Sending n (word_number d)))) same ∙ ap amount_in (k.sendings _)
                  ∙ was.unsent;
              state = inl (ap (word_at store') same ∙ k.is, k.due);
              unready = λ f. absurd (true≢false (sym f ∙ k.awake));
            }

    own_ports : (d : ℕ) → x.node ≡ n → enables s' n x d ≡ true
        → (c : Alternative) × (alternative_at s' n x ≡ Some c) × HasEnabled s' n d x
    own_ports d home e =
        let old = h.owner x d home (ap (λ (v : Value). has_port d (ports_in v)) (sym (k.ports x)) ∙ e) in
        (b, k.now, by old.2)
      where
        by : HasEnabled s n d x → HasEnabled s' n d x
        by (inl (internal, f)) = inl (internal, ap (λ (v : Value). enabler (half_in v)) (k.inputs d) ∙ f)
        by (inr (l, small, is, f)) = inr (l, small, is, k.enablers l ∙ f)

    descriptor : {c : Alternative} → b ≡ c → a.wptr + a.priority ≡ c.wptr + c.priority
    descriptor e =
        ap (λ w. w + a.priority) (sym k.wptr) ∙ ap (λ q. b.wptr + q) (sym k.priority)
        ∙ ap (λ (z : Alternative). z.wptr + z.priority) e

    own_enabled : (d : ℕ) → enabler_at s' n d ≡ Some x → IsEnabled s' n store' d x
    own_enabled d e =
        let old : IsEnabled s n store d x =
        h.enabled d x (ap (λ (v : Value). enabler (half_in v)) (sym (k.inputs d)) ∙ e) in
        record {
          internal = old.internal;
          home = old.home;
          port = ap (λ (v : Value). has_port d (ports_in v)) (k.ports x) ∙ old.port;
          placed = subst (λ z. word_place_break z d ≡ None) (sym k.same_size) old.placed;
          engaged = uses (word_number d) ∙ old.engaged;
          names = λ f c g. k.others d old.placed (ap is_lasting old.engaged) (not_state d old.engaged)
              ∙ old.names (ap (λ (v : Value). is_taken (half_in v)) (sym (k.outputs d)) ∙ f) a k.before
              ∙ descriptor (one (sym k.now ∙ g));
          awaited = λ c g f. absurd (true≢false (sym f ∙ ap (λ (z : Alternative). z.waits) (sym (one (sym k.now ∙ g)))
              ∙ k.awake));
        }

    own_linked : (l : ℕ) → l < 4 → enabler_on s' n l ≡ Some x → IsEnabledLink s' n l x
    own_linked l small e =
        let old : IsEnabledLink s n l x = h.linked l x small (sym (k.enablers l) ∙ e) in
        record {
          home = old.home;
          port = ap (λ (v : Value). has_port (input_channel l) (ports_in v)) (k.ports x) ∙ old.port;
          awaited = λ c g f. absurd (true≢false (sym f ∙ ap (λ (z : Alternative). z.waits) (sym (one (sym k.now ∙ g)))
              ∙ k.awake));
        }

    changed : IsChanged p s s' n links links' store store' x
    changed =
        record {
          stands = λ y f home. ap (λ (v : Value). alternative_of (stand_in v)) (k.stands y f);
          quiet = λ y f home e. ap (λ (v : Value). is_quiet (stand_in v)) (k.stands y f) ∙ e;
          ports = λ y f home. k.ports y;
          inputs = λ d y f e. ap (λ (v : Value). enabler (half_in v)) (k.inputs d) ∙ e;
          inputs_back = λ d y f e. ap (λ (v : Value). enabler (half_in v)) (sym (k.inputs d)) ∙ e;
          held = λ d y f e. ap half_in (k.inputs d) ∙ e;
          sent = λ d y f e. ap (λ (v : Value). is_taken (half_in v)) (k.outputs d);
          unsent = λ j e z. ap amount_in (k.sendings j) ∙ z;
          size = k.same_size;
          states = λ y c f home is has. (
            k.words _,
            k.others (word_below c.wptr state_word) has.placed
                (state_lasts _ (ap is_state has.used ∙ state_use_is c.runs)) (other_word y c f home is has),
          );
          words = λ d y f e old. (
            uses (word_number d) ∙ old.engaged,
            k.others d old.placed (ap is_lasting old.engaged) (not_state d old.engaged),
          );
          linked = λ l y f e. k.enablers l ∙ e;
          linked_back = λ l y f e. sym (k.enablers l) ∙ e;
          awaited = k.awaited;
          noticed = k.noticed;
          own_quiet = k.quiet;
          own_choice = own_choice;
          own_apart = λ c e y d f home is g. true≢false (sym (place_itself p (Standing x))
              ∙ ap (same_name x) (h.apart x y a d k.home home k.before is
              (sym k.wptr ∙ ap (λ (z : Alternative). z.wptr) (one (sym (sym e ∙ k.now))) ∙ g)) ∙ f);
          own_ports = own_ports;
          own_enabled = own_enabled;
          own_linked = own_linked;
        }

    pub choices_readied : ShowsChoices s' n links' store'
    choices_readied = choices_changed p s s' n links links' store store' x changed h
