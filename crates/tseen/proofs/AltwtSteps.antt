-- What `altwt` does in the process machine.
use Rattle.std.proofs.Common.{◌≡◌, ◌≢◌, ℕ, ◌%◌, refl, sym, ap, subst, ◌∙◌, Bool, true, false, true≢false, List, []}
use Rattle.std.proofs.Common.{◌∷◌, Some, pos, ◌⊎◌, inl, inr}
use Rattle.std.specs.Prelude.{◌==◌, if◌then◌else◌}
use Rattle.std.specs.Int.{w32, to_le_bytes}
use Rattle.std.proofs.lemmas.Bool.{eq-eqb, eqb-true, or_cases}
use Rattle.tword.specs.Stores.{Store, as_cells}
use Rattle.tword.specs.Words.{word_below}
use Rattle.tword.specs.Touches.{Writes}
use Rattle.tproc.specs.declared.channels.Side.TheVariants.{Input}
use Rattle.tproc.specs.Alternatives.{none_selected}
use Rattle.tplan.specs.declared.plan.Plan.{Plan}
use Rattle.tprocesses.specs.Places.{Place, Name, WordAt, Sending, Standing, Ports, Half, LinkHalf, same_place}
use Rattle.tplan.specs.Wires.{end_at}
use Rattle.tproc.specs.LinkChannels.{is_link, link_of}
use Rattle.tprocesses.proofs.Tidy.{process_machine_is_tidy}
use Rattle.tprocesses.specs.Values.{Value, Free, Saved, Choosing, Awaiting, Choice, Context, Chooses, Runs, Holder}
use Rattle.tprocesses.specs.Values.{Nobody, TakenBy, EnabledBy, AwaitedBy, IsWord, IsHalf, word_in, half_in, ports_in}
use Rattle.tprocesses.specs.Values.{amount_in, IsStand, Link, Empty, Offered, Enabled, Awaited, Fired, IsLink, link_in}
use Rattle.tprocesses.specs.Changes.{Change, Put, used_word}
use Rattle.tprocesses.specs.Parts.{Breaks, WordInUse, require}
use Rattle.tword.specs.declared.breaks.Break.TheVariants.{ChannelMisuse, LinkBusy}
use Rattle.tprocesses.specs.Touching.{Site, word_number, word_for, same_use, save_word, save_upper, forgotten}
use Rattle.tprocesses.specs.Touching.{write_word_at}
use Rattle.tprocesses.specs.Standing.{forget, goes_on}
use Rattle.tprocesses.specs.Choosing.{has_port, is_enabled_by, is_enabled_on, awaits_ports, awaits_channel}
use Rattle.tprocesses.specs.Choosing.{awaits_link}
use Rattle.tprocesses.specs.Choosing.{changes_use, under_way, awaits_choice}
use Rattle.tprocesses.specs.Choosing.{waits_for_ports}
use Rattle.tseen.proofs.After.{State, changed, After, after_bind, after_require}
use Rattle.tseen.proofs.Cells.{use_of}
use Rattle.tseen.proofs.Finished.{is_stand_of, one_name, place_itself, StandsNow, stands_then}
use Rattle.tseen.proofs.OwnChoice.{under_way_then}
use Rattle.tseen.proofs.Saving.{below, changed_at, save_word_then, other_touched, touched_before, with_used, putting}
use Rattle.tseen.proofs.Written.{is_word_of, changed_there, changed_word, changed_else}
use Rattle.tseen.proofs.Writing.{IsWordTouched, IsWordWritten, write_word_at_then}

-- the input of a channel or of a link of a node
abbrev pub is_input_of : ℕ → Place → Bool
is_input_of n (Half m d Input) = n == m
is_input_of n (LinkHalf e Input) = n == e.node
is_input_of n _ = false

-- where a channel is enabled, by whether it is a link
abbrev pub port_place : (n : ℕ) → (link : Bool) → (channel : ℕ) → Place
port_place n true d = LinkHalf (end_at n (link_of Input d)) Input
port_place n false d = Half n d Input

-- what stands there once a process waits for it
abbrev pub awaited_value : Name → (link : Bool) → Value
awaited_value x true = IsLink (Awaited x)
awaited_value x false = IsHalf (AwaitedBy x)

-- a process has enabled it
abbrev pub IsEnabledAt : Name → (link : Bool) → Value → Type 0
IsEnabledAt x true v = link_in v ≡ Enabled x
IsEnabledAt x false v = half_in v ≡ EnabledBy x

-- a process that had enabled an input waits for it
abbrev pub IsTakenUp : Name → Value → Value → Type 0
IsTakenUp x v w =
    ((half_in v ≡ EnabledBy x) × (w ≡ IsHalf (AwaitedBy x))) ⊎ ((link_in v ≡ Enabled x) × (w ≡ IsLink (Awaited x)))

enabled_is : Plan → (x : Name) (h : Holder) → is_enabled_by x h ≡ true → h ≡ EnabledBy x
enabled_is p x (EnabledBy y) e = ap EnabledBy (one_name p y x e)
enabled_is p x Nobody e = absurd (true≢false (sym e))
enabled_is p x (TakenBy q) e = absurd (true≢false (sym e))
enabled_is p x (AwaitedBy y) e = absurd (true≢false (sym e))

enabled_link_is : Plan → (x : Name) (h : Link) → is_enabled_on x h ≡ true → h ≡ Enabled x
enabled_link_is p x (Enabled y) e = ap Enabled (one_name p y x e)
enabled_link_is p x Empty e = absurd (true≢false (sym e))
enabled_link_is p x (Offered q) e = absurd (true≢false (sym e))
enabled_link_is p x (Awaited y) e = absurd (true≢false (sym e))
enabled_link_is p x (Fired y) e = absurd (true≢false (sym e))

-- what is awaited is not enabled
not_enabled : (x : Name) (a b : Bool) → IsEnabledAt x b (awaited_value x a) → ⊥
not_enabled x true true e = cc
not_enabled x true false e = cc
not_enabled x false true e = cc
not_enabled x false false e = cc

not_taken_up : (x : Name) (a : Bool) (w : Value) → IsTakenUp x (awaited_value x a) w → ⊥
not_taken_up x true w (inl e) = not_enabled x true false e.0
not_taken_up x true w (inr e) = not_enabled x true true e.0
not_taken_up x false w (inl e) = not_enabled x false false e.0
not_taken_up x false w (inr e) = not_enabled x false true e.0

taken_up : (x : Name) (a : Bool) (v : Value) → IsEnabledAt x a v → IsTakenUp x v (awaited_value x a)
taken_up x true v e = inr (e, refl)
taken_up x false v e = inl (e, refl)

-- a change of an input
module _ (p : Plan) (n : ℕ) (link : Bool) (d : ℕ) (v : Value) (s : State) where
  abbrev input_put : State
  input_put = changed (port_place n link d) (Put v) s

  pub input_there : input_put (port_place n link d) ≡ v
  input_there = rw (place_itself p (port_place n link d)) refl

  pub other_input : (q : Place) → same_place (port_place n link d) q ≡ false → input_put q ≡ s q
  other_input q h = rw h refl

  pub no_input : (q : Place) → is_input_of n q ≡ false → input_put q ≡ s q
  no_input q h = by (same_place (port_place n link d) q) refl
    where
      inside : (b : Bool) → is_input_of n (port_place n b d) ≡ true
      inside true = eq-eqb n n refl
      inside false = eq-eqb n n refl

      by : (b : Bool) → same_place (port_place n link d) q ≡ b → input_put q ≡ s q
      by false e = rw e refl
      by true e =
          let same : port_place n link d ≡ q =
          (process_machine_is_tidy p).told.is_same_place (port_place n link d) q e in
          absurd (true≢false (sym (inside link) ∙ ap (is_input_of n) same ∙ h))

-- a process waits for these channels, which it had enabled
pub record AreAwaited (n : ℕ) (x : Name) (ports : List ℕ) (s t : State) : Type 0 where
  pub enabled : (d : ℕ) → has_port d ports ≡ true → IsEnabledAt x (is_link d) (s (port_place n (is_link d) d))
  pub awaited : (d : ℕ) → has_port d ports ≡ true → t (port_place n (is_link d) d) ≡ awaited_value x (is_link d)
  pub each : (q : Place) → (t q ≡ s q) ⊎ IsTakenUp x (s q) (t q)
  pub rest : (q : Place) → is_input_of n q ≡ false → t q ≡ s q

module _ (site : Site) (whole : site.size % 4 ≡ 0) (p : Plan) (x : Name) where
  abbrev n : ℕ
  n = site.number

  module _ (channel : ℕ) (ports : List ℕ) (s : State)
      (own : IsEnabledAt x (is_link channel) (s (port_place n (is_link channel) channel))) where
    abbrev v : Value
    v = awaited_value x (is_link channel)

    abbrev place : Place
    place = port_place n (is_link channel) channel

    abbrev mid : State
    mid = changed place (Put v) s

    same_there : (q : Place) → same_place place q ≡ true → place ≡ q
    same_there q e = (process_machine_is_tidy p).told.is_same_place place q e

    mid_there : mid place ≡ v
    mid_there = input_there p n (is_link channel) channel v s

    one_more : (t : State) → AreAwaited n x ports mid t → AreAwaited n x (channel ∷ ports) s t
    one_more t more =
        record {
          enabled = λ d e. enabled d (or_cases (channel == d) (has_port d ports) e);
          awaited = λ d e. awaited d (or_cases (channel == d) (has_port d ports) e);
          each = λ q. each q (same_place place q) refl (more.each q);
          rest = λ q e. more.rest q e ∙ no_input p n (is_link channel) channel v s q e;
        }
      where
        enabled : (d : ℕ) → ((channel == d) ≡ true) ⊎ (has_port d ports ≡ true)
            → IsEnabledAt x (is_link d) (s (port_place n (is_link d) d))
        enabled d (inl f) =
            subst (λ a. IsEnabledAt x (is_link a) (s (port_place n (is_link a) a))) (eqb-true channel d f) own
        enabled d (inr f) = by (same_place place (port_place n (is_link d) d)) refl
          where
            before : IsEnabledAt x (is_link d) (mid (port_place n (is_link d) d))
            before = more.enabled d f

            by : (b : Bool) → same_place place (port_place n (is_link d) d) ≡ b
                → IsEnabledAt x (is_link d) (s (port_place n (is_link d) d))
            by false g =
                subst (IsEnabledAt x (is_link d)) (other_input p n (is_link channel) channel v s _ g) before
            by true g =
                absurd (not_enabled x (is_link channel) (is_link d)
                (subst (IsEnabledAt x (is_link d)) (ap mid (sym (same_there _ g)) ∙ mid_there) before))

        each : (q : Place) (b : Bool) → same_place place q ≡ b → (t q ≡ mid q) ⊎ IsTakenUp x (mid q) (t q)
            → (t q ≡ s q) ⊎ IsTakenUp x (s q) (t q)
        each q false f (inl e) = inl (e ∙ other_input p n (is_link channel) channel v s q f)
        each q false f (inr e) =
            inr (subst (λ z. IsTakenUp x z (t q)) (other_input p n (is_link channel) channel v s q f) e)
        each q true f (inl e) =
            inr (subst (λ z. IsTakenUp x (s q) z) (sym (e ∙ ap mid (sym (same_there q f)) ∙ mid_there))
            (subst (λ z. IsTakenUp x (s z) v) (same_there q f) (taken_up x (is_link channel) (s place) own)))
        each q true f (inr e) =
            absurd (not_taken_up x (is_link channel) (t q)
            (subst (λ z. IsTakenUp x z (t q)) (ap mid (sym (same_there q f)) ∙ mid_there) e))

        awaited : (d : ℕ) → ((channel == d) ≡ true) ⊎ (has_port d ports ≡ true)
            → t (port_place n (is_link d) d) ≡ awaited_value x (is_link d)
        awaited d (inr f) = more.awaited d f
        awaited d (inl f) =
            subst (λ a. t (port_place n (is_link a) a) ≡ awaited_value x (is_link a)) (eqb-true channel d f)
            (by (more.each place))
          where
            by : (t place ≡ mid place) ⊎ IsTakenUp x (mid place) (t place) → t place ≡ v
            by (inl e) = e ∙ mid_there
            by (inr e) =
                absurd (not_taken_up x (is_link channel) (t place) (subst (λ z. IsTakenUp x z (t place)) mid_there e))

  awaits_ports_then : (ports : List ℕ) (s : State) (Q : Unit {0} → State → Type 0)
      → ((t : State) → AreAwaited n x ports s t → Q tt t) → After (awaits_ports site x ports) s Q
  awaits_ports_then [] s Q h =
      h s (record {
        enabled = λ d e. absurd (true≢false (sym e));
        awaited = λ d e. absurd (true≢false (sym e));
        each = λ q. inl refl;
        rest = λ q e. refl;
      })
  awaits_ports_then (channel ∷ ports) s Q h =
      after_bind (if is_link channel then awaits_link site x channel else awaits_channel site x channel) _ s Q
      (by (is_link channel) (one_more channel ports s)
      (λ mid rest. awaits_ports_then ports mid Q rest))
    where
      by : (b : Bool)
          → (IsEnabledAt x b (s (port_place n b channel)) → (t : State)
          → AreAwaited n x ports (changed (port_place n b channel) (Put (awaited_value x b)) s) t
          → AreAwaited n x (channel ∷ ports) s t)
          → ((mid : State) → ((t : State) → AreAwaited n x ports mid t → Q tt t)
          → After (awaits_ports site x ports) mid Q)
          → After (if b then awaits_link site x channel else awaits_channel site x channel) s
          (λ _ z. After (awaits_ports site x ports) z Q)
      by true more rest =
          after_bind (require (is_enabled_on x (link_in (s (port_place n true channel)))) (Breaks LinkBusy)) _ s _
          (after_require (is_enabled_on x (link_in (s (port_place n true channel)))) (Breaks LinkBusy) s _ (λ e.
          rest (changed (port_place n true channel) (Put (awaited_value x true)) s)
          (λ t f. h t (more (enabled_link_is p x _ e) t f))))
      by false more rest =
          after_bind (require (is_enabled_by x (half_in (s (port_place n false channel)))) (Breaks ChannelMisuse)) _ s _
          (after_require (is_enabled_by x (half_in (s (port_place n false channel)))) (Breaks ChannelMisuse) s _ (λ e.
          rest (changed (port_place n false channel) (Put (awaited_value x false)) s)
          (λ t f. h t (more (enabled_is p x _ e) t f))))

  -- the two upper words below a workspace were touched, and are saved now
  record IsUpperSaved (s t : State) (w : ℕ) : Type 0 where
    pub touched_two : IsWordTouched site whole s Writes (word_below w 2)
    pub touched_one : IsWordTouched site whole s Writes (word_below w 1)
    pub apart : below w 2 ≢ below w 1
    pub two : t (WordAt n (below w 2)) ≡ IsWord (used_word Saved)
    pub one : t (WordAt n (below w 1)) ≡ IsWord (used_word Saved)
    pub rest : (q : Place) → q ≢ WordAt n (below w 2) → q ≢ WordAt n (below w 1) → t q ≡ s q

  save_upper_then : (w : ℕ) (s : State) (Q : Unit {0} → State → Type 0)
      → ((t : State) → IsUpperSaved s t w → Q tt t) → After (save_upper site w) s Q
  save_upper_then w s Q h =
      after_bind (save_word site (word_below w 2) forgotten) _ s Q
      (save_word_then site whole (word_below w 2) forgotten s _ (λ t2.
      save_word_then site whole (word_below w 1) forgotten s2 Q (λ t1. h s1 (upper t2 t1))))
    where
      nothing : Store
      nothing = forgotten []

      s2 : State
      s2 = with_used site whole (below w 2) nothing Saved s

      s1 : State
      s1 = with_used site whole (below w 1) nothing Saved s2

      upper : IsWordTouched site whole s Writes (word_below w 2)
          → IsWordTouched site whole s2 Writes (word_below w 1) → IsUpperSaved s s1 w
      upper t2 t1 =
          let b : below w 2 ≢ below w 1 = other_touched site whole (below w 2) nothing s (word_below w 1) t1 in
          record {
            touched_two = t2;
            touched_one = touched_before site whole (below w 2) nothing s (word_below w 1) t1;
            apart = b;
            two = changed_word n (below w 1) (putting site whole nothing Saved) s2 (below w 2) (λ e. b (sym e))
                ∙ changed_there n (below w 2) (putting site whole nothing Saved) s;
            one = changed_there n (below w 1) (putting site whole nothing Saved) s2;
            rest = λ q e f. changed_at n (below w 1) (putting site whole nothing Saved) s2 q f
                ∙ changed_at n (below w 2) (putting site whole nothing Saved) s q e;
          }

  -- the bytes that tell that no guard is chosen
  abbrev pub no_guard : Store
  no_guard = as_cells (to_le_bytes w32 none_selected)

  module _ (c : Context) where
    abbrev w : ℕ
    w = c.wptr

    -- no guard is chosen so far, and the alternative is under way
    pub record IsUnderWay (choice : Choice) (s v : State) : Type 0 where
      pub written : IsWordWritten site whole s v w no_guard
      pub is : c.choice ≡ Some choice
      pub choosing : use_of v n (below w 3) ≡ Choosing
      pub unsent : amount_in (v (Sending n (below w 3))) ≡ pos 0

    -- the process waits for its alternative
    pub record IsWaiting (v t : State) : Type 0 where
      pub touched_two : IsWordTouched site whole v Writes (word_below w 2)
      pub touched_one : IsWordTouched site whole v Writes (word_below w 1)
      pub two_one : below w 2 ≢ below w 1
      pub three : t (WordAt n (below w 3)) ≡ IsWord (used_word Awaiting)
      pub two : t (WordAt n (below w 2)) ≡ IsWord (used_word Saved)
      pub one : t (WordAt n (below w 1)) ≡ IsWord (used_word Saved)
      pub words : (j : ℕ) → j ≢ below w 1 → j ≢ below w 2 → j ≢ below w 3 → t (WordAt n j) ≡ v (WordAt n j)
      pub stands : t (Standing x) ≡ IsStand (Chooses (forget c))
      pub enabled : (d : ℕ) → has_port d (ports_in (v (Ports x))) ≡ true
          → IsEnabledAt x (is_link d) (v (port_place n (is_link d) d))
      pub awaited : (d : ℕ) → has_port d (ports_in (v (Ports x))) ≡ true
          → t (port_place n (is_link d) d) ≡ awaited_value x (is_link d)
      pub inputs : (q : Place) → is_word_of n q ≡ false → is_stand_of x q ≡ false
          → (t q ≡ v q) ⊎ IsTakenUp x (v q) (t q)
      pub rest : (q : Place) → is_word_of n q ≡ false → is_stand_of x q ≡ false → is_input_of n q ≡ false → t q ≡ v q

    not_free : Awaiting ≡ Free → ⊥
    not_free e = cc

    module _ (v t1 t2 t : State) (halves : AreAwaited n x (ports_in (v (Ports x))) v t1)
        (upper : IsUpperSaved (changed (WordAt n (below w 3)) (Put (IsWord (used_word Awaiting))) t1) t2 w)
        (now : StandsNow site x (Chooses (forget c)) t2 t) where
      abbrev put : Change
      put = Put (IsWord (used_word Awaiting))

      abbrev t3 : State
      t3 = changed (WordAt n (below w 3)) put t1

      third : t3 (WordAt n (below w 3)) ≡ IsWord (used_word Awaiting)
      third = changed_there n (below w 3) put t1

      -- a word that was touched is another one
      other : (a : ℕ) → IsWordTouched site whole t3 Writes a → below w 3 ≢ word_number a
      other a b e =
          not_free (sym (ap (λ (z : Value). (word_in z).used) third) ∙ ap (use_of t3 n) e ∙ b.touched.free)

      before : (a : ℕ) → IsWordTouched site whole t3 Writes a → IsWordTouched site whole v Writes a
      before a b =
          record {
            placed = b.placed;
            touched = record {
              free = ap (λ (z : Value). (word_in z).used)
                  (sym (changed_word n (below w 3) put t1 (word_number a) (other a b)
                  ∙ halves.rest (WordAt n (word_number a)) refl)) ∙ b.touched.free;
              unsent = λ e. ap amount_in (sym (halves.rest (Sending n (word_number a)) refl)) ∙ b.touched.unsent e;
            };
            at = b.at;
            above = b.above;
            within = b.within;
          }

      same_number : {i j : ℕ} → WordAt n i ≡ WordAt n j → i ≡ j
      same_number e = cc

      -- a place that is no word
      no_word : (q : Place) → is_word_of n q ≡ false → is_stand_of x q ≡ false → t q ≡ t1 q
      no_word q e f =
          now.others q f ∙ upper.rest q (word q (below w 2) e) (word q (below w 1) e)
          ∙ changed_else n (below w 3) put t1 q e
        where
          word : (q : Place) (j : ℕ) → is_word_of n q ≡ false → q ≢ WordAt n j
          word q j e g = true≢false (sym (eq-eqb n n refl) ∙ sym (ap (is_word_of n) g) ∙ e)

      waits_now : IsWaiting v t
      waits_now =
          record {
            touched_two = before (word_below w 2) upper.touched_two;
            touched_one = before (word_below w 1) upper.touched_one;
            two_one = upper.apart;
            three = now.others (WordAt n (below w 3)) refl
                ∙ upper.rest (WordAt n (below w 3)) (λ e. other (word_below w 2) upper.touched_two (same_number e))
                (λ e. other (word_below w 1) upper.touched_one (same_number e)) ∙ third;
            two = now.others (WordAt n (below w 2)) refl ∙ upper.two;
            one = now.others (WordAt n (below w 1)) refl ∙ upper.one;
            words = λ j a b d. now.others (WordAt n j) refl
                ∙ upper.rest (WordAt n j) (λ e. b (same_number e)) (λ e. a (same_number e))
                ∙ changed_word n (below w 3) put t1 j (λ e. d (sym e)) ∙ halves.rest (WordAt n j) refl;
            stands = now.is;
            enabled = halves.enabled;
            awaited = λ d e. awaited d (is_link d) (halves.awaited d e);
            inputs = λ q e f. inputs q (no_word q e f) (halves.each q);
            rest = λ q e f g. no_word q e f ∙ halves.rest q g;
          }
        where
          awaited : (d : ℕ) (b : Bool) → t1 (port_place n b d) ≡ awaited_value x b
              → t (port_place n b d) ≡ awaited_value x b
          awaited d true e = no_word (port_place n true d) refl refl ∙ e
          awaited d false e = no_word (port_place n false d) refl refl ∙ e

          inputs : (q : Place) → t q ≡ t1 q → (t1 q ≡ v q) ⊎ IsTakenUp x (v q) (t1 q)
              → (t q ≡ v q) ⊎ IsTakenUp x (v q) (t q)
          inputs q e (inl f) = inl (e ∙ f)
          inputs q e (inr f) = inr (subst (IsTakenUp x (v q)) (sym e) f)

    waits_for_ports_then : (v : State) (Q : Unit {0} → State → Type 0)
        → ((t : State) → IsWaiting v t → Q tt t) → After (waits_for_ports site x c) v Q
    waits_for_ports_then v Q h =
        after_bind (awaits_ports site x (ports_in (v (Ports x)))) _ v Q
        (awaits_ports_then (ports_in (v (Ports x))) v _ (λ t1 halves.
        after_bind (changes_use site c Choosing Awaiting) _ t1 Q
        (after_bind (word_for site Choosing (below w 3)) _ t1 _
        (after_bind (require (same_use (use_of t1 n (below w 3)) Choosing) WordInUse) _ t1 _
        (after_require (same_use (use_of t1 n (below w 3)) Choosing) WordInUse t1 _ (λ is.
        after_bind (save_upper site w) _ (changed (WordAt n (below w 3)) (Put (IsWord (used_word Awaiting))) t1) Q
        (save_upper_then w (changed (WordAt n (below w 3)) (Put (IsWord (used_word Awaiting))) t1) _ (λ t2 upper.
        stands_then site p x (Chooses (forget c)) t2 Q (λ t now. h t (waits_now v t1 t2 t halves upper now))))))))))

    -- what `altwt` leaves
    pub awaits_choice_then : (s : State) (Q : Unit {0} → State → Type 0)
        → ((choice : Choice) (v t : State) → IsUnderWay choice s v → choice.skips ≡ true
        → StandsNow site x (Runs c) v t → Q tt t)
        → ((choice : Choice) (v t : State) → IsUnderWay choice s v → choice.skips ≡ false → IsWaiting v t → Q tt t)
        → After (awaits_choice site x c) s Q
    awaits_choice_then s Q skip wait =
        after_bind (write_word_at site w no_guard) _ s Q
        (write_word_at_then site whole w no_guard s _ refl (λ v written.
        after_bind (under_way site c) _ v Q (under_way_then site c v _ (λ choice is choosing unsent.
        by v choice (record { written = written; is = is; choosing = choosing; unsent = unsent }) choice.skips refl))))
      where
        by : (v : State) (choice : Choice) → IsUnderWay choice s v → (b : Bool) → choice.skips ≡ b
            → After (if b then goes_on x c else waits_for_ports site x c) v Q
        by v choice way true e = stands_then site p x (Runs c) v Q (λ t now. skip choice v t way e now)
        by v choice way false e = waits_for_ports_then v Q (λ t now. wait choice v t way e now)
