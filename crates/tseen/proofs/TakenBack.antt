-- An output of a link that is over: its buffer is in one pending output less, and its process has gone on.
use Rattle.std.proofs.Common.{◌≡◌, ℕ, ℤ, zero, suc, ◌+◌, ◌<◌, ◌≤◌, refl, sym, ap, ◌∙◌, Bool, true, false}
use Rattle.std.proofs.Common.{true≢false, Option, Some, None, arith, ◌⊎◌, inl, inr, pos, cond}
use Rattle.std.specs.Prelude.{◌==◌, ◌&&◌, nat_le, nat_lt, negsuc, if◌then◌else◌}
use Rattle.std.proofs.lemmas.Bool.{eq-eqb, ne_eqb, cases_eq, and_parts, and_from, leb-true, ltb-true, le-leb, lt-ltb}
use Rattle.std.proofs.lemmas.Int.{ints}
use Rattle.tproc.specs.declared.channels.Side.TheVariants.{Output}
use Rattle.tplan.specs.Wires.{end_at, same_end}
use Rattle.tprocesses.specs.Places.{Place, Sending, LinkHalf, Unfinished}
use Rattle.tprocesses.specs.Values.{Value, Lent, IsAmount, IsFlag, flag_in}
use Rattle.tprocesses.specs.Changes.{Add, Put, apply}
use Rattle.tprocesses.specs.Parts.{HasNoStep, require}
use Rattle.tprocesses.specs.Touching.{Site, word_number, word_count, count_words, count_outputs}
use Rattle.tprocesses.specs.Standing.{takes_back}
use Rattle.tseen.specs.Outputs.{Pending, covers, is_sending, sendings}
use Rattle.tseen.proofs.After.{State, changed, After, after_bind, after_require}
use Rattle.tseen.proofs.Nets.{chosen}

-- a word is one of some in a row
abbrev pub within : (first count j : ℕ) → Bool
within first count j = nat_le first j && nat_lt j (first + count)

pub within_from : (first count j : ℕ) → first ≤ j → j < first + count → within first count j ≡ true
within_from first count j a b = and_from _ _ (le-leb first j a) (lt-ltb j (first + count) b)

not_within : (first count j : ℕ) → (first ≤ j → j < first + count → ⊥) → within first count j ≡ false
not_within first count j h = by (within first count j) refl
  where
    by : (b : Bool) → within first count j ≡ b → within first count j ≡ false
    by false e = e
    by true e =
        let both : (nat_le first j ≡ true) × (nat_lt j (first + count) ≡ true) = and_parts _ _ e in
        absurd (h (leb-true _ _ both.0) (ltb-true _ _ both.1))

-- a place is a number of outputs of a node
abbrev pub is_sending_of : ℕ → Place → Bool
is_sending_of n (Sending m k) = n == m
is_sending_of n _ = false

-- a place is the output of a link of a node, or tells whether its process has gone on
abbrev pub is_output_of : (n l : ℕ) → Place → Bool
is_output_of n l (LinkHalf e Output) = same_end (end_at n l) e
is_output_of n l (Unfinished e) = same_end (end_at n l) e
is_output_of n l _ = false

-- a place tells whether the process of the last output of a link has gone on
abbrev pub is_flag_of : (n l : ℕ) → Place → Bool
is_flag_of n l (Unfinished e) = same_end (end_at n l) e
is_flag_of n l _ = false

module _ (site : Site) where
  abbrev n : ℕ
  n = site.number

  -- numbers of outputs in a row were changed
  pub record AreCounted (z : ℤ) (first count : ℕ) (s t : State) : Type 0 where
    pub sending : (j : ℕ) → t (Sending n j)
        ≡ chosen (within first count j) (apply (Add z) (s (Sending n j))) (s (Sending n j))
    pub others : (q : Place) → is_sending_of n q ≡ false → t q ≡ s q

  pub count_words_then : (z : ℤ) (count first : ℕ) (s : State) (Q : Unit {0} → State → Type 0)
      → ((t : State) → AreCounted z first count s t → Q tt t) → After (count_words site z first count) s Q
  count_words_then z zero first s Q h =
      h s (record {
        sending = λ j. rw (not_within first zero j (λ a b. omega arith)) refl;
        others = λ q e. refl;
      })
  count_words_then z (suc count) first s Q h =
      count_words_then z count (suc first) mid Q (λ t k. h t (more t k))
    where
      mid : State
      mid = changed (Sending n first) (Add z) s

      others : (q : Place) → is_sending_of n q ≡ false → mid q ≡ s q
      others (Sending m j) e = rw e refl
      others _ e = refl

      more : (t : State) → AreCounted z (suc first) count mid t → AreCounted z first (suc count) s t
      more t k = record { sending = λ j. by j (cases_eq first j); others = λ q e. k.others q e ∙ others q e }
        where
          alike : (j : ℕ) → (first ≡ j → ⊥) → (b : Bool) → within (suc first) count j ≡ b
              → within (suc first) count j ≡ within first (suc count) j
          alike j e true f =
              let both : (nat_le (suc first) j ≡ true) × (nat_lt j (suc first + count) ≡ true) = and_parts _ _ f in
              f ∙ sym (within_from first (suc count) j (omega (arith, leb-true _ _ both.0))
              (omega (arith, ltb-true _ _ both.1)))
          alike j e false f =
              f ∙ sym (not_within first (suc count) j (λ a b. true≢false (sym (within_from (suc first) count j
              (omega (arith, e)) (omega arith)) ∙ f)))

          by : (j : ℕ) → (first ≡ j) ⊎ (first ≡ j → ⊥) → t (Sending n j)
              ≡ chosen (within first (suc count) j) (apply (Add z) (s (Sending n j))) (s (Sending n j))
          by j (inl e) =
              let out : within (suc first) count j ≡ false = not_within (suc first) count j (λ a b. omega (arith, e)) in
              let inside : within first (suc count) j ≡ true =
              within_from first (suc count) j (omega (arith, e)) (omega (arith, e)) in
              k.sending j ∙ rw (out, inside, eq-eqb n n refl, eq-eqb first j e) refl
          by j (inr e) =
              let same : mid (Sending n j) ≡ s (Sending n j) = rw (eq-eqb n n refl, ne_eqb first j e) refl in
              k.sending j ∙ rw same (ap (λ b. chosen b (apply (Add z) (s (Sending n j))) (s (Sending n j)))
              (alike j e (within (suc first) count j) refl))

  -- what becomes of a number of outputs, and of the flag of a link
  abbrev pub sent_back : Option Lent → ℕ → Value → Value
  sent_back None j v = v
  sent_back (Some l) j v = chosen (covers j l.buffer) (apply (Add (negsuc 0)) v) v

  abbrev pub settled : Option Lent → ℕ → Value → Value
  settled None j v = v
  settled (Some l) j v = chosen (l.link == j) (IsFlag false) v

  abbrev pub is_lent : Option Lent → Place → Bool
  is_lent None q = false
  is_lent (Some l) q = is_flag_of n l.link q

  -- an output was taken back
  pub record IsTakenBack (lent : Option Lent) (s t : State) : Type 0 where
    pub sending : (j : ℕ) → t (Sending n j) ≡ sent_back lent j (s (Sending n j))
    pub unfinished : (l : ℕ) → t (Unfinished (end_at n l)) ≡ settled lent l (s (Unfinished (end_at n l)))
    pub others : (q : Place) → is_sending_of n q ≡ false → is_lent lent q ≡ false → t q ≡ s q

  pub takes_back_then : (lent : Option Lent) (s : State) (Q : Unit {0} → State → Type 0)
      → ((t : State) → IsTakenBack lent s t → Q tt t) → After (takes_back site lent) s Q
  takes_back_then None s Q h = h s (record { sending = λ j. refl; unfinished = λ l. refl; others = λ q a b. refl })
  takes_back_then (Some l) s Q h =
      after_bind (count_outputs site (negsuc 0) l.buffer) _ s Q
      (count_words_then (negsuc 0) (word_count l.buffer) (word_number l.buffer.start) s _ (λ t k.
      after_bind (require (flag_in (t (Unfinished (end_at n l.link)))) HasNoStep) _ t Q
      (after_require (flag_in (t (Unfinished (end_at n l.link)))) HasNoStep t _ (λ e.
      h (changed (Unfinished (end_at n l.link)) (Put (IsFlag false)) t) (more t k)))))
    where
      more : (t : State) → AreCounted (negsuc 0) (word_number l.buffer.start) (word_count l.buffer) s t
          → IsTakenBack (Some l) s (changed (Unfinished (end_at n l.link)) (Put (IsFlag false)) t)
      more t k = record { sending = k.sending; unfinished = flag; others = others }
        where
          flag : (j : ℕ) → changed (Unfinished (end_at n l.link)) (Put (IsFlag false)) t (Unfinished (end_at n j))
              ≡ settled (Some l) j (s (Unfinished (end_at n j)))
          flag j = by (l.link == j) refl
            where
              by : (b : Bool) → (l.link == j) ≡ b
                  → changed (Unfinished (end_at n l.link)) (Put (IsFlag false)) t (Unfinished (end_at n j))
                  ≡ settled (Some l) j (s (Unfinished (end_at n j)))
              by true e = rw (eq-eqb n n refl, e) refl
              by false e = rw (eq-eqb n n refl, e) (k.others (Unfinished (end_at n j)) refl)

          others : (q : Place) → is_sending_of n q ≡ false → is_lent (Some l) q ≡ false
              → changed (Unfinished (end_at n l.link)) (Put (IsFlag false)) t q ≡ s q
          others (Unfinished e) a b = rw b (k.others (Unfinished e) a)
          others q a b = k.others q a

-- how many outputs have a byte of a word, where one of them is over
abbrev pub without_output : Option Lent → (ℕ → Option Pending) → ℕ → Option Pending
without_output None sent l = sent l
without_output (Some t) sent l = chosen (t.link == l) None (sent l)

pub one_less : (a : ℕ) (b : Bool) → (if b then apply (Add (negsuc 0)) (IsAmount (pos (a + cond b 1 0)))
    else IsAmount (pos (a + cond b 1 0))) ≡ IsAmount (pos a)
one_less a true = ap IsAmount (omega (arith, ints))
one_less a false = ap (λ z. IsAmount (pos z)) (omega arith)

abbrev pub without : ℕ → (ℕ → Option Pending) → ℕ → Option Pending
without link sent l = chosen (link == l) None (sent l)

pub fewer_at : (link : ℕ) (sent : ℕ → Option Pending) (j : ℕ) → link < 4
    → sendings sent j ≡ sendings (without link sent) j + cond (is_sending j (sent link)) 1 0
fewer_at zero sent j m = omega arith
fewer_at (suc zero) sent j m = omega arith
fewer_at (suc (suc zero)) sent j m = omega arith
fewer_at (suc (suc (suc zero))) sent j m = omega arith
fewer_at (suc (suc (suc (suc l)))) sent j m = absurd (omega arith)

-- so the number is right after it was taken back
pub taken_back_sendings : (t : Lent) (sent : ℕ → Option Pending) (j : ℕ) (site : Site) → t.link < 4
    → is_sending j (sent t.link) ≡ covers j t.buffer
    → sent_back site (Some t) j (IsAmount (pos (sendings sent j)))
    ≡ IsAmount (pos (sendings (without_output (Some t) sent) j))
taken_back_sendings t sent j site small h =
    ap (λ z. chosen (covers j t.buffer) (apply (Add (negsuc 0)) (IsAmount (pos z))) (IsAmount (pos z)))
    (fewer_at t.link sent j small ∙ ap (λ b. sendings (without t.link sent) j + cond b 1 0) h)
    ∙ one_less (sendings (without t.link sent) j) (covers j t.buffer)
