-- Words of a span whose counts of pending outputs change.
use Rattle.std.proofs.Common.{◌≡◌, ℕ, zero, suc, ◌+◌, ◌-◌, ◌<◌, ◌≤◌, refl, sym, subst, ap, ◌∙◌, arith, below_more}
use Rattle.std.proofs.Common.{◌⊎◌, inl, inr, List, length, set, false, true, Bool, Option, Some, None, ℤ, pos, negsuc}
use Rattle.std.proofs.Common.{Ok}
use Rattle.std.specs.Prelude.{All, ◌==◌, ◌&&◌, slice_get, option_map, ◌+ℤ◌, if◌then◌else◌}
use Rattle.std.proofs.lemmas.Bool.{cases_eq, eqb-true}
use Rattle.std.proofs.Common.{eq-eqb}
use Rattle.std.proofs.lemmas.Int.{ints}
use Rattle.std.proofs.lemmas.List.Elements.{All-cons, All-nil}
use Rattle.tagents.specs.WalkAccesses.{Changes}
use Rattle.tword.specs.declared.span.Span.{Span}
use Rattle.tprocesses.specs.Places.{Place, WordAt, Sending, Standing, Ports, Half, LinkHalf, Error, HaltOnError}
use Rattle.tprocesses.specs.Places.{Unfinished, Life, Successions, Messages, Kept, Population, HasRun, FlagChanged}
use Rattle.tprocesses.specs.Values.{Value, Word, IsWord, IsAmount}
use Rattle.tprocesses.specs.Changes.{Add, Adds, apply}
use Rattle.tprocesses.specs.Touching.{Site, count_outputs, count_words, word_count, word_number}
use Rattle.tcertify.specs.declared.notes.Mode.TheVariants as noted
use Rattle.tcertify.specs.declared.notes.Notes.{Notes}
use Rattle.tcertify.specs.declared.stored.StoredWord.{StoredWord}
use Rattle.tcertify.specs.declared.stored.Words.{Words}
use Rattle.tcertify.specs.Notes.{IsNoted, Keeps, Numbering, NumbersWords}
use Rattle.tcertify.specs.Running.{State, changed, run_part}
use Rattle.tcertify.specs.Spans.{AreTouched, HasCount, HasWords, IsCounted, IsSameNode, sent_or, word_or_none}
use Rattle.tcertify.specs.Walked.{Accessed, accesses}
use Rattle.tcertify.specs.Words.{Runs, sending_or, site_of, standing, with_words, word_of, word_or}
use Rattle.tcertify.proofs.Marking.{before, beside, fewer, here, kept}
use Rattle.tcertify.proofs.Places.{set_elsewhere, set_here, there_is}
use Rattle.tcertify.proofs.Putting.{below_or, stand_alike}
use Rattle.tcertify.proofs.SpanPuts.{inside_all}
use Rattle.tcertify.proofs.Written.{kept_by_set, same_node, same_on}

-- the counts of the first words have changed
pub record CountedSoFar (w : Words) (first k : ℕ) (z : ℤ) (u : Words) : Type 0 where
  pub words : (j : ℕ) → word_or_none (slice_get u.items.items j) ≡ word_or_none (slice_get w.items.items j)
  pub elsewhere : (j : ℕ) → (j < first) ⊎ (first + k ≤ j) → slice_get u.items.items j ≡ slice_get w.items.items j
  pub counted : (j : ℕ) → j < k → option_map (λ n. pos n) (sent_or (slice_get u.items.items (first + j)))
      ≡ option_map (λ n. pos n +ℤ z) (sent_or (slice_get w.items.items (first + j)))
  pub same : IsSameNode w u
  pub notes : u.notes ≡ w.notes

pub none_counted : (w : Words) (first : ℕ) (z : ℤ) → CountedSoFar w first 0 z w
none_counted w first z =
    record {
      words = λ j. refl;
      elsewhere = λ j h. refl;
      counted = λ j low. absurd (omega arith);
      same = same_node w;
      notes = refl;
    }

module _ (w u v : Words) (first k : ℕ) (x y : StoredWord) (there : slice_get u.items.items (first + k) ≡ Some x)
    (left : v.items.items ≡ set u.items.items (first + k) y) (node : IsSameNode u v) (notes : v.notes ≡ u.notes)
    (z : ℤ) (h : CountedSoFar w first k z u) where
  -- the word as it was at first
  was : slice_get w.items.items (first + k) ≡ Some x
  was = sym (h.elsewhere (first + k) (inr (omega arith))) ∙ there

  pub count_goes_on : word_of y ≡ word_of x → pos y.sending ≡ pos x.sending +ℤ z → CountedSoFar w first (k + 1) z v
  count_goes_on is counts =
      record {
        words = λ j. kept u v first k x y there left word_or_none (ap (λ (n : Word). Some n) is) j ∙ h.words j;
        elsewhere = λ j at. beside u v first k x y there left j at
            ∙ h.elsewhere j (fewer u v first k x y there left j at);
        counted = below_more (λ (j : ℕ). option_map (λ n. pos n) (sent_or (slice_get v.items.items (first + j)))
            ≡ option_map (λ n. pos n +ℤ z) (sent_or (slice_get w.items.items (first + j)))) k
            (λ j low. ap (λ (o : Option StoredWord). option_map (λ n. pos n) (sent_or o))
            (before u v first k x y there left j low) ∙ h.counted j low)
            (ap (λ (o : Option StoredWord). option_map (λ n. pos n) (sent_or o)) (here u v first k x y there left)
            ∙ ap (λ (n : ℤ). Some n) counts
            ∙ sym (ap (λ (o : Option StoredWord). option_map (λ n. pos n +ℤ z) (sent_or o)) was));
        same = same_on w u v h.same node;
        notes = notes ∙ h.notes;
      }

-- a count changes: the place of the outputs changes, and no other one
module _ (n : ℕ) (ws : List StoredWord) (k : ℕ) (x y : StoredWord) (there : slice_get ws k ≡ Some x)
    (is : word_of y ≡ word_of x) (z : ℤ) (counts : pos y.sending ≡ pos x.sending +ℤ z) where
  word_stays : (b : Bool) (l : ℕ) (d : Value) → (if b then word_or (slice_get ws l) d else d)
      ≡ (if b then word_or (slice_get (set ws k y) l) d else d)
  word_stays false l d = refl
  word_stays true l d =
      sym (kept_by_set (λ (o : Option StoredWord). word_or o d) ws k l x y there (ap (λ (w : Word). IsWord w) is))

  sent_changes : (b : Bool) (l : ℕ) (d : Value)
      → (if b && (k == l) then apply (Add z) (if b then sending_or (slice_get ws l) d else d)
      else (if b then sending_or (slice_get ws l) d else d))
      ≡ (if b then sending_or (slice_get (set ws k y) l) d else d)
  sent_changes false l d = refl
  sent_changes true l d = by (k == l) refl
    where
      by : (t : Bool) → (k == l) ≡ t
          → (if t then apply (Add z) (sending_or (slice_get ws l) d) else sending_or (slice_get ws l) d)
          ≡ sending_or (slice_get (set ws k y) l) d
      by true e =
          let same = eqb-true k l e in
          ap (λ (m : ℕ). apply (Add z) (sending_or (slice_get ws m) d)) (sym same)
          ∙ ap (λ (o : Option StoredWord). apply (Add z) (sending_or o d)) there
          ∙ ap (λ (i : ℤ). IsAmount i) (sym counts)
          ∙ ap (λ (o : Option StoredWord). sending_or o d) (sym (set_here ws k y x there))
          ∙ ap (λ (m : ℕ). sending_or (slice_get (set ws k y) m) d) same
      by false e =
          ap (λ (o : Option StoredWord). sending_or o d)
          (sym (set_elsewhere ws k l y (λ same. cc (e, eq-eqb k l same))))

  place_counted : (rest : State) (p : Place) → changed (Sending n k) (Add z) (with_words n ws rest) p
      ≡ with_words n (set ws k y) rest p
  place_counted rest (WordAt m l) = word_stays (n == m) l (rest (WordAt m l))
  place_counted rest (Sending m l) = sent_changes (n == m) l (rest (Sending m l))
  place_counted rest (Standing q) = refl
  place_counted rest (Ports q) = refl
  place_counted rest (Half m l q) = refl
  place_counted rest (LinkHalf q l) = refl
  place_counted rest (Unfinished q) = refl
  place_counted rest (Error m) = refl
  place_counted rest (HaltOnError m) = refl
  place_counted rest (Life m l) = refl
  place_counted rest (Successions m l) = refl
  place_counted rest (Messages q) = refl
  place_counted rest (Kept q) = refl
  place_counted rest (Population m) = refl
  place_counted rest (HasRun m l) = refl
  place_counted rest (FlagChanged m) = refl

  state_counted : (rest : State) → changed (Sending n k) (Add z) (with_words n ws rest)
      ≡ with_words n (set ws k y) rest
  state_counted rest = λ i p. place_counted rest p i

-- a word that is alike is there too
alike_there : (o p : Option StoredWord) (x : StoredWord) → p ≡ Some x → word_or_none o ≡ word_or_none p
    → (y : StoredWord) × (o ≡ Some y) × (word_of y ≡ word_of x)
alike_there None p x there e = cc (e, ap word_or_none there)
alike_there (Some y) p x there e =
    let same : Some (word_of y) ≡ Some (word_of x) = e ∙ ap word_or_none there in
    let is : word_of y ≡ word_of x = cc in (y, refl, is)

-- the counts of words in a row change to those that stand there in the end
module _ (s : Site) (z : ℤ) (vs : List StoredWord) (rest : State) where
  pub count_rows : (count k : ℕ) (ws : List StoredWord)
      → ((j : ℕ) → k ≤ j → j < k + count → (x : StoredWord) × (slice_get ws j ≡ Some x))
      → ((j : ℕ) → k ≤ j → j < k + count → option_map (λ n. pos n) (sent_or (slice_get vs j))
      ≡ option_map (λ n. pos n +ℤ z) (sent_or (slice_get ws j)))
      → ((j : ℕ) → word_or_none (slice_get vs j) ≡ word_or_none (slice_get ws j))
      → ((j : ℕ) → (j < k) ⊎ (k + count ≤ j) → sent_or (slice_get vs j) ≡ sent_or (slice_get ws j))
      → run_part (count_words s z k count) (with_words s.number ws rest) ≡ (Ok tt, with_words s.number vs rest)
  count_rows zero k ws has counted words outside =
      ap (λ (t : State). (Ok tt, t))
      (sym (stand_alike s.number vs ws rest words (λ j. outside j (at j (below_or j k)))))
    where
      at : (j : ℕ) → (j < k) ⊎ (k ≤ j) → (j < k) ⊎ (k + 0 ≤ j)
      at j (inl h) = inl h
      at j (inr h) = inr (omega arith)
  count_rows (suc count) k ws has counted words outside =
      let low : k < k + suc count = omega arith in
      let here : k ≤ k = omega arith in
      let x = has k here low in
      let y = alike_there (slice_get vs k) (slice_get ws k) x.0 x.1 (words k) in
      let counts : pos y.0.sending ≡ pos x.0.sending +ℤ z =
      some_same (pos y.0.sending) (pos x.0.sending +ℤ z)
      (ap (λ (o : Option StoredWord). option_map (λ n. pos n) (sent_or o)) (sym y.1) ∙ counted k here low
      ∙ ap (λ (o : Option StoredWord). option_map (λ n. pos n +ℤ z) (sent_or o)) x.1) in
      ap (run_part (count_words s z (suc k) count)) (state_counted s.number ws k x.0 y.0 x.1 y.2 z counts rest)
      ∙ count_rows count (suc k) (set ws k y.0)
      (λ j a b. let w = has j (omega arith) (omega arith) in
      (w.0, set_elsewhere ws k j y.0 (λ e. absurd (omega arith)) ∙ w.1))
      (λ j a b. counted j (omega arith) (omega arith)
      ∙ ap (λ (o : Option StoredWord). option_map (λ n. pos n +ℤ z) (sent_or o))
      (sym (set_elsewhere ws k j y.0 (λ e. absurd (omega arith)))))
      (λ j. words j ∙ sym (kept_by_set word_or_none ws k j x.0 y.0 x.1 (ap (λ (n : Word). Some n) y.2)))
      (λ j h. outside_next j h (cases_eq k j) y.0 y.1)
    where
      some_same : (a b : ℤ) → Some a ≡ Some b → a ≡ b
      some_same a b e = cc

      outside_next : (j : ℕ) → (j < suc k) ⊎ (suc k + count ≤ j) → (k ≡ j) ⊎ (k ≡ j → ⊥) → (y : StoredWord)
          → slice_get vs k ≡ Some y → sent_or (slice_get vs j) ≡ sent_or (slice_get (set ws k y) j)
      outside_next j h (inl e) y there =
          let x = has k (omega arith) (omega arith) in
          ap (λ (m : ℕ). sent_or (slice_get vs m)) (sym e) ∙ ap sent_or there
          ∙ ap sent_or (sym (set_here ws k y x.0 x.1))
          ∙ ap (λ (m : ℕ). sent_or (slice_get (set ws k y) m)) e
      outside_next j (inl h) (inr other) y there =
          outside j (inl (omega (arith, λ (e : k ≡ j). other e)))
          ∙ ap sent_or (sym (set_elsewhere ws k j y other))
      outside_next j (inr h) (inr other) y there =
          outside j (inr (omega arith)) ∙ ap sent_or (sym (set_elsewhere ws k j y other))

-- what counts words in a row accesses
pub count_told : (Q : Accessed → Type 0) (s : Site) (z : ℤ) (count k : ℕ) (t : State)
    → ((j : ℕ) → k ≤ j → j < k + count → Q (record { place = Sending s.number j; mode = Changes Adds }))
    → All Q (accesses (count_words s z k count) t)
count_told Q s z zero k t h = All-nil Q
count_told Q s z (suc count) k t h =
    let low : k < k + suc count = omega arith in
    let here : k ≤ k = omega arith in
    All-cons Q _ _ (h k here low)
    (count_told Q s z count (suc k) _ (λ j a b. h j (omega arith) (omega arith)))

-- the outputs of a span's words are counted: they are noted, and their counts change
module _ (w t v : Words) (span : Span) (z : ℤ) (touched : AreTouched w span noted.Lends t)
    (counted : IsCounted t span z v) (inside : HasWords (length w.items.items) span) where
  abbrev first : ℕ
  first = word_number span.start

  abbrev count : ℕ
  count = word_count span

  number : v.number ≡ w.number
  number = counted.same.number ∙ touched.same.number

  has : (j : ℕ) → first ≤ j → j < first + count → (x : StoredWord) × (slice_get w.items.items j ≡ Some x)
  has j low high = there_is w.items.items j (inside_all (length w.items.items) span inside j low high)

  stood : (j : ℕ) → slice_get t.items.items j ≡ slice_get w.items.items j
  stood j = ap (λ (ws : List StoredWord). slice_get ws j) touched.items

  counts : (j : ℕ) → first ≤ j → j < first + count → option_map (λ n. pos n) (sent_or (slice_get v.items.items j))
      ≡ option_map (λ n. pos n +ℤ z) (sent_or (slice_get w.items.items j))
  counts j low high =
      let below : j - first < count = omega arith in
      let at : first + (j - first) ≡ j = omega arith in
      subst (λ (m : ℕ). option_map (λ n. pos n) (sent_or (slice_get v.items.items m))
      ≡ option_map (λ n. pos n +ℤ z) (sent_or (slice_get w.items.items m))) at
      (counted.counted (j - first) below
      ∙ ap (λ (o : Option StoredWord). option_map (λ n. pos n +ℤ z) (sent_or o)) (stood (first + (j - first))))

  told : (numbering : Numbering) → NumbersWords numbering w.number w.first_place → v.notes.is_lost ≡ false → (j : ℕ)
      → first ≤ j → j < first + count
      → IsNoted numbering v.notes.items.items (record { place = Sending w.number j; mode = Changes Adds })
  told numbering numbers kept j low high =
      let below : j - first < count = omega arith in
      let is : first + (j - first) ≡ j = omega arith in
      let at : t.first_place + (first + (j - first)) ≡ w.first_place + j =
      ap (λ (n : ℕ). n + (first + (j - first))) touched.same.first ∙ ap (λ (n : ℕ). w.first_place + n) is in
      subst (λ (n : Notes). IsNoted numbering n.items.items
      (record { place = Sending w.number j; mode = Changes Adds }))
      (sym counted.notes)
      ((touched.tells (j - first) below).noted (subst (λ (n : Notes). n.is_lost ≡ false) counted.notes kept) numbering
      (record { place = Sending w.number j; mode = Changes Adds }) (numbers.sending j ∙ sym at) refl)

  pub counts_span : Runs (count_outputs (site_of w) z span) w (Ok tt) v
  counts_span =
      record {
        runs = λ rest. count_rows (site_of w) z v.items.items rest count first w.items.items has counts
            (λ j. counted.words j ∙ ap word_or_none (stood j))
            (λ j h. ap sent_or (counted.elsewhere j h ∙ stood j))
            ∙ ap (λ (n : ℕ). (Ok tt, with_words n v.items.items rest)) (sym number);
        node = number;
        first = counted.same.first ∙ touched.same.first;
        keeps = subst (λ (n : Notes). Keeps w.notes n) (sym counted.notes) touched.keeps;
        noted = λ numbering numbers rest kept. count_told (IsNoted numbering v.notes.items.items) (site_of w) z count
            first (standing w rest) (told numbering numbers kept);
      }

-- a count that rises or falls by one, as a whole number
pub one_more : (n : ℕ) → pos (n + 1) ≡ pos n +ℤ pos 1
one_more n = omega (arith, ints)

pub one_less : (n : ℕ) → (n ≡ 0 → ⊥) → pos (n - 1) ≡ pos n +ℤ negsuc 0
one_less zero some = absurd (some refl)
one_less (suc n) some = omega (arith, ints)

-- the count of a word of the span as it was at first
pub counted_at : (w u : Words) (span : Span) (k : ℕ) (z : ℤ) (x : StoredWord) → k < word_count span
    → CountedSoFar w (word_number span.start) k z u → slice_get u.items.items (word_number span.start + k) ≡ Some x
    → HasCount w span x.sending
counted_at w u span k z x low h there =
    record {
      k = k;
      among = low;
      is = ap sent_or (sym (h.elsewhere (word_number span.start + k) (inr (omega arith))) ∙ there);
    }
