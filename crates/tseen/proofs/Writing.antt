-- Touches and writes of spans, of words and copies: what holds after each.
use Rattle.std.proofs.Common.{◌≡◌, ℕ, ◌+◌, ◌-◌, ◌*◌, ◌<◌, ◌≤◌, ◌/◌, ◌%◌, refl, sym, ap, subst, ◌∙◌, ◌++◌, length, min}
use Rattle.std.proofs.Common.{get_or, take, drop, true, None, arith, ◌⊎◌, inl, inr, length-take, length-drop}
use Rattle.std.proofs.Common.{length-append}
use Rattle.std.proofs.lemmas.Bool.{eq-eqb, eqb-true, ne_eqb, cases_eq, cases_lt}
use Rattle.tword.specs.declared.span.Span.{Span}
use Rattle.tword.specs.Words.{most_neg}
use Rattle.tword.specs.Stores.{Store, place}
use Rattle.tword.specs.Touches.{Mode, Reads, Writes, is_aligned, place_break, word_span, word_place_break}
use Rattle.tword.proofs.Passing.{inside_bounds}
use Rattle.tword.proofs.Copying.{with_cells-below, with_cells-in, with_cells-above}
use Rattle.tprocesses.specs.Places.{WordAt}
use Rattle.tprocesses.specs.Values.{Use, Free, IsWord}
use Rattle.tprocesses.specs.Changes.{Change, Put}
use Rattle.tprocesses.specs.Touching.{Site, word_number, word_count, touch, part_of, replaced, write, write_word_at}
use Rattle.tprocesses.specs.Touching.{touch_word_at}
use Rattle.tprocesses.specs.Performing.{copied}
use Rattle.tprocesses.specs.Parts.{unless}
use Rattle.tseen.proofs.After.{State, changed, After, after_bind, after_unless}
use Rattle.tseen.proofs.Spans.{IsWordOf, placed_span, word_placed}
use Rattle.tseen.proofs.Cells.{word_of, use_of, cell, IsWhole, range-at, range-length}
use Rattle.tseen.proofs.Touched.{IsTouched, AreTouched, touch_word_then, touch_words_then}
use Rattle.tseen.proofs.Written.{Keeps, IsLaid, AreLaid, AreLaidFor, AreSet, put_words_then, laid_keeps, laid_cell}
use Rattle.tseen.proofs.Written.{other_cell, changed_there, changed_word, changed_else}

-- where in its first word a span begins
abbrev pub offset : Span → ℕ
offset span = place span.start % 4

-- how far the words of a span reach
pub record Reach (size : ℕ) (span : Span) : Type 0 where
  -- it is empty and has no word, or its words have all of its bytes
  pub covers : ((span.size ≡ 0) × (word_count span ≡ 0)) ⊎ (offset span + span.size ≤ 4 * word_count span)
  pub fits : (k : ℕ) → word_number span.start ≤ k → k < word_number span.start + word_count span → 4 * k + 4 ≤ size

pub reach : (size : ℕ) (span : Span) → size % 4 ≡ 0 → place_break size span ≡ None → Reach size span
reach size span whole placed = by (cases_eq span.size 0) (inside_bounds size span (placed_span size span placed).0)
  where
    by : (span.size ≡ 0) ⊎ (span.size ≡ 0 → ⊥)
        → (span.size ≡ 0) ⊎ ((most_neg ≤ span.start) × (span.start - most_neg + span.size ≤ size)) → Reach size span
    by (inl e) b =
        let none : word_count span ≡ 0 = rw (eq-eqb span.size 0 e) refl in
        record { covers = inl (e, none); fits = λ k l h. absurd (omega (arith, none)) }
    by (inr e) (inl f) = absurd (e f)
    by (inr e) (inr b) =
        let many : word_count span ≡ (offset span + span.size + 3) / 4 = rw (ne_eqb span.size 0 e) refl in
        record {
          covers = inr (omega (arith, many));
          fits = λ k l h. omega (arith, many, b.1, whole);
        }

-- these are the cells of words in a row
pub record AreRead (s : State) (n first count : ℕ) (words : Store) : Type 0 where
  pub size : length words ≡ 4 * count
  pub cells : (j : ℕ) → j < 4 * count → get_or words j None ≡ cell s n (4 * first + j)

-- a span was touched, and these are the cells of its words
pub record IsSpanTouched (s : State) (n size : ℕ) (mode : Mode) (span : Span) (words : Store) : Type 0 where
  pub placed : place_break size span ≡ None
  pub are : AreTouched s n mode (word_number span.start) (word_count span) words

-- these are the cells of the words of a span
pub record IsSpanRead (s : State) (n size : ℕ) (span : Span) (words : Store) : Type 0 where
  pub placed : place_break size span ≡ None
  pub are : AreRead s n (word_number span.start) (word_count span) words

pub span_read : (s : State) (n size : ℕ) (mode : Mode) (span : Span) (words : Store)
    → IsSpanTouched s n size mode span words → IsSpanRead s n size span words
span_read s n size mode span words t =
    record { placed = t.placed; are = record { size = t.are.size; cells = t.are.cells } }

-- the cells of the span among them
module _ (s : State) (n size : ℕ) (span : Span) (words : Store) (whole : size % 4 ≡ 0)
    (t : IsSpanRead s n size span words) where
  pub part-length : length (part_of span words) ≡ span.size
  part-length = by (reach size span whole t.placed).covers
    where
      by : ((span.size ≡ 0) × (word_count span ≡ 0)) ⊎ (offset span + span.size ≤ 4 * word_count span)
          → length (part_of span words) ≡ span.size
      by (inl e) =
          let none : offset span + span.size - offset span ≡ span.size = omega arith in
          rw (none, length-take, length-drop) (omega (arith, e.0))
      by (inr e) = range-length words (offset span) span.size (omega (arith, t.are.size))

  pub part-at : (j : ℕ) → j < span.size → get_or (part_of span words) j None ≡ cell s n (place span.start + j)
  part-at j h = by (reach size span whole t.placed).covers
    where
      by : ((span.size ≡ 0) × (word_count span ≡ 0)) ⊎ (offset span + span.size ≤ 4 * word_count span)
          → get_or (part_of span words) j None ≡ cell s n (place span.start + j)
      by (inl e) = absurd (omega (arith, e.0))
      by (inr e) =
          range-at words (offset span) span.size j h ∙ t.are.cells (offset span + j) (omega arith)
          ∙ ap (cell s n) (omega arith)

  -- and with these replaced
  module _ (new : Store) (size_new : length new ≡ span.size) where
    pub replaced-length : length (replaced span words new) ≡ 4 * word_count span
    replaced-length =
        rw (length-append, length-append, length-take, length-drop)
        (by (reach size span whole t.placed).covers)
      where
        by : ((span.size ≡ 0) × (word_count span ≡ 0)) ⊎ (offset span + span.size ≤ 4 * word_count span)
            → min (offset span) (length words) + length new + (length words - (offset span + length new))
            ≡ 4 * word_count span
        by (inl e) = omega (arith, e.0, e.1, t.are.size, size_new)
        by (inr e) = omega (arith, e, t.are.size, size_new)

    -- what is replaced begins here among the words
    abbrev pub with_new : ℕ → Store
    with_new p = take p words ++ new ++ drop (p + length new) words

    begins : place (most_neg + offset span) ≡ offset span
    begins = omega arith

    pub replaced-in : (j : ℕ) → j < length new → get_or (replaced span words new) (offset span + j) None
        ≡ get_or new j None
    replaced-in j h = by (reach size span whole t.placed).covers
      where
        by : ((span.size ≡ 0) × (word_count span ≡ 0)) ⊎ (offset span + span.size ≤ 4 * word_count span)
            → get_or (replaced span words new) (offset span + j) None ≡ get_or new j None
        by (inl e) = absurd (omega (arith, e.0, size_new))
        by (inr e) =
            subst (λ p. get_or (with_new p) (offset span + j) None ≡ get_or new j None) begins
            (with_cells-in words (most_neg + offset span) span.size new (omega arith)
            (omega (arith, t.are.size, e)) size_new (offset span + j) (omega arith) (omega (arith, size_new))
            ∙ ap (λ i. get_or new i None) (omega arith))

    pub replaced-out : (j : ℕ) → (j < offset span) ⊎ (offset span + length new ≤ j) → j < 4 * word_count span
        → get_or (replaced span words new) j None ≡ get_or words j None
    replaced-out j h b = by (reach size span whole t.placed).covers h
      where
        by : ((span.size ≡ 0) × (word_count span ≡ 0)) ⊎ (offset span + span.size ≤ 4 * word_count span)
            → (j < offset span) ⊎ (offset span + length new ≤ j)
            → get_or (replaced span words new) j None ≡ get_or words j None
        by (inl e) h = absurd (omega (arith, e.1))
        by (inr e) (inl c) =
            subst (λ p. get_or (with_new p) j None ≡ get_or words j None) begins
            (with_cells-below words (most_neg + offset span) span.size new (omega arith)
            (omega (arith, t.are.size, e)) size_new j (omega arith))
        by (inr e) (inr c) =
            subst (λ p. get_or (with_new p) j None ≡ get_or words j None) begins
            (with_cells-above words (most_neg + offset span) span.size new (omega arith)
            (omega (arith, t.are.size, e)) size_new j (omega (arith, size_new)))

    -- so the cells of the span are set
    pub span_set : {used : Use} (u : State)
        → AreLaidFor used n (word_number span.start) (word_count span) (replaced span words new) s u
        → AreSet n (place span.start) new s u
    span_set {used} u l =
        record { inside = inside; outside = λ i b. outside i b (cases_lt i first) (cases_lt i behind) }
      where
        first : ℕ
        first = 4 * word_number span.start

        behind : ℕ
        behind = 4 * word_number span.start + 4 * word_count span

        inside : (j : ℕ) → j < length new → cell u n (place span.start + j) ≡ get_or new j None
        inside j h = by (reach size span whole t.placed).covers
          where
            by : ((span.size ≡ 0) × (word_count span ≡ 0)) ⊎ (offset span + span.size ≤ 4 * word_count span)
                → cell u n (place span.start + j) ≡ get_or new j None
            by (inl e) = absurd (omega (arith, e.0, size_new))
            by (inr e) =
                ap (cell u n) (omega arith)
                ∙ laid_cell n (word_number span.start) (word_count span) (replaced span words new) s u l
                (offset span + j) (omega (arith, size_new))
                ∙ replaced-in j h

        outside : (i : ℕ) → (i < place span.start) ⊎ (place span.start + length new ≤ i)
            → (i < first) ⊎ (first ≤ i) → (i < behind) ⊎ (behind ≤ i) → cell u n i ≡ cell s n i
        outside i b (inl c) d =
            other_cell n (word_number span.start) (word_count span) (replaced span words new) s u l i (inl c)
        outside i b (inr c) (inr d) =
            other_cell n (word_number span.start) (word_count span) (replaced span words new) s u l i (inr d)
        outside i b (inr c) (inl d) =
            ap (cell u n) (omega arith)
            ∙ laid_cell n (word_number span.start) (word_count span) (replaced span words new) s u l
            (i - first) (omega arith)
            ∙ replaced-out (i - first) (side b) (omega arith) ∙ t.are.cells (i - first) (omega arith)
            ∙ ap (cell s n) (omega arith)
          where
            side : (i < place span.start) ⊎ (place span.start + length new ≤ i)
                → (i - first < offset span) ⊎ (offset span + length new ≤ i - first)
            side (inl b) = inl (omega arith)
            side (inr b) = inr (omega arith)

module _ (site : Site) (whole : site.size % 4 ≡ 0) where
  abbrev n : ℕ
  n = site.number

  -- the words of the memory are whole
  abbrev pub AreWhole : State → Type 0
  AreWhole s = (k : ℕ) → 4 * k + 4 ≤ site.size → IsWhole (s (WordAt n k))

  pub touch_then : (mode : Mode) (span : Span) (s : State) (Q : Store → State → Type 0) → AreWhole s
      → ((words : Store) → IsSpanTouched s n site.size mode span words → Q words s)
      → After (touch site mode span) s Q
  touch_then mode span s Q w h =
      after_bind (unless (place_break site.size span)) _ s Q (after_unless (place_break site.size span) s _ (λ placed.
      touch_words_then site mode (word_count span) (word_number span.start) s Q
      (λ k a b. w k ((reach site.size span whole placed).fits k a b))
      (λ words t. h words (record { placed = placed; are = t }))))

  -- a span was written
  pub record IsWritten (s t : State) (span : Span) (new : Store) : Type 0 where
    pub placed : place_break site.size span ≡ None
    pub touched : (k : ℕ) → IsWordOf span k → IsTouched s n Writes k
    pub keeps : Keeps n s t
    pub set : AreSet n (place span.start) new s t

  pub write_then : (span : Span) (new : Store) (s : State) (Q : Unit {0} → State → Type 0) → length new ≡ span.size
      → AreWhole s → ((t : State) → IsWritten s t span new → Q tt t) → After (write site span new) s Q
  write_then span new s Q size w h =
      after_bind (touch site Writes span) _ s Q (touch_then Writes span s _ w (λ words t.
      put_words_then site Free (word_count span) (word_number span.start) (replaced span words new) s Q
      (replaced-length s n site.size span words whole (span_read s n site.size Writes span words t) new size) (λ u l.
      h u (record {
        placed = t.placed;
        touched = λ k i. t.are.touched k i.from i.to;
        keeps = laid_keeps n (word_number span.start) (word_count span) (replaced span words new) s u
            (λ k a b. (t.are.touched k a b).free) l;
        set = span_set s n site.size span words whole (span_read s n site.size Writes span words t) new size u l;
      }))))

  -- a word
  pub record IsWordTouched (s : State) (mode : Mode) (a : ℕ) : Type 0 where
    pub placed : word_place_break site.size a ≡ None
    pub touched : IsTouched s n mode (word_number a)
    pub at : place a ≡ 4 * word_number a
    pub above : most_neg ≤ a
    pub within : 4 * word_number a + 4 ≤ site.size

  pub word_lies : (a : ℕ) → word_place_break site.size a ≡ None
      → (place a ≡ 4 * word_number a) × (most_neg ≤ a) × (4 * word_number a + 4 ≤ site.size)
  word_lies a h =
      let p : (is_aligned a ≡ true) × (place_break site.size (word_span a) ≡ None) = word_placed site.size a h in
      by (eqb-true _ _ p.0) (inside_bounds site.size (word_span a) (placed_span site.size (word_span a) p.1).0)
    where
      by : a % 4 ≡ 0 → ((word_span a).size ≡ 0) ⊎ ((most_neg ≤ a) × (a - most_neg + 4 ≤ site.size))
          → (place a ≡ 4 * word_number a) × (most_neg ≤ a) × (4 * word_number a + 4 ≤ site.size)
      by m (inl z) = absurd (omega arith)
      by m (inr b) = (omega (arith, m, b.0), b.0, omega (arith, m, b.0, b.1))

  pub touch_word_at_then : (mode : Mode) (a : ℕ) (s : State) (Q : Store → State → Type 0)
      → (IsWordTouched s mode a → Q (word_of s n (word_number a)).cells s) → After (touch_word_at site mode a) s Q
  touch_word_at_then mode a s Q h =
      after_bind (unless (word_place_break site.size a)) _ s Q (after_unless (word_place_break site.size a) s _
      (λ placed. touch_word_then site mode (word_number a) s Q (λ t.
      let l : (place a ≡ 4 * word_number a) × (most_neg ≤ a) × (4 * word_number a + 4 ≤ site.size) =
      word_lies a placed in
      h (record { placed = placed; touched = t; at = l.0; above = l.1; within = l.2 }))))

  -- a word was written
  pub record IsWordWritten (s t : State) (a : ℕ) (new : Store) : Type 0 where
    pub touched : IsWordTouched s Writes a
    pub keeps : Keeps n s t
    pub set : AreSet n (place a) new s t

  word_laid : (k : ℕ) (new : Store) (s : State) → length new ≡ 4
      → AreLaid n k 1 new s (changed (WordAt n k) (Put (IsWord (record { cells = new; used = Free }))) s)
  word_laid k new s size =
      record {
        inside = λ l a b. (let e : k ≡ l = omega arith in
            subst (λ i. IsLaid ((changed (WordAt n k) c s) (WordAt n i)) new (4 * (i - k))) e here);
        outside = λ l b. changed_word n k c s l (apart l b);
        others = λ q b. changed_else n k c s q b;
      }
    where
      c : Change
      c = Put (IsWord (record { cells = new; used = Free }))

      here : IsLaid ((changed (WordAt n k) c s) (WordAt n k)) new (4 * (k - k))
      here =
          record {
            word = record { cells = new; used = Free };
            is = changed_there n k c s;
            is_used = refl;
            four = size;
            cells = λ j b. ap (λ i. get_or new i None) (omega arith);
          }

      apart : (l : ℕ) → (l < k) ⊎ (k + 1 ≤ l) → k ≡ l → ⊥
      apart l (inl b) e = omega (arith, e)
      apart l (inr b) e = omega (arith, e)

  pub word_written : (a : ℕ) (new : Store) (s : State) → length new ≡ 4 → IsWordTouched s Writes a
      → IsWordWritten s (changed (WordAt n (word_number a)) (Put (IsWord (record { cells = new; used = Free }))) s) a
      new
  word_written a new s size t =
      let l : AreLaid n (word_number a) 1 new s made = word_laid (word_number a) new s size in
      record {
        touched = t;
        keeps = laid_keeps n (word_number a) 1 new s made
            (λ k b c. (let e : word_number a ≡ k = omega arith in
            subst (λ i. use_of s n i ≡ Free) e t.touched.free)) l;
        set = subst (λ p. AreSet n p new s made) (sym t.at) (record {
          inside = λ j b. laid_cell n (word_number a) 1 new s made l j (omega (arith, size));
          outside = λ i b. other_cell n (word_number a) 1 new s made l i (side i b);
        });
      }
    where
      made : State
      made = changed (WordAt n (word_number a)) (Put (IsWord (record { cells = new; used = Free }))) s

      side : (i : ℕ) → (i < 4 * word_number a) ⊎ (4 * word_number a + length new ≤ i)
          → (i < 4 * word_number a) ⊎ (4 * word_number a + 4 * 1 ≤ i)
      side i (inl b) = inl b
      side i (inr b) = inr (omega (arith, size))

  pub write_word_at_then : (a : ℕ) (new : Store) (s : State) (Q : Unit {0} → State → Type 0) → length new ≡ 4
      → ((t : State) → IsWordWritten s t a new → Q tt t) → After (write_word_at site a new) s Q
  write_word_at_then a new s Q size h =
      after_bind (touch_word_at site Writes a) _ s Q (touch_word_at_then Writes a s _ (λ t.
      h (changed (WordAt n (word_number a)) (Put (IsWord (record { cells = new; used = Free }))) s)
      (word_written a new s size t)))

  -- a span was copied to another
  pub record IsCopied (s t : State) (from to : Span) : Type 0 where
    pub new : Store
    pub words : Store
    pub read : IsSpanTouched s n site.size Reads from words
    pub written : IsWritten s t to (part_of from words)

  pub copied_then : (from to : Span) (s : State) (Q : Unit {0} → State → Type 0) → to.size ≡ from.size
      → AreWhole s → ((t : State) → IsCopied s t from to → Q tt t) → After (copied site from to) s Q
  copied_then from to s Q same w h =
      after_bind (touch site Reads from) _ s Q (touch_then Reads from s _ w (λ words r.
      write_then to (part_of from words) s Q
      (part-length s n site.size from words whole (span_read s n site.size Reads from words r) ∙ sym same) w (λ t k.
      h t (record { new = part_of from words; words = words; read = r; written = k }))))
