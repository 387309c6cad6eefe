-- The bytes of a span among those of its words, and spans that are put.
use Rattle.std.proofs.Common.{◌≡◌, ℕ, zero, suc, ◌+◌, ◌-◌, ◌*◌, ◌/◌, ◌%◌, ◌<◌, ◌≤◌, refl, sym, subst, ap, ◌∙◌, arith}
use Rattle.std.proofs.Common.{◌⊎◌, inl, inr, List, [], ◌∷◌, ◌++◌, length, take, drop, Bool, true, false, Option, Some}
use Rattle.std.proofs.Common.{None, Ok}
use Rattle.std.specs.Prelude.{◌==◌, slice_get, slice_range, if◌then◌else◌}
use Rattle.std.proofs.lemmas.Bool.{eqb-true}
use Rattle.std.proofs.lemmas.List.{drop-drop, drop-take, take-take}
use Rattle.tagents.specs.WalkAccesses.{Changes}
use Rattle.tword.specs.declared.span.Span.{Span}
use Rattle.tword.specs.Stores.{Store, place}
use Rattle.tprocesses.specs.Places.{WordAt}
use Rattle.tprocesses.specs.Changes.{Puts}
use Rattle.tprocesses.specs.Touching.{part_of, put, replaced, word_count, word_number}
use Rattle.tcertify.specs.declared.notes.Mode.TheVariants as noted
use Rattle.tcertify.specs.declared.notes.Notes.{Notes}
use Rattle.tcertify.specs.declared.stored.StoredWord.{StoredWord}
use Rattle.tcertify.specs.declared.stored.Words.{Words}
use Rattle.tcertify.specs.declared.word_use.WordUse.{WordUse}
use Rattle.tcertify.specs.Notes.{IsNoted, Keeps, Numbering, NumbersWords}
use Rattle.tcertify.specs.Running.{run_part}
use Rattle.tcertify.specs.Spans.{AreTouched, FitsIn, HasWords, IsGiven, IsWritten, Misses, bytes_in, cells_from}
use Rattle.tcertify.specs.Spans.{sent_or}
use Rattle.tcertify.specs.Spans.{span_cells, splice, use_or, word_or_none}
use Rattle.tcertify.specs.Words.{Runs, site_of, standing, use_of, with_words}
use Rattle.tcertify.proofs.Places.{there_is}
use Rattle.tcertify.proofs.Putting.{put_rows, put_told}
use Rattle.tcertify.proofs.Splices.{drop_splice, range_length, range_none, splice_is, take_splice}
use Rattle.tcertify.proofs.WordBytes.{bytes_length, cells_are, cells_length}

-- how many words a span has, by its size
pub data Counted (p size count : ℕ) : Type 0 where
  Nothing : size ≡ 0 → count ≡ 0 → Counted p size count
  Many : 0 < size → p % 4 + size ≤ 4 * count → Counted p size count

positive : (n : ℕ) → (n == 0) ≡ false → 0 < n
positive zero e = cc
positive (suc n) e = omega arith

pub counted : (span : Span) → Counted (place span.start) span.size (word_count span)
counted span = by (span.size == 0) refl
  where
    by : (t : Bool) → (span.size == 0) ≡ t
        → Counted (place span.start) span.size (if t then 0 else (place span.start % 4 + span.size + 3) / 4)
    by true e = Nothing (eqb-true span.size 0 e) refl
    by false e = Many (positive span.size e) (omega arith)

-- an empty list
no_items : (xs : Store) → length xs ≡ 0 → xs ≡ []
no_items [] e = refl
no_items (x ∷ xs) e = absurd (omega arith)

abbrev nil : Store
nil = []

take_none : (n : ℕ) → take n nil ≡ []
take_none zero = refl
take_none (suc n) = refl

drop_none : (n : ℕ) → drop n nil ≡ []
drop_none zero = refl
drop_none (suc n) = refl

nothing_left : (q n : ℕ) → take q nil ++ nil ++ drop n nil ≡ nil
nothing_left q n = ap (λ (l : Store). l ++ nil ++ drop n nil) (take_none q) ∙ drop_none n

-- the words of a span are there
pub inside_all : (n : ℕ) (span : Span) → HasWords n span → (j : ℕ) → word_number span.start ≤ j
    → j < word_number span.start + word_count span → j < n
inside_all n span h j low high =
    let below : j - word_number span.start < word_count span = omega arith in
    let is : word_number span.start + (j - word_number span.start) ≡ j = omega arith in
    subst (λ (m : ℕ). m < n) is (h (j - word_number span.start) below)

-- and so are its bytes
fits_by : (n : ℕ) (span : Span) → Counted (place span.start) span.size (word_count span) → HasWords n span
    → FitsIn (4 * n) (place span.start) span.size
fits_by n span (Nothing none empty) h = λ j low. absurd (omega arith)
fits_by n span (Many some fits) h = λ j low.
    let at : ℕ = (place span.start + j) / 4 in
    let from : word_number span.start ≤ at = omega arith in
    let below : at - word_number span.start < word_count span = omega arith in
    let there = h (at - word_number span.start) below in omega arith

pub fits_in : (n : ℕ) (span : Span) → HasWords n span → FitsIn (4 * n) (place span.start) span.size
fits_in n span h = fits_by n span (counted span) h

module _ (ws : List StoredWord) (span : Span) (inside : HasWords (length ws) span) where
  abbrev p : ℕ
  p = place span.start

  abbrev k : ℕ
  k = word_number span.start

  abbrev c : ℕ
  c = word_count span

  -- the bytes of its words are a part of all
  row_is : cells_from ws k c ≡ take (4 * c) (drop (4 * k) (bytes_in ws))
  row_is = cells_are ws c k (4 * k) (4 * c) (inside_all (length ws) span inside) refl refl

  -- and so are those of the span
  part_by : Counted p span.size c → part_of span (cells_from ws k c) ≡ slice_range (bytes_in ws) p (p + span.size)
  part_by (Nothing none empty) =
      let one : p % 4 + span.size - p % 4 ≡ 0 = omega arith in
      let two : 0 ≡ p + span.size - p = omega arith in
      ap (λ (n : ℕ). take n (drop (p % 4) (cells_from ws k c))) one
      ∙ ap (λ (n : ℕ). take n (drop p (bytes_in ws))) two
  part_by (Many some fits) =
      let m : ℕ = 4 * c - p % 4 in
      let whole : 4 * c ≡ p % 4 + m = omega arith in
      let low : p % 4 + span.size - p % 4 ≤ m = omega arith in
      let at : 4 * k + p % 4 ≡ p = omega arith in
      let many : p % 4 + span.size - p % 4 ≡ p + span.size - p = omega arith in
      ap (λ (l : Store). slice_range l (p % 4) (p % 4 + span.size)) row_is
      ∙ ap (λ (n : ℕ). take (p % 4 + span.size - p % 4) (drop (p % 4) (take n (drop (4 * k) (bytes_in ws))))) whole
      ∙ ap (take (p % 4 + span.size - p % 4)) (drop-take (p % 4) m (drop (4 * k) (bytes_in ws)))
      ∙ take-take (p % 4 + span.size - p % 4) m (drop (p % 4) (drop (4 * k) (bytes_in ws))) low
      ∙ ap (take (p % 4 + span.size - p % 4)) (drop-drop (p % 4) (4 * k) (bytes_in ws))
      ∙ ap (λ (n : ℕ). take (p % 4 + span.size - p % 4) (drop n (bytes_in ws))) at
      ∙ ap (λ (n : ℕ). take n (drop p (bytes_in ws))) many

  pub part_is : part_of span (cells_from ws k c) ≡ slice_range (bytes_in ws) p (p + span.size)
  part_is = part_by (counted span)

  -- bytes that were set in the span
  module _ (vs : List StoredWord) (bytes : Store) (sized : length bytes ≡ span.size)
      (all : HasWords (length vs) span) (left : bytes_in vs ≡ splice p bytes (bytes_in ws)) where
    replaced_by : Counted p span.size c → replaced span (cells_from ws k c) bytes ≡ cells_from vs k c
    replaced_by (Nothing none empty) =
        let empty_bytes : bytes ≡ [] = no_items bytes (sized ∙ none) in
        ap (λ (n : ℕ). replaced span (cells_from ws k n) bytes) empty
        ∙ ap (λ (l : Store). take (p % 4) nil ++ l ++ drop (p % 4 + length l) nil) empty_bytes
        ∙ nothing_left (p % 4) (p % 4 + length nil) ∙ ap (cells_from vs k) (sym empty)
    replaced_by (Many some fits) =
        let room : p % 4 + length bytes ≤ length (cells_from ws k c) = omega (arith, cells_length ws c k) in
        let at : p ≡ 4 * k + p % 4 = omega arith in
        sym (cells_are vs c k (4 * k) (4 * c) (inside_all (length vs) span all) refl refl
        ∙ ap (λ (l : Store). take (4 * c) (drop (4 * k) l)) left
        ∙ ap (take (4 * c)) (drop_splice (4 * k) (p % 4) p bytes (bytes_in ws) at)
        ∙ take_splice (4 * c) (p % 4) bytes (drop (4 * k) (bytes_in ws))
        ∙ ap (splice (p % 4) bytes) (sym row_is)
        ∙ splice_is (p % 4) (p % 4 + length bytes) bytes (cells_from ws k c) refl room)

    pub replaced_is : replaced span (cells_from ws k c) bytes ≡ cells_from vs k c
    replaced_is = replaced_by (counted span)

-- a word with this use
used_there : (o : Option StoredWord) (used : WordUse) → use_or o ≡ Some used
    → (y : StoredWord) × (o ≡ Some y) × (use_of y.used ≡ use_of used)
used_there None used e = cc
used_there (Some y) used e =
    let same : y.used ≡ used = cc in (y, refl, ap use_of same)

-- a span is put: its words are noted, have the use, and have the bytes
module _ (w t b v : Words) (span : Span) (used : WordUse) (bytes : Store)
    (touched : AreTouched w span noted.Puts t) (given : IsGiven t span used b)
    (written : IsWritten b (place span.start) bytes v) (sized : length bytes ≡ span.size)
    (inside : HasWords (length w.items.items) span) where
  abbrev first : ℕ
  first = word_number span.start

  abbrev count : ℕ
  count = word_count span

  -- the number of a word in the row
  row_low : (j : ℕ) → first ≤ j → j < first + count → j - first < count
  row_low j low high = omega arith

  row_at : (j : ℕ) → first ≤ j → first + (j - first) ≡ j
  row_at j low = omega arith

  number : v.number ≡ w.number
  number = written.same.number ∙ given.same.number ∙ touched.same.number

  size : length v.items.items ≡ length w.items.items
  size = written.same.sized ∙ given.same.sized ∙ touched.same.sized

  has : (j : ℕ) → first ≤ j → j < first + count → (x : StoredWord) × (slice_get w.items.items j ≡ Some x)
  has j low high = there_is w.items.items j (inside_all (length w.items.items) span inside j low high)

  left_used : (j : ℕ) → first ≤ j → j < first + count
      → (y : StoredWord) × (slice_get v.items.items j ≡ Some y) × (use_of y.used ≡ use_of used)
  left_used j low high =
      used_there (slice_get v.items.items j) used
      (written.uses j
      ∙ ap (λ (m : ℕ). use_or (slice_get b.items.items m)) (sym (row_at j low))
      ∙ given.uses (j - first) (row_low j low high))

  sent : (j : ℕ) → sent_or (slice_get v.items.items j) ≡ sent_or (slice_get w.items.items j)
  sent j =
      written.sending j ∙ given.sending j
      ∙ ap (λ (ws : List StoredWord). sent_or (slice_get ws j)) touched.items

  misses_by : Counted (place span.start) span.size count → (j : ℕ) → (j < first) ⊎ (first + count ≤ j)
      → Misses (place span.start) (length bytes) j
  misses_by (Nothing none empty) j h = λ n low high is. absurd (omega (arith, sized))
  misses_by (Many some fits) j (inl h) = λ n low high is. absurd (omega arith)
  misses_by (Many some fits) j (inr h) = λ n low high is. absurd (omega (arith, sized))

  outside : (j : ℕ) → (j < first) ⊎ (first + count ≤ j)
      → word_or_none (slice_get v.items.items j) ≡ word_or_none (slice_get w.items.items j)
  outside j h =
      ap word_or_none
      (written.elsewhere j (misses_by (counted span) j h) ∙ given.elsewhere j h
      ∙ ap (λ (ws : List StoredWord). slice_get ws j) touched.items)

  laid : bytes_in v.items.items ≡ splice (place span.start) bytes (bytes_in w.items.items)
  laid =
      written.left
      ∙ ap (splice (place span.start) bytes) (given.bytes ∙ ap bytes_in touched.items)

  there : HasWords (length v.items.items) span
  there = subst (λ (n : ℕ). HasWords n span) (sym size) inside

  same : replaced span (span_cells w span) bytes ≡ cells_from v.items.items first count
  same = replaced_is w.items.items span inside v.items.items bytes sized there laid

  kept_notes : v.notes ≡ t.notes
  kept_notes = written.notes ∙ given.notes

  told : (numbering : Numbering) → NumbersWords numbering w.number w.first_place → v.notes.is_lost ≡ false → (j : ℕ)
      → first ≤ j → j < first + count
      → IsNoted numbering v.notes.items.items (record { place = WordAt w.number j; mode = Changes Puts })
  told numbering numbers kept j low high =
      let is = row_at j low in
      let at : t.first_place + (first + (j - first)) ≡ w.first_place + j =
      ap (λ (n : ℕ). n + (first + (j - first))) touched.same.first ∙ ap (λ (n : ℕ). w.first_place + n) is in
      subst (λ (n : Notes). IsNoted numbering n.items.items (record { place = WordAt w.number j; mode = Changes Puts }))
      (sym kept_notes)
      ((touched.tells (j - first) (row_low j low high)).noted
      (subst (λ (n : Notes). n.is_lost ≡ false) kept_notes kept) numbering
      (record { place = WordAt w.number j; mode = Changes Puts }) (numbers.word j ∙ sym at) refl)

  pub puts_span : Runs (put (site_of w) (use_of used) span (replaced span (span_cells w span) bytes)) w (Ok tt) v
  puts_span =
      record {
        runs = λ rest. ap (λ (l : Store). run_part (put (site_of w) (use_of used) span l) (standing w rest)) same
            ∙ put_rows (site_of w) (use_of used) v.items.items rest count first w.items.items has left_used sent outside
            ∙ ap (λ (n : ℕ). (Ok tt, with_words n v.items.items rest)) (sym number);
        node = number;
        first = written.same.first ∙ given.same.first ∙ touched.same.first;
        keeps = subst (λ (n : Notes). Keeps w.notes n) (sym kept_notes) touched.keeps;
        noted = λ numbering numbers rest kept. put_told (IsNoted numbering v.notes.items.items) (site_of w)
            (use_of used) count first (replaced span (span_cells w span) bytes) (standing w rest)
            (told numbering numbers kept);
      }

-- as many bytes as a span has
range_long : (ys : Store) (a k : ℕ) → FitsIn (length ys) a k → length (slice_range ys a (a + k)) ≡ k
range_long ys a zero h = ap length (range_none a ys)
range_long ys a (suc k) h =
    let last = h k (omega arith) in
    let room : a + suc k ≤ length ys = omega arith in range_length a (suc k) ys room

-- bytes that were copied from another span of the same size
module _ (w b v : Words) (from to : Span) (inside : HasWords (length w.items.items) from) (sized : from.size ≡ to.size)
    (left : bytes_in b.items.items ≡ bytes_in w.items.items)
    (written : IsWritten b (place to.start)
    (slice_range (bytes_in b.items.items) (place from.start) (place from.start + to.size)) v) where
  source_is : slice_range (bytes_in b.items.items) (place from.start) (place from.start + to.size)
      ≡ part_of from (span_cells w from)
  source_is =
      ap (λ (l : Store). slice_range l (place from.start) (place from.start + to.size)) left
      ∙ ap (λ (n : ℕ). slice_range (bytes_in w.items.items) (place from.start) (place from.start + n)) (sym sized)
      ∙ sym (part_is w.items.items from inside)

  pub source_written : IsWritten b (place to.start) (part_of from (span_cells w from)) v
  source_written = subst (λ (l : Store). IsWritten b (place to.start) l v) source_is written

  pub source_sized : length (part_of from (span_cells w from)) ≡ to.size
  source_sized =
      let all : 4 * length w.items.items ≡ length (bytes_in w.items.items) = sym (bytes_length w.items.items) in
      ap length (part_is w.items.items from inside)
      ∙ range_long (bytes_in w.items.items) (place from.start) from.size
      (subst (λ (n : ℕ). FitsIn n (place from.start) from.size) all
      (fits_in (length w.items.items) from inside)) ∙ sized
