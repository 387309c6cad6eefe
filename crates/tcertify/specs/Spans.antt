-- Spans of bytes in the words of a node.
-- Source: own choice.
use Rattle.std.specs.Prelude.{ℕ, zero, suc, ◌≡◌, ◌<◌, ◌≤◌, ◌+◌, ◌/◌, ◌⊎◌, List, [], ◌∷◌, ◌++◌, Option, Some, None}
use Rattle.std.specs.Prelude.{length}
use Rattle.std.specs.Prelude.{slice_get, option_map, ℤ, pos, ◌+ℤ◌}
use Rattle.tword.specs.declared.span.Span.{Span}
use Rattle.tword.specs.Stores.{Store}
use Rattle.tprocesses.specs.Values.{Word, unknown}
use Rattle.tprocesses.specs.Touching.{word_count, word_number}
use Rattle.tcertify.specs.declared.notes.Mode.{Mode}
use Rattle.tcertify.specs.declared.stored.StoredWord.{StoredWord}
use Rattle.tcertify.specs.declared.stored.Words.{Words}
use Rattle.tcertify.specs.declared.word_use.WordUse.{WordUse}
use Rattle.tcertify.specs.Cells.{cells_of}
use Rattle.tcertify.specs.Notes.{Keeps, Tells}
use Rattle.tcertify.specs.Words.{word_of}

-- the bytes of a word, where there is one
abbrev pub cells_or : Option StoredWord → Store
cells_or (Some w) = cells_of w.cells
cells_or None = unknown

-- the bytes of words in a row
abbrev pub cells_from : List StoredWord → (first count : ℕ) → Store
cells_from words k zero = []
cells_from words k (suc count) = cells_or (slice_get words k) ++ cells_from words (suc k) count

-- the bytes of a span's words
abbrev pub span_cells : Words → Span → Store
span_cells w span = cells_from w.items.items (word_number span.start) (word_count span)

-- each word of the span is among as many words
abbrev pub HasWords : ℕ → Span → Type 0
HasWords n span = (k : ℕ) → k < word_count span → word_number span.start + k < n

-- each of `size` bytes from a place on is among n bytes
abbrev pub FitsIn : (n place size : ℕ) → Type 0
FitsIn n place size = (k : ℕ) → k < size → place + k < n

-- the bytes of all words
abbrev pub bytes_in : List StoredWord → Store
bytes_in [] = []
bytes_in (w ∷ ws) = cells_of w.cells ++ bytes_in ws

-- a list whose first items are replaced by others, as far as it goes
abbrev pub laid_over : {X : Type 0} → List X → List X → List X
laid_over [] ys = ys
laid_over (x ∷ xs) [] = []
laid_over (x ∷ xs) (y ∷ ys) = x ∷ laid_over xs ys

-- the same from a place on
abbrev pub splice : {X : Type 0} → ℕ → List X → List X → List X
splice zero xs ys = laid_over xs ys
splice (suc k) xs [] = []
splice (suc k) xs (y ∷ ys) = y ∷ splice k xs ys

-- what a word is in use for and how many pending outputs have a byte of it, where there is a word
abbrev pub use_or : Option StoredWord → Option WordUse
use_or (Some w) = Some w.used
use_or None = None

abbrev pub sent_or : Option StoredWord → Option ℕ
sent_or (Some w) = Some w.sending
sent_or None = None

-- the words are of the same node, and as many
pub record IsSameNode (old new : Words) : Type 0 where
  pub sized : length new.items.items ≡ length old.items.items
  pub number : new.number ≡ old.number
  pub kind : new.kind ≡ old.kind
  pub first : new.first_place ≡ old.first_place

-- the words are as they were, and those of the span are noted as touched so
pub record AreTouched (old : Words) (span : Span) (mode : Mode) (new : Words) : Type 0 where
  pub items : new.items.items ≡ old.items.items
  pub same : IsSameNode old new
  pub keeps : Keeps old.notes new.notes
  pub tells : (k : ℕ) → k < word_count span → Tells new.notes (new.first_place + (word_number span.start + k)) mode

-- none of `size` bytes from a place on lies in this word
abbrev pub Misses : (place size k : ℕ) → Type 0
Misses place size k = (p : ℕ) → place ≤ p → p < place + size → p / 4 ≡ k → ⊥

-- bytes were set from a place on, and nothing else
pub record IsWritten (old : Words) (place : ℕ) (bytes : Store) (new : Words) : Type 0 where
  pub left : bytes_in new.items.items ≡ splice place bytes (bytes_in old.items.items)
  pub elsewhere : (k : ℕ) → Misses place (length bytes) k
      → slice_get new.items.items k ≡ slice_get old.items.items k
  pub uses : (k : ℕ) → use_or (slice_get new.items.items k) ≡ use_or (slice_get old.items.items k)
  pub sending : (k : ℕ) → sent_or (slice_get new.items.items k) ≡ sent_or (slice_get old.items.items k)
  pub same : IsSameNode old new
  pub notes : new.notes ≡ old.notes

-- the words of a span have this use, and are noted as put; their bytes are as they were
pub record IsGiven (old : Words) (span : Span) (used : WordUse) (new : Words) : Type 0 where
  pub bytes : bytes_in new.items.items ≡ bytes_in old.items.items
  pub elsewhere : (k : ℕ) → (k < word_number span.start) ⊎ (word_number span.start + word_count span ≤ k)
      → slice_get new.items.items k ≡ slice_get old.items.items k
  pub uses : (k : ℕ) → k < word_count span
      → use_or (slice_get new.items.items (word_number span.start + k)) ≡ Some used
  pub sending : (k : ℕ) → sent_or (slice_get new.items.items k) ≡ sent_or (slice_get old.items.items k)
  pub same : IsSameNode old new
  pub notes : new.notes ≡ old.notes

-- as many pending outputs have a byte of a word of the span
pub record HasCount (w : Words) (span : Span) (count : ℕ) : Type 0 where
  pub k : ℕ
  pub among : k < word_count span
  pub is : sent_or (slice_get w.items.items (word_number span.start + k)) ≡ Some count

-- what a word is, except for its count of pending outputs
abbrev pub word_or_none : Option StoredWord → Option Word
word_or_none (Some w) = Some (word_of w)
word_or_none None = None

-- a number was added to the counts of the words of a span
pub record IsCounted (old : Words) (span : Span) (z : ℤ) (new : Words) : Type 0 where
  pub words : (k : ℕ) → word_or_none (slice_get new.items.items k) ≡ word_or_none (slice_get old.items.items k)
  pub elsewhere : (k : ℕ) → (k < word_number span.start) ⊎ (word_number span.start + word_count span ≤ k)
      → slice_get new.items.items k ≡ slice_get old.items.items k
  pub counted : (k : ℕ) → k < word_count span
      → option_map (λ n. pos n) (sent_or (slice_get new.items.items (word_number span.start + k)))
      ≡ option_map (λ n. pos n +ℤ z) (sent_or (slice_get old.items.items (word_number span.start + k)))
  pub same : IsSameNode old new
  pub notes : new.notes ≡ old.notes
