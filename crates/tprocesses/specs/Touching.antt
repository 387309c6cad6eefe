-- How a program touches the memory: where it may, and which words it may. The words that a span has a byte of are
-- touched one by one.
-- Source: the checks of `tword`; that a touch looks at whole words: own choice.
use Rattle.std.specs.Prelude.{ℕ, zero, suc, ◌+◌, ◌/◌, ◌%◌, ◌==◌, ℤ, pos, negsuc, Bool, true, false, [], ◌++◌, take}
use Rattle.std.specs.Prelude.{drop, length, slice_range, if◌then◌else◌}
use Rattle.tword.specs.declared.kind.Kind.{Kind}
use Rattle.tword.specs.declared.span.Span.{Span}
use Rattle.tword.specs.declared.breaks.Break.TheVariants.{InTransit, SavedWord}
use Rattle.tword.specs.Stores.{Store, place}
use Rattle.tword.specs.Words.{word_below}
use Rattle.tword.specs.Touches.{Mode, Reads, Writes, place_break, word_place_break}
use Rattle.tprocesses.specs.Places.{Place, WordAt, Sending}
use Rattle.tprocesses.specs.Values.{Use, Free, Saved, Receiving, Engaged, Choosing}
use Rattle.tprocesses.specs.Values.{Awaiting, Last, Spoilt, IsWord, word_in}
use Rattle.tprocesses.specs.Values.{amount_in, unknown}
use Rattle.tprocesses.specs.Changes.{Put, Add}
use Rattle.tprocesses.specs.Parts.{Breaks, WordInUse, Part, gives, stopping, Doing, done, see, change, require}
use Rattle.tprocesses.specs.Parts.{unless, ◌>>=◌, ◌>>◌}

-- a node: its number, how many bytes its memory has, and its kind
pub record Site : Type 0 where
  pub number : ℕ
  pub size : ℕ
  pub kind : Kind

-- the number of the word that an address lies in
abbrev pub word_number : ℕ → ℕ
word_number address = place address / 4

-- how many words a span has a byte of
abbrev pub word_count : Span → ℕ
word_count span = if span.size == 0 then 0 else (place span.start % 4 + span.size + 3) / 4

-- the place of the word at an address
abbrev pub word_place : Site → ℕ → Place
word_place s address = WordAt s.number (word_number address)

-- a whole number is 0
abbrev pub is_zero : ℤ → Bool
is_zero (pos n) = n == 0
is_zero (negsuc n) = false

-- what is seen of a word that programs may use: its bytes
abbrev pub free_cells : Use → Store → Part Store
free_cells Free cells = gives cells
free_cells Saved cells = stopping (Breaks SavedWord)
free_cells Receiving cells = stopping (Breaks InTransit)
free_cells _ cells = stopping WordInUse

-- two uses are the same
abbrev pub same_use : Use → Use → Bool
same_use Free Free = true
same_use Saved Saved = true
same_use Receiving Receiving = true
same_use Engaged Engaged = true
same_use Choosing Choosing = true
same_use Awaiting Awaiting = true
same_use (Last p) (Last q) = p == q
same_use Spoilt Spoilt = true
same_use _ _ = false

-- a word has this use: its bytes
abbrev pub word_for : Site → Use → ℕ → Part Store
word_for s used k = do
  seen ← see (WordAt s.number k)
  require (same_use (word_in seen).used used) WordInUse
  gives (word_in seen).cells

-- words in a row have this use: their bytes
abbrev pub words_for : Site → Use → (first count : ℕ) → Part Store
words_for s used k zero = gives []
words_for s used k (suc count) = do
  cells ← word_for s used k
  rest ← words_for s used (suc k) count
  gives (cells ++ rest)

-- no pending output has a byte of a word
abbrev pub unsent : Site → ℕ → Doing
unsent s k = do
  sending ← see (Sending s.number k)
  (if is_zero (amount_in sending) then done else stopping (Breaks InTransit))

-- what is to be looked at besides the word: a word that is written has no pending output
abbrev pub settled : Site → Mode → ℕ → Doing
settled s Reads k = done
settled s Writes k = unsent s k

-- a word is touched: its bytes
abbrev pub touch_word : Site → Mode → ℕ → Part Store
touch_word s mode k = do
  seen ← see (WordAt s.number k)
  cells ← free_cells (word_in seen).used (word_in seen).cells
  settled s mode k
  gives cells

-- words in a row are touched: their bytes
abbrev pub touch_words : Site → Mode → (first count : ℕ) → Part Store
touch_words s mode k zero = gives []
touch_words s mode k (suc count) = do
  cells ← touch_word s mode k
  rest ← touch_words s mode (suc k) count
  gives (cells ++ rest)

-- the words of a span are touched: their bytes, where the span may lie there
abbrev pub touch : Site → Mode → Span → Part Store
touch s mode span = do
  unless (place_break s.size span)
  touch_words s mode (word_number span.start) (word_count span)

-- the bytes of a span among those of its words
abbrev pub part_of : Span → Store → Store
part_of span words = slice_range words (place span.start % 4) (place span.start % 4 + span.size)

-- the bytes of a span's words with those of the span replaced
abbrev pub replaced : Span → Store → Store → Store
replaced span words new =
    take (place span.start % 4) words ++ new ++ drop (place span.start % 4 + length new) words

-- words in a row are set to these bytes, for this use
abbrev pub put_words : Site → Use → (first count : ℕ) → Store → Doing
put_words s used k zero words = done
put_words s used k (suc count) words = do
  change (WordAt s.number k) (Put (IsWord (record { cells = take 4 words; used = used })))
  put_words s used (suc k) count (drop 4 words)

-- the words of a span are set to these bytes, for this use
abbrev pub put : Site → Use → Span → Store → Doing
put s used span words = put_words s used (word_number span.start) (word_count span) words

-- the bytes of a span are set
abbrev pub write : Site → Span → Store → Doing
write s span new = do
  words ← touch s Writes span
  put s Free span (replaced span words new)

-- a number is added to the outputs of each of some words in a row
abbrev pub count_words : Site → ℤ → (first count : ℕ) → Doing
count_words s z k zero = done
count_words s z k (suc count) = do
  change (Sending s.number k) (Add z)
  count_words s z (suc k) count

-- a number is added to the outputs of each word of a span
abbrev pub count_outputs : Site → ℤ → Span → Doing
count_outputs s z span = count_words s z (word_number span.start) (word_count span)

-- the word at an address is touched: its bytes
abbrev pub touch_word_at : Site → Mode → ℕ → Part Store
touch_word_at s mode address = do
  unless (word_place_break s.size address)
  touch_word s mode (word_number address)

-- the word at an address is set
abbrev pub write_word_at : Site → ℕ → Store → Doing
write_word_at s address new = do
  _ ← touch_word_at s Writes address
  change (word_place s address) (Put (IsWord (record { cells = new; used = Free })))

-- the word at an address is set, and is a saved word from here on
abbrev pub save_word : Site → ℕ → (Store → Store) → Doing
save_word s address new = do
  cells ← touch_word_at s Writes address
  change (word_place s address) (Put (IsWord (record { cells = new cells; used = Saved })))

-- bytes that the scheduler may have changed
abbrev pub forgotten : Store → Store
forgotten cells = unknown

-- bytes that stay
abbrev pub kept : Store → Store
kept cells = cells

-- the upper two words below a workspace become saved words, which the scheduler may change
abbrev pub save_upper : Site → ℕ → Doing
save_upper s w = do
  save_word s (word_below w 2) forgotten
  save_word s (word_below w 1) forgotten

-- the three words below a workspace become saved words; lowest: what is known of the third one
abbrev pub save : Site → ℕ → (Store → Store) → Doing
save s w lowest = do
  save_word s (word_below w 3) lowest
  save_upper s w
