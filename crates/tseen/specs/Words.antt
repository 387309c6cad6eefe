-- The words of a node: their bytes, and that what a processor claims is marked in the process machine.
-- Source: own choice.
use Rattle.std.specs.Prelude.{Bool, true, false, ℕ, ◌≡◌, ◌+◌, ◌*◌, ◌<◌}
use Rattle.std.specs.Prelude.{◌≤◌, pos, All, [], ◌∷◌, Option, Some, slice_range}
use Rattle.tword.specs.Stores.{Store}
use Rattle.tword.specs.declared.span.Span.{Span}
use Rattle.tword.specs.Words.{word_below}
use Rattle.tproc.specs.declared.offer.Offer.{Offer}
use Rattle.tproc.specs.Machine.{Control, descheduled, buffer_of}
use Rattle.tproc.specs.LinkChannels.{link_end}
use Rattle.tprocesses.specs.Places.{Place, WordAt, Sending}
use Rattle.tprocesses.specs.Values.{Value, Word, Use, Saved, Awaiting, Receiving, IsWord, IsAmount, word_in, unknown}
use Rattle.tprocesses.specs.Machine.{awaits_successor}
use Rattle.tprocesses.specs.Touching.{word_number, word_count}
use Rattle.tseen.specs.Known.{KnowsCells}
use Rattle.tseen.specs.Outputs.{Pending, covers, sendings}

-- a word of the process machine tells of the word of the store
pub record ShowsWord (store : Store) (k : ℕ) (v : Value) : Type 0 where
  pub word : Word
  pub is : v ≡ IsWord word
  pub cells : KnowsCells word.cells (slice_range store (4 * k) (4 * k + 4))

-- a word of a process that does not run
abbrev pub is_set_aside : Use → Bool
is_set_aside Saved = true
is_set_aside Awaiting = true
is_set_aside _ = false

module _ (s : Place → Value) (n : ℕ) where
  -- what the word at an address is in use for
  abbrev pub use_at : ℕ → Use
  use_at address = (word_in (s (WordAt n (word_number address)))).used

  -- the cells of the word at an address
  abbrev pub cells_at : ℕ → Store
  cells_at address = (word_in (s (WordAt n (word_number address)))).cells

  -- each word of which a span has a byte is in use for this
  abbrev pub IsUsed : Use → Span → Type 0
  IsUsed used span =
      (i : ℕ) → i < word_count span → (word_in (s (WordAt n (word_number span.start + i)))).used ≡ used

  -- the three words below a workspace are saved words, the third one perhaps as the state of an alternative. The
  -- scheduler may change the other two: these are not known
  pub record AreSavedWords (w : ℕ) : Type 0 where
    pub used : All (λ k. use_at (word_below w k) ≡ Saved) (1 ∷ 2 ∷ [])
    pub third : is_set_aside (use_at (word_below w 3)) ≡ true
    pub unknown : All (λ k. cells_at (word_below w k) ≡ unknown) (1 ∷ 2 ∷ [])

  -- each claim of a processor is marked
  pub record AreMarked (sent : ℕ → Option Pending) (m : Control) : Type 0 where
    -- the saved words of the processes that are queued or wait
    pub saved : All AreSavedWords (descheduled m)
    -- the buffers of pending inputs
    pub inputs : (l : ℕ) (o : Offer) → (link_end m l).input ≡ Some o → IsUsed Receiving (buffer_of o)
    -- a word has bytes of only one of them
    pub inputs_apart : (j k l : ℕ) (o q : Offer) → (link_end m k).input ≡ Some o → (link_end m l).input ≡ Some q
        → covers j (buffer_of o) ≡ true → covers j (buffer_of q) ≡ true → k ≡ l
    -- the buffers of the outputs that are not over
    pub outputs : (k : ℕ) → s (Sending n k) ≡ IsAmount (pos (sendings sent k))
    -- no successor is due: one goes on in the step in which the last of the processes before it ends
    pub no_successor : (k : ℕ) → awaits_successor (word_in (s (WordAt n k))).used ≡ false

  -- each word of a memory is told of
  abbrev pub ShowsStore : Store → (size : ℕ) → Type 0
  ShowsStore store size = (k : ℕ) → 4 * k + 4 ≤ size → ShowsWord store k (s (WordAt n k))
