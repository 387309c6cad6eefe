-- Parts of operations of the scheduler.
-- Source: own choice, parts of the operations of `tprocesses`.
use Rattle.std.specs.Prelude.{ℕ}
use Rattle.tword.specs.Touches.{Reads, word_place_break}
use Rattle.tword.specs.Words.{plus}
use Rattle.tprocesses.specs.Changes.{Decrement, known_word}
use Rattle.tprocesses.specs.Parts.{Part, Doing, change, unless, ◌>>=◌, ◌>>◌}
use Rattle.tprocesses.specs.Standing.{known}
use Rattle.tprocesses.specs.Touching.{Site, touch_word_at, unsent, word_number, word_place}

-- the address that the word at an address has, which has to be known
abbrev pub first_address : Site → ℕ → Part ℕ
first_address s address = do
  cells ← touch_word_at s Reads address
  known (known_word cells)

-- the count behind the word at a workspace falls as a process of this priority ends, without a look at it
abbrev pub counts_down : Site → (workspace priority : ℕ) → Doing
counts_down s workspace priority = do
  _ ← touch_word_at s Reads workspace
  unless (word_place_break s.size (plus workspace 4))
  unsent s (word_number (plus workspace 4))
  change (word_place s (plus workspace 4)) (Decrement priority)
