-- Counts of the words that programs may use, as those ask them who touch many words in a row.
-- Source: own choice, what the code keeps beside the claims.
use Rattle.std.specs.Prelude.{ℕ, ◌≡◌, ◌<◌, ◌≤◌, ◌+◌, ◌*◌, ◌/◌, ◌==◌, ◌&&◌, Bool, List, None, length, nat_lt}
use Rattle.std.specs.Prelude.{slice_index}
use Rattle.tword.specs.Words.{mem_start, minus}
use Rattle.tword.specs.Claims.{Claims}
use Rattle.tword.specs.Touches.{Mode, claim_break}

-- the address of the word at this place, counted from the first word that programs may use on
abbrev pub open_word : ℕ → ℕ
open_word slot = mem_start + 4 * slot

-- the counts are of words of a memory of this size, from the first that programs may use on, and no claim stops a touch
-- of a word whose count is 0
pub record AreOpenCounts (counts : List ℕ) (size : ℕ) (claims : Claims) : Type 0 where
  pub within : open_word (length counts) ≤ 0x8000_0000 + size
  pub clear : (slot start bytes : ℕ) (mode : Mode) → slot < length counts → slice_index counts slot ≡ 0
      → open_word slot ≤ start → start + bytes ≤ open_word slot + 4
      → claim_break claims mode (record { start = start; size = bytes }) ≡ None

-- the word of this address is counted, and its count is 0
unfoldable pub is_clear : List ℕ → ℕ → Bool
is_clear counts address =
    nat_lt (minus address mem_start / 4) (length counts) && (slice_index counts (minus address mem_start / 4) == 0)
