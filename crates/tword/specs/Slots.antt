-- How many claims have each word of a memory.
-- Source: own choice, what the code keeps beside the claims.
use Rattle.std.specs.Prelude.{◌≡◌, ℕ, ◌+◌, ◌-◌, ◌/◌, ◌<◌, ◌≤◌, ◌==◌, List, Option, Some, None, length, slice_index}
use Rattle.std.specs.Prelude.{reverse, nat_lt, if◌then◌else◌}
use Rattle.std.specs.List.{sum_by, count_by}
use Rattle.tword.specs.declared.span.Span.{Span}
use Rattle.tword.specs.Claims.{saved_words}
use Rattle.tword.specs.Limits.{most_processes}
use Rattle.tword.specs.Words.{minus, most_neg}

-- the number of the lowest word of a memory, at #80000000: words are numbered from address 0 on, and as many lie from
-- there on as before
abbrev pub lowest_word : ℕ
lowest_word = 536870912

-- the number of the word at a slot of the table: slot 0 has the lowest one
abbrev pub word_at : ℕ → ℕ
word_at slot = lowest_word + slot

-- the slot of the word at an address: where that lies below #80000000, one that no table has
abbrev pub slot_of : ℕ → ℕ
slot_of address = minus address most_neg / 4

-- 1 where a number is among those from the first one up to that before behind, else 0
abbrev pub is_among : (first behind number : ℕ) → ℕ
is_among first behind number = if nat_lt number first then 0 else if nat_lt number behind then 1 else 0

-- the number of the word behind the last one that a span has a byte of; 0 where it has no byte
abbrev pub behind_words : Span → ℕ
behind_words span = if span.size == 0 then 0 else (span.start + span.size + 3) / 4

-- 1 where the span has a byte of the word of this number, else 0
abbrev pub has_word : ℕ → Span → ℕ
has_word word span = is_among (span.start / 4) (behind_words span) word

-- 1 where a claim has a byte of the word of this number, else 0
abbrev pub claims_word : ℕ → Option Span → ℕ
claims_word word None = 0
claims_word word (Some span) = has_word word span

-- 1 where a saved word of the workspace is the word of this number, else 0
abbrev pub saves_word : ℕ → ℕ → ℕ
saves_word word workspace = has_word word (saved_words workspace)

-- how many claims of links have a word
abbrev pub claims_in : ℕ → List (Option Span) → ℕ
claims_in word claims = sum_by (claims_word word) claims

-- how many workspaces have the word of this number as a saved word
abbrev pub saved_in : ℕ → List ℕ → ℕ
saved_in word workspaces = sum_by (saves_word word) workspaces

-- the table has the word of this number, with this count
pub record Counts (counts : List ℕ) (word count : ℕ) : Type 0 where
  pub above : lowest_word ≤ word
  pub below : word < word_at (length counts)
  pub is : slice_index counts (word - lowest_word) ≡ count

-- the table has the word of this number, and no claim has that word
abbrev pub IsEmpty : List ℕ → ℕ → Type 0
IsEmpty counts word = Counts counts word 0

-- the table has each word that a span has a byte of, and no claim has one of them
abbrev pub AreEmpty : List ℕ → Span → Type 0
AreEmpty counts span = (k : ℕ) → span.start / 4 ≤ k → k < (span.start + span.size + 3) / 4 → IsEmpty counts k

-- the table counts the claims of four inputs, of four outputs and of the workspaces of a node's processes
pub record IsTally (ins outs : List (Option Span)) (workspaces counts : List ℕ) : Type 0 where
  pub counted : (slot : ℕ) → slot < length counts → slice_index counts slot
      ≡ claims_in (word_at slot) ins + claims_in (word_at slot) outs + saved_in (word_at slot) workspaces
  pub inputs : length ins ≡ 4
  pub outputs : length outs ≡ 4
  pub saved : length workspaces ≤ most_processes

-- no count is the largest one
abbrev pub CountsHaveRoom : List ℕ → Type 0
CountsHaveRoom counts = (slot : ℕ) → slot < length counts → slice_index counts slot < 65535

-- the counts where one thing is claimed in the place of another
pub record IsExchanged (before claim : Option Span) (old new : List ℕ) : Type 0 where
  pub counted : (slot : ℕ) → slot < length old → slice_index new slot + claims_word (word_at slot) before
      ≡ slice_index old slot + claims_word (word_at slot) claim
  pub size : length new ≡ length old

-- the workspace is the one at this place, counted from the one that came first
abbrev pub IsPlaceIn : List ℕ → ℕ → ℕ → Type 0
IsPlaceIn saved i workspace = (i < length saved) × (slice_index (reverse saved) i ≡ workspace)

-- each workspace stands once
pub record AreOnce (workspaces : List ℕ) : Type 0 where
  pub once : (w : ℕ) → count_by (λ v. v == w) workspaces ≤ 1
  pub few : length workspaces ≤ most_processes
