-- Decoded code that is kept beside a memory.
-- Source: own choice, what the code keeps so that it need not decode again.
use Rattle.std.specs.Prelude.{ℕ, ◌≡◌, ◌≢◌, ◌<◌, ◌≤◌, ◌+◌, ◌/◌, ◌%◌, ◌^◌, List, Some, None, false, slice_get}
use Rattle.std.specs.Prelude.{slice_index}
use Rattle.std.specs.Prelude.{pos, negsuc, ◌-ℤ◌, ◌*ℤ◌, if◌then◌else◌, ◌==◌}
use Rattle.tword.specs.declared.span.Span.{Span}
use Rattle.tword.specs.Words.{mem_start, minus, plus, reduced}
use Rattle.tword.specs.Stores.{Store, byte_at}
use Rattle.tword.specs.Claims.{Claims, overlap}
use Rattle.tword.specs.Touches.{byte_span}
use Rattle.tcode.specs.Chains.{pfix}
use Rattle.tcode.specs.Decoding.{IsFetched}
use Rattle.tcode.specs.Table.{function_at}
use Rattle.tcode.specs.declared.code_table.CodeEntry.{CodeEntry}

-- how many entries a table has
abbrev pub entry_count : ℕ
entry_count = 256

-- the place of the word of an address among the words that programs may use
abbrev pub word_place : ℕ → ℕ
word_place address = minus address mem_start / 4

-- the word of an address is marked as one with bytes of kept code
abbrev pub IsMarked : List ℕ → ℕ → Type 0
IsMarked words address = slice_index words (word_place address) ≢ 0

-- something holds of the address of each byte that an entry has
pub record OfEachByte (P : ℕ → Type 0) (e : CodeEntry) : Type 0 where
  pub first : 0 < e.length → P e.address
  pub second : 1 < e.length → P (plus e.address 1)

-- the bytes of an entry are fetched from where they stood when it was decoded
pub record IsFetchedWhole (store : Store) (claims : Claims) (e : CodeEntry) : Type 0 where
  pub first : 0 < e.length → IsFetched store claims e.address e.first
  pub second : 1 < e.length → IsFetched store claims (plus e.address 1) e.second

-- the word of a chain's value behind its first byte, a prefix
abbrev pub prefix_word : ℕ → ℕ
prefix_word byte =
    reduced (if byte / 16 == pfix then pos 16 *ℤ pos (byte % 16) else pos 16 *ℤ (negsuc 0 -ℤ pos (byte % 16)))

-- the bytes of an entry are a prefix and one that ends the chain
pub record TellsItsChain (e : CodeEntry) : Type 0 where
  pub prefix : function_at (e.first / 16) ≡ None
  pub code : e.code ≡ e.second / 16
  pub operand : e.operand ≡ (prefix_word e.first + e.second % 16) % 2 ^ 32

-- an entry tells what its bytes decode to: none to no function, one to its code and data, two to those of a chain
pub record TellsItsBytes (e : CodeEntry) : Type 0 where
  pub length : e.length ≤ 2
  pub none : e.length ≡ 0 → function_at e.code ≡ None
  pub one : e.length ≡ 1 → (e.code ≡ e.first / 16) × (e.operand ≡ e.first % 16)
  pub two : e.length ≡ 2 → TellsItsChain e
  pub behind : e.behind ≡ plus e.address e.length

-- each entry tells what its bytes decode to, and their words are marked
abbrev pub AreCoded : List CodeEntry → List ℕ → Type 0
AreCoded entries words = (k : ℕ) (e : CodeEntry) → slice_get entries k ≡ Some e
    → TellsItsBytes e × OfEachByte (IsMarked words) e

-- each entry stands at the place of its address, and its bytes lie within the bounds
abbrev pub ArePlaced : (low last : ℕ) → List CodeEntry → Type 0
ArePlaced low last entries = (k : ℕ) (e : CodeEntry) → slice_get entries k ≡ Some e
    → (0 < e.length → e.address % entry_count ≡ k) × OfEachByte (λ a. (low ≤ a) × (a ≤ last)) e

-- the bytes of each entry are fetched
abbrev pub AreFetched : List CodeEntry → Store → Claims → Type 0
AreFetched entries store claims = (k : ℕ) (e : CodeEntry) → slice_get entries k ≡ Some e
    → IsFetchedWhole store claims e

-- entries that may be looked up for a memory
pub record Knows (entries : List CodeEntry) (words : List ℕ) (store : Store) (claims : Claims) : Type 0 where
  pub coded : AreCoded entries words
  pub fetched : AreFetched entries store claims

-- of the entries that there were those are left that have no byte of a span, and no others
abbrev pub AreForgotten : Span → (old new : List CodeEntry) → Type 0
AreForgotten span old new = (k : ℕ) (e : CodeEntry) → slice_get new k ≡ Some e → 0 < e.length
    → (slice_get old k ≡ Some e) × OfEachByte (λ a. overlap (byte_span a) span ≡ false) e

-- each byte of a marked word is as it was
abbrev pub StandsWhereMarked : List ℕ → Store → Store → Type 0
StandsWhereMarked words s s' = (a : ℕ) → IsMarked words a → byte_at s' a ≡ byte_at s a
