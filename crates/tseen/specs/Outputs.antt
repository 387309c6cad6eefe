-- The outputs of links that are not over in the process machine: an output ends there only when its process goes on.
-- Source: own choice.
use Rattle.std.specs.Prelude.{ℕ, ◌+◌, Bool, true, false, ◌&&◌, nat_le, nat_lt, [], ◌∷◌, Option, Some, None}
use Rattle.std.specs.List.{count_by}
use Rattle.tword.specs.declared.span.Span.{Span}
use Rattle.tprocesses.specs.Values.{Request, Link, Empty, Offered}
use Rattle.tprocesses.specs.Touching.{word_number, word_count}

-- an output of a link, and whether its message has gone over
pub record Pending : Type 0 where
  pub request : Request
  pub copied : Bool

-- what stands at the half of a link that has the output
abbrev pub half_with : Option Pending → Link
half_with None = Empty
half_with (Some p) = half_of p.copied p.request
  where
    half_of : Bool → Request → Link
    half_of true q = Empty
    half_of false q = Offered q

-- its message has gone over
abbrev pub has_passed : Option Pending → Bool
has_passed None = false
has_passed (Some p) = p.copied

-- a span has a byte of a word
abbrev pub covers : ℕ → Span → Bool
covers k span = nat_le (word_number span.start) k && nat_lt k (word_number span.start + word_count span)

-- the buffer of an output has a byte of a word
abbrev pub is_sending : ℕ → Option Pending → Bool
is_sending k None = false
is_sending k (Some p) = covers k p.request.buffer

-- how many outputs of a node's four links have a byte of a word
abbrev pub sendings : (ℕ → Option Pending) → ℕ → ℕ
sendings sent k = count_by (λ l. is_sending k (sent l)) (0 ∷ 1 ∷ 2 ∷ 3 ∷ [])
