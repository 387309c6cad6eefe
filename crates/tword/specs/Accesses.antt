-- What the accesses of a memory answer, and what they leave.
-- Source: own choice; the sizes of a memory too.
use Rattle.std.specs.Prelude.{ℕ, ◌≡◌, ◌≤◌, ◌<◌, ◌+◌, ◌%◌, ◌^◌, ◌&&◌, ◌==◌, not, [], Option, Some, None, Result, Ok, Err}
use Rattle.std.specs.Prelude.{replicate, slice_set}
use Rattle.tword.specs.declared.breaks.Break.{Break}
use Rattle.tword.specs.declared.kind.Kind.{Kind}
use Rattle.tword.specs.declared.span.Span.{Span}
use Rattle.tword.specs.Limits.{largest_memory, smallest_memory}
use Rattle.tword.specs.Words.{mem_start, word_below}
use Rattle.tword.specs.Claims.{Claims, has_saved}

-- how many bytes a memory of a kind may have: what kind 1 may have kind 2 may have too
abbrev pub IsMemorySize : Kind → ℕ → Type 0
IsMemorySize kind size = (smallest_memory ≤ size) × (size ≤ largest_memory kind) × (size % 4 ≡ 0)

-- a change is made, or its break is named and nothing changes
abbrev pub Changing : {X : Type 0} → Option Break → X → X → Result (Unit {0}) Break → X → Type 0
Changing None old made result new = (result ≡ Ok tt) × (new ≡ made)
Changing (Some b) old made result new = (result ≡ Err b) × (new ≡ old)

-- no claims, with the four links on both sides
abbrev pub no_claims : Claims
no_claims = record { inputs = replicate 4 None; outputs = replicate 4 None; saved = [] }

-- claims where the input of a link has this buffer
abbrev pub with_input : ℕ → Span → Claims → Claims
with_input link span claims = record claims { inputs = slice_set claims.inputs link (Some span) }

-- claims where the output of a link has this buffer
abbrev pub with_output : ℕ → Span → Claims → Claims
with_output link span claims = record claims { outputs = slice_set claims.outputs link (Some span) }

-- claims where the input of a link has none
abbrev pub without_input : ℕ → Claims → Claims
without_input link claims = record claims { inputs = slice_set claims.inputs link None }

-- claims where the output of a link has none
abbrev pub without_output : ℕ → Claims → Claims
without_output link claims = record claims { outputs = slice_set claims.outputs link None }

-- a workspace whose saved words may be claimed: a multiple of 4, and these words lie between MemStart and the last
-- address
abbrev pub IsClaimableWorkspace : ℕ → Type 0
IsClaimableWorkspace w = (w % 4 ≡ 0) × (w < 2 ^ 32) × (mem_start ≤ word_below w 3) × (word_below w 3 + 12 ≤ 2 ^ 32)

-- the words of a workspace are free, and those of each other one as they were
abbrev pub Frees : ℕ → Claims → Claims → Type 0
Frees w old new = (v : ℕ) → has_saved new v ≡ (not (v == w) && has_saved old v)
