-- Bounds of all that is claimed.
-- Source: own choice, what the code keeps beside the claims.
use Rattle.std.specs.Prelude.{ℕ, ◌+◌, ◌-◌, ◌^◌, ◌≤◌, ◌==◌, ◌&&◌, Bool, All, List, Option, Some, None, nat_lt}
use Rattle.std.specs.Prelude.{if◌then◌else◌}
use Rattle.tword.specs.declared.span.Span.{Span}

-- a claimed span lies between these addresses
abbrev pub IsWithin : ℕ → ℕ → Option Span → Type 0
IsWithin low high None = Unit {0}
IsWithin low high (Some s) = (low ≤ s.start) × (s.start + s.size ≤ high)

-- all claimed spans lie between these addresses
abbrev pub AreWithin : ℕ → ℕ → List (Option Span) → Type 0
AreWithin low high claims = All (IsWithin low high) claims

-- the address of the first byte that is claimed and that behind the last; where there is none, bounds that have room
-- for nothing
abbrev pub bounds_of : Option Span → ℕ × ℕ
bounds_of None = (2 ^ 64 - 1, 0)
bounds_of (Some s) = if s.size == 0 then (2 ^ 64 - 1, 0) else (s.start, s.start + s.size)

-- bounds have room for a byte from start up to that before end
abbrev pub meets : ℕ → ℕ → ℕ × ℕ → Bool
meets start end bounds = nat_lt start bounds.1 && nat_lt bounds.0 end
