-- Stores that differ only within a span.
-- Source: own choice, what a write leaves.
use Rattle.std.specs.Prelude.{ℕ, ◌≡◌, false}
use Rattle.tword.specs.Stores.{Store, byte_at}
use Rattle.tword.specs.declared.span.Span.{Span}
use Rattle.tword.specs.Claims.{overlap}
use Rattle.tword.specs.Touches.{byte_span}

-- each byte outside the span is as it was
abbrev pub StandsOutside : Span → Store → Store → Type 0
StandsOutside span s s' = (a : ℕ) → overlap (byte_span a) span ≡ false → byte_at s' a ≡ byte_at s a
