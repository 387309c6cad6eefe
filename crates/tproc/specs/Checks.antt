-- What the checks of the code answer.
-- Source: own choice, words for contracts.
use Rattle.std.specs.Prelude.{◌≡◌, ℕ, length, Option, Result}
use Rattle.tword.specs.declared.breaks.Break.{Break}
use Rattle.tword.specs.declared.breaks.Break.TheVariants.{Unaligned, WrongEnd}
use Rattle.tword.specs.Memories.{NodeMemory}
use Rattle.tword.specs.Claims.{Claims}
use Rattle.tword.specs.Touches.{Mode, is_aligned, first_break, span_break}
use Rattle.tword.specs.Actions.{or_break, unmet}
use Rattle.tproc.specs.LinkChannels.{is_right_end}
use Rattle.tproc.specs.declared.channels.Side.{Side}

-- a memory keeps its kind and the number of its bytes
pub record KeepsShape (old new : NodeMemory) : Type 0 where
  pub size : length new.bytes ≡ length old.bytes
  pub kind : new.kind ≡ old.kind

-- the check of a touch of some bytes: its break, if it has one
abbrev pub may_touch : (memory_size : ℕ) (claims : Claims) (mode : Mode) (start size : ℕ) → Result (Unit {0}) Break
may_touch memory_size claims mode start size =
    or_break (span_break memory_size claims mode (record { start = start; size = size })) tt

-- the break of a link channel that is not aligned, or the wrong end
abbrev pub end_break : Side → ℕ → Option Break
end_break side channel = first_break (unmet (is_aligned channel) Unaligned) (unmet (is_right_end side channel) WrongEnd)
