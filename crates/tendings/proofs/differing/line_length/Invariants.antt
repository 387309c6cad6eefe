use Rattle.std.proofs.Common.{◌≡◌, ◌+◌, drop}
use Rattle.tendings.specs.Differences.{line_length}
use Rattle.tendings.proofs.differing.line_length.Given as goal

-- the bytes of the line before this place were passed, and the others are left
abbrev pub invariant-loop-place : goal.invariant-loop-place
invariant-loop-place l = l.place + line_length (drop l.place l.text) ≡ line_length l.text
