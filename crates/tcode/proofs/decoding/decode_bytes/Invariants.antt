use Rattle.std.proofs.Common.{◌≡◌, ◌-◌, drop, pos}
use Rattle.tcode.specs.Decoding.{decode_bytes, fetch_in}
use Rattle.tcode.proofs.decoding.decode_bytes.Given as goal

-- what is left of the chain decides, from the word of its value so far
abbrev pub invariant-loop-had : goal.invariant-loop-had
invariant-loop-had l = decode_bytes l.kind l.bytes ≡ fetch_in l.kind (16 - l.had) l.had (drop l.had l.bytes)
    (pos l.value)
