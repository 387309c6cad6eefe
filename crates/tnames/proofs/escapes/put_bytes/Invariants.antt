use Rattle.std.proofs.Common.{drop, flat_map}
use Rattle.tnames.specs.Escapes.{escaped_byte}
use Rattle.tfiles.proofs.Told.{GoesOn}
use Rattle.tnames.proofs.escapes.put_bytes.Given as goal

-- what was told and what is left
abbrev pub invariant-loop-byte : goal.invariant-loop-byte
invariant-loop-byte g l =
    GoesOn g.W.Write.contents g.W.CountedWrite.failures l.initial.out l.out
    (flat_map escaped_byte (drop l.byte-index l.bytes))
    (flat_map escaped_byte l.bytes)
