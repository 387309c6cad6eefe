use Rattle.std.proofs.Common.{drop}
use Rattle.hex.specs.Hex.{encode_lower}
use Rattle.tfiles.proofs.Told.{GoesOn}
use Rattle.tfiles.proofs.writing.text.put_hex.Given as goal

-- what was told and what is left
abbrev pub invariant-loop-byte : goal.invariant-loop-byte
invariant-loop-byte g l =
    GoesOn g.W.Write.contents g.W.CountedWrite.failures l.initial.out l.out
    (encode_lower (drop l.byte-index l.bytes)) (encode_lower l.bytes)
