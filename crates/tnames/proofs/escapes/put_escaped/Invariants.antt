use Rattle.std.proofs.Common.{drop, flat_map, length}
use Rattle.std.specs.Str.{chars}
use Rattle.tnames.specs.Escapes.{escaped_letter, escaped_text}
use Rattle.tfiles.proofs.Told.{GoesOn}
use Rattle.tnames.proofs.escapes.put_escaped.Given as goal

-- what was told and what is left
abbrev pub invariant-loop-letter : goal.invariant-loop-letter
invariant-loop-letter g l =
    GoesOn g.W.Write.contents g.W.CountedWrite.failures l.initial.out l.out
    (flat_map escaped_letter (drop (length l.yielded) (chars l.text)))
    (escaped_text l.text)
