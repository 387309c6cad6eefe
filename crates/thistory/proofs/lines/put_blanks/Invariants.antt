use Rattle.std.specs.Prelude.{replicate}
use Rattle.tfiles.specs.Outputs.{Tells}
use Rattle.thistory.proofs.lines.put_blanks.Given as goal

-- the blanks so far
abbrev pub invariant-loop-blank : goal.invariant-loop-blank
invariant-loop-blank g l =
    Tells g.W.Write.contents g.W.CountedWrite.failures l.initial.out l.out (replicate l._blank 32)
