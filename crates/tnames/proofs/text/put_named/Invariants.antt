use Rattle.tfiles.specs.Outputs.{Tells}
use Rattle.tnames.proofs.NamedTexts.{named_first}
use Rattle.tnames.proofs.text.put_named.Given as goal

-- the bytes so far, with names
abbrev pub invariant-loop-place : goal.invariant-loop-place
invariant-loop-place g l =
    Tells g.W.Write.contents g.W.CountedWrite.failures l.initial.out l.out (named_first l.names l.text l.place)
