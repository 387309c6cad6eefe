use Rattle.std.proofs.Common.{drop}
use Rattle.tfiles.proofs.Told.{GoesOn}
use Rattle.tcheck.specs.Sentences.{wrongs_text}
use Rattle.tcheck.proofs.sentences.put_wrongs.Given as goal

-- what was told and what is left
abbrev pub invariant-loop-wrong : goal.invariant-loop-wrong
invariant-loop-wrong g l =
    GoesOn g.W.Write.contents g.W.CountedWrite.failures l.initial.out l.out
    (wrongs_text l.nodes (drop l.wrong-index l.wrongs)) (wrongs_text l.nodes l.wrongs)
