use Rattle.std.proofs.Common.{drop, flat_map}
use Rattle.tfiles.proofs.Told.{GoesOn}
use Rattle.tfindings.proofs.MemoryLines.{word_text}
use Rattle.tfindings.proofs.cells.put_line.Given as goal

-- what was told and what is left
abbrev pub invariant-loop-word : goal.invariant-loop-word
invariant-loop-word g l =
    GoesOn g.W.Write.contents g.W.CountedWrite.failures l.initial.out l.out
    (flat_map word_text (drop l.word-index l.words)) (flat_map word_text l.words)
