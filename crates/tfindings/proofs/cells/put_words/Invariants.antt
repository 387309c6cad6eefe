use Rattle.tfiles.proofs.Told.{GoesOn}
use Rattle.tfindings.specs.Cells.{memory_text, words_of}
use Rattle.tfindings.proofs.MemoryLines.{lines_from}
use Rattle.tfindings.proofs.cells.put_words.Given as goal

-- what was told and what is left
abbrev pub invariant-loop-number : goal.invariant-loop-number
invariant-loop-number g l =
    GoesOn g.W.Write.contents g.W.CountedWrite.failures l.initial.out l.out (lines_from l.number l.words)
    (memory_text (words_of l.words))
