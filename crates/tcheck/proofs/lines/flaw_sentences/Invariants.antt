use Rattle.std.proofs.Common.{◌≡◌, map, take}
use Rattle.tcheck.specs.TextSentences.{flaw_text}
use Rattle.tcheck.proofs.lines.flaw_sentences.Given as goal

-- the sentences of the flaws so far
abbrev pub invariant-loop-flaw : goal.invariant-loop-flaw
invariant-loop-flaw l = l.sentences.items ≡ map flaw_text (take l.flaw-index l.flaws)
