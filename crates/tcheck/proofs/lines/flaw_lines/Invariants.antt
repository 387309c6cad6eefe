use Rattle.std.proofs.Common.{◌≡◌, map, take}
use Rattle.tcheck.specs.Lines.{known_beginnings, line_in}
use Rattle.tcheck.proofs.lines.flaw_lines.Given as goal

-- the lines of the flaws so far, by the beginnings of the text
abbrev pub invariant-loop-flaw : goal.invariant-loop-flaw
invariant-loop-flaw l =
    (l.texts ≡ known_beginnings l.text) × (l.found.items ≡ map (line_in l.texts) (take l.flaw-index l.flaws))
