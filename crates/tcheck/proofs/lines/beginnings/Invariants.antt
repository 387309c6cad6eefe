use Rattle.std.proofs.Common.{◌≡◌, map, string_bytes}
use Rattle.std.specs.List.{range_with_len}
use Rattle.twiring.specs.Flaws.{text_flaws}
use Rattle.tcheck.specs.Lines.{first_lines, told}
use Rattle.tcheck.proofs.lines.beginnings.Given as goal

-- the lines up to here as a text, and all beginnings up to here
abbrev pub invariant-loop-line : goal.invariant-loop-line
invariant-loop-line l =
    (string_bytes l.text ≡ first_lines (map (λ s. s.now) l.lines) l.line-index)
    × (l.found.items
    ≡ map (λ n. told (text_flaws (first_lines (map (λ s. s.now) l.lines) n))) (range_with_len 1 l.line-index))
