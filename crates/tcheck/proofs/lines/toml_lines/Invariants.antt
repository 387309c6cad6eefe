use Rattle.std.proofs.Common.{◌≡◌, ◌≤◌, drop, max, suc}
use Rattle.tcheck.specs.Lines.{toml_lines}
use Rattle.tcheck.proofs.lines.toml_lines.Given as goal

-- the greatest so far, and those that are left
abbrev pub invariant-loop-number : goal.invariant-loop-number
invariant-loop-number l =
    (max l.most (toml_lines (suc l.number) (drop l.number l.texts)) ≡ toml_lines 1 l.texts) × (l.most ≤ l.number)
