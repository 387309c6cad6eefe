use Rattle.std.proofs.Common.{◌≡◌, drop, suc}
use Rattle.tcheck.specs.Lines.{first_with}
use Rattle.tcheck.proofs.lines.first_with.Given as goal

-- the beginnings from this one on decide
abbrev pub invariant-loop-number : goal.invariant-loop-number
invariant-loop-number l =
    first_with l.sentence 1 l.texts ≡ first_with l.sentence (suc l.number) (drop l.number l.texts)
