use Rattle.std.proofs.Common.{drop}
use Rattle.clap.specs.Words.{Shape}
use Rattle.twords.specs.CommandLines.{HasShape, with_rows}
use Rattle.twords.proofs.WordParsers.{Lacks}
use Rattle.twords.proofs.parsers.with_arguments.Given as goal

-- the arguments that are left are all that the parser lacks
abbrev pub invariant-loop-argument : goal.invariant-loop-argument
invariant-loop-argument l = (s : Shape) → HasShape s l.initial.parser
    → Lacks (with_rows s l.arguments) (drop l.argument-index l.arguments) l.parser
