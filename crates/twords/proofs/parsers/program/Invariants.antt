use Rattle.std.proofs.Common.{◌≡◌, drop}
use Rattle.std.specs.List.{fold}
use Rattle.clap.specs.Words.{app_of, with_subcommand}
use Rattle.twords.specs.CommandLines.{program, shape_of}
use Rattle.twords.proofs.parsers.program.Given as goal

-- with the commands that are left it is the program
abbrev pub invariant-loop-which : goal.invariant-loop-which
invariant-loop-which l =
    fold (λ app which. with_subcommand app (shape_of which)) (app_of l.program) (drop l.which-index l.which-items)
    ≡ program
