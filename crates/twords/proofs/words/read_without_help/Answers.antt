use Rattle.std.proofs.Common.{Bor, map}
use Rattle.clap.specs.Words.{Text, fault_of}
use Rattle.twords.specs.CommandLines.{command_without_help, program, unread}
use Rattle.twords.proofs.Refusals.{by_parser}
use Rattle.twords.proofs.words.read_without_help.Goals as goal

pub returns-in-Err-clause-refused : goal.returns-in-Err-clause-refused
returns-in-Err-clause-refused c =
    by_parser (fault_of program (map (λ (w : Bor Text). w.now) c.args.words.now))
    (unread (command_without_help (map (λ (w : Bor Text). w.now) c.args.words.now))) c.in-Err.fault
    c.in-Err.ensures.refused
