use Rattle.std.proofs.Common.{[], subst}
use Rattle.std.proofs.lemmas.Result.{IfOk-weaker}
use Rattle.clap.specs.Words.{Shape}
use Rattle.twords.specs.CommandLines.{HasShape, shape}
use Rattle.twords.proofs.parsers.parser.Goals as goal

pub returns : goal.returns
returns c =
    IfOk-weaker c.with_arguments.result _ _
    (λ r h. subst (λ (s : Shape). HasShape s r) c.row-row.ensures
    (h (shape c.row-row.result.name.now []) c.bare.ensures))
    c.with_arguments.ensures
