use Rattle.std.proofs.Common.{sym, arith}
use Rattle.std.proofs.lemmas.Fmt.{decimal_digit, decimal_step}
use Rattle.tfiles.proofs.Told.{tells_then, tells_as}
use Rattle.tfiles.proofs.writing.text.+put_decimal.Goals as goal

pub returns-then-number-lt10 : goal.returns-then-number-lt10
returns-then-number-lt10 g t c = tells_as c.put.ensures (sym (decimal_digit c.args.number c.if-number-lt10.true))

pub returns-else-number-lt10 : goal.returns-else-number-lt10
returns-else-number-lt10 g t c =
    tells_as (tells_then c.put_decimal.ensures c.put-else-number-lt10.ensures)
    (sym (decimal_step c.args.number (omega arith) (omega arith)))
