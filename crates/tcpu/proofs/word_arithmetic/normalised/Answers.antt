use Rattle.std.proofs.Common.{◌∙◌, arith}
use Rattle.tcpu.proofs.Normal.{checked_shift}
use Rattle.tcpu.proofs.word_arithmetic.normalised.Goals as goal

pub returns-clause-number : goal.returns-clause-number
returns-clause-number c = c.unwrap_or.ensures
    ∙ checked_shift c.args.value c.checked_shl.result (omega arith) c.checked_shl.ensures
