use Rattle.std.proofs.lemmas.Result.{err_from_is_err_and}
use Rattle.tproc.proofs.Touching.{beside_ok, beside_err, span_break-saving}
use Rattle.tproc.proofs.claimed_memory.ClaimedMemory.may_read_beside.Goals as goal

pub returns-in_err-may_read : goal.returns-in_err-may_read
returns-in_err-may_read c =
    let p = err_from_is_err_and c.from_residual.result c.from_residual.ensures.1 in
    rw (p.1, p.2) (beside_err _ _ _ _ (span_break-saving _ _ _ _ _) c.in_err-may_read.ensures)

pub returns : goal.returns
returns c = beside_ok _ _ _ _ _ (span_break-saving _ _ _ _ _) c.in_ok-may_read.ensures c.keep_clear.ensures
