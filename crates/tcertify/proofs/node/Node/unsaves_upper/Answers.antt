use Rattle.std.proofs.Common.{rules}
use Rattle.std.proofs.lemmas.Result.{err_from_is_err_and}
use Rattle.tcertify.proofs.NodeWords.{on_words}
use Rattle.tcertify.proofs.node.Node.unsaves_upper.Goals as goal

pub returns-in_err-unsave_upper : goal.returns-in_err-unsave_upper
returns-in_err-unsave_upper c =
    let p = err_from_is_err_and c.from_residual.result c.from_residual.ensures.1 in
    rw (p.1, p.2)
    (on_words _ _ _ _ (search rules) c.in_err-unsave_upper.ensures.site c.in_err-unsave_upper.ensures.change)

pub returns : goal.returns
returns c = on_words _ _ _ _ (search rules) c.in_ok-unsave_upper.ensures.site c.in_ok-unsave_upper.ensures.change
