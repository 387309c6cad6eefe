use Rattle.std.proofs.lemmas.Result.{err_from_is_err_and}
use Rattle.tcertify.specs.Words.{reason_of}
use Rattle.tcertify.proofs.Unsaving.{unsaves_all, unsaves_lowest_not}
use Rattle.tcertify.proofs.stored.Words.unsave.Goals as goal

pub returns-in_err-unsave_word-clause-change : goal.returns-in_err-unsave_word-clause-change
returns-in_err-unsave_word-clause-change c =
    let p = err_from_is_err_and c.from_residual.result c.from_residual.ensures.1 in
    rw (p.1, p.2)
    (unsaves_lowest_not c.args.self.now _ c.args.workspace (reason_of c.in_err-unsave_word.field-0.0)
    (rw c.below.ensures at c.in_err-unsave_word.ensures.change))

pub returns-clause-change : goal.returns-clause-change
returns-clause-change c =
    unsaves_all c.args.self.now _ c.args.workspace _ _ (rw c.below.ensures at c.in_ok-unsave_word.ensures.change)
    c.in_ok-unsave_word.ensures.site c.unsave_upper.ensures.change
