use Rattle.std.proofs.lemmas.Result.{err_from_is_err_and}
use Rattle.tcertify.specs.Words.{reason_of}
use Rattle.tcertify.proofs.Setting.{saves_both, saves_none}
use Rattle.tcertify.proofs.stored.Words.save_upper.Goals as goal

pub returns-in_err-save_word-clause-change : goal.returns-in_err-save_word-clause-change
returns-in_err-save_word-clause-change c =
    let p = err_from_is_err_and c.from_residual.result c.from_residual.ensures.1 in
    rw (p.1, p.2)
    (saves_none c.args.self.now _ c.args.workspace (reason_of c.in_err-save_word.field-0.0)
    (rw c.below.ensures at c.in_err-save_word.ensures.change))

pub returns-clause-change : goal.returns-clause-change
returns-clause-change c =
    saves_both c.args.self.now _ c.args.workspace _ _ (rw c.below.ensures at c.in_ok-save_word.ensures.change)
    c.in_ok-save_word.ensures.site (rw c.below-2.ensures at c.save_word-2.ensures.change)
