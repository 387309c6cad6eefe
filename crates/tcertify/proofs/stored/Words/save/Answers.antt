use Rattle.std.specs.Prelude.{if◌then◌else◌}
use Rattle.std.proofs.lemmas.Result.{err_from_is_err_and}
use Rattle.tprocesses.specs.Touching.{forgotten, kept}
use Rattle.tcertify.specs.Words.{reason_of}
use Rattle.tcertify.proofs.Setting.{saves, saves_not}
use Rattle.tcertify.proofs.stored.Words.save.Goals as goal

pub returns-in_err-save_word-clause-change : goal.returns-in_err-save_word-clause-change
returns-in_err-save_word-clause-change c =
    let p = err_from_is_err_and c.from_residual.result c.from_residual.ensures.1 in
    rw (p.1, p.2)
    (saves_not c.args.self.now _ c.args.workspace (if c.args.keeps then kept else forgotten)
    (reason_of c.in_err-save_word.field-0.0) (rw c.below.ensures at c.in_err-save_word.ensures.change))

pub returns-clause-change : goal.returns-clause-change
returns-clause-change c =
    saves c.args.self.now _ c.args.workspace (if c.args.keeps then kept else forgotten) _ _
    (rw c.below.ensures at c.in_ok-save_word.ensures.change) c.in_ok-save_word.ensures.site
    c.save_upper.ensures.change
