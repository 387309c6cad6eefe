use Rattle.std.proofs.Common.{◌+◌, ◌*◌, refl}
use Rattle.tword.specs.Words.{most_neg}
use Rattle.tcertify.proofs.OpenedWords.{opened_so}
use Rattle.tcertify.proofs.opening.opened_word.Goals as goal

pub returns : goal.returns
returns c = (
  opened_so c.args.plan.now (most_neg + 4 * c.args.number) c.opened_cells-cells.result c.opened_use-used.result
      c.opened_cells-cells.ensures c.opened_use-used.ensures,
  refl,
)
