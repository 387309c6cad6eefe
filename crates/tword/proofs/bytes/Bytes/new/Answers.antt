use Rattle.std.proofs.Common.{◌∙◌, List, ℕ, ap, rules}
use Rattle.tword.specs.Stores.{as_cells}
use Rattle.tword.proofs.AsCells.{as_cells-replicate}
use Rattle.tword.proofs.bytes.Bytes.new.Goals as goal

pub returns-clause-zeros : goal.returns-clause-zeros
returns-clause-zeros c =
    ap (λ (bs : List ℕ). as_cells bs) (c.in_ok-vec.ensures.items_if_clones_equal (λ y e. search rules))
    ∙ as_cells-replicate c.args.size 0
