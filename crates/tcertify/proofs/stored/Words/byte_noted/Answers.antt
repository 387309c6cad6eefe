use Rattle.std.proofs.Common.{ℕ, ◌%◌, sym, ap, ◌∙◌}
use Rattle.tword.specs.Touches.{Reads}
use Rattle.tcertify.specs.Cells.{cell_at}
use Rattle.tcertify.proofs.Bytes.{byte_seen}
use Rattle.tcertify.proofs.Places.{told_if}
use Rattle.tcertify.proofs.stored.Words.byte_noted.Goals as goal

pub returns : goal.returns
returns c =
    told_if c.byte.result
    (λ b e. byte_seen c.args.self.now Reads c.args.address _ c.in-Ok.number (sym c.in-Ok.ensures.checks)
    c.in_ok-cells.cells _ c.in-Ok.ensures.above c.in_ok-cells.ensures
    (sym e ∙ c.byte.ensures ∙ ap (λ (a : ℕ). cell_at c.in_ok-cells.cells (a % 4)) c.get.ensures))
