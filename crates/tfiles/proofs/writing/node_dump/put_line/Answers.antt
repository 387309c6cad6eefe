use Rattle.std.proofs.Common.{sym, ap, ◌∙◌}
use Rattle.tword.specs.Stores.{Store}
use Rattle.tfiles.specs.Texts.{dump_line}
use Rattle.tfiles.proofs.DumpLines.{shown_same, zeros_left_out}
use Rattle.tfiles.proofs.Told.{tells_as, tells_none}
use Rattle.tfiles.proofs.writing.node_dump.put_line.Goals as goal

pub returns-then-sum_of-ne0 : goal.returns-then-sum_of-ne0
returns-then-sum_of-ne0 g c =
    tells_as c.put_cells-then-sum_of-ne0.ensures
    (ap (λ (cells : Store). dump_line c.args.address cells)
    (shown_same c.args.pending.now c.args.address c.args.bytes.now (sym c.if-has_pending.ensures)))

pub returns-else-sum_of-ne0 : goal.returns-else-sum_of-ne0
returns-else-sum_of-ne0 g c =
    tells_as (tells_none c.args.out.now)
    (zeros_left_out c.args.pending.now c.args.address c.args.bytes.now (sym c.sum_of.ensures ∙ c.if-sum_of-ne0.false)
    (sym c.if-has_pending.ensures))
