use Rattle.std.proofs.Common.{sym, ◌∙◌}
use Rattle.std.proofs.lemmas.Result.{err_from_is_err_and}
use Rattle.tcertify.specs.Cells.{cells_of}
use Rattle.tcertify.specs.Words.{reason_of}
use Rattle.tcertify.proofs.Scheduling.{address_hidden, address_not, address_seen}
use Rattle.tcertify.proofs.node.Node.first_address.Goals as goal

pub returns-in_err-cells : goal.returns-in_err-cells
returns-in_err-cells c =
    let p = err_from_is_err_and c.from_residual.result c.from_residual.ensures.1 in
    rw (p.1, p.2)
    (address_not c.args.self.now c.read_word.new.self c.args.address (reason_of c.in_err-cells.field-0.0)
    c.in_err-cells.ensures)

pub returns-then-not-are_known : goal.returns-then-not-are_known
returns-then-not-are_known c =
    address_hidden c.args.self.now c.read_word.new.self c.args.address (cells_of c.in_ok-cells.cells)
    c.in_ok-cells.ensures (sym c.are_known.ensures ∙ c.if-not-are_known.true)

pub returns : goal.returns
returns c =
    rw c.word.ensures
    (address_seen c.args.self.now c.read_word.new.self c.args.address (cells_of c.in_ok-cells.cells)
    c.in_ok-cells.ensures (sym c.are_known.ensures ∙ c.if-not-are_known.false))
