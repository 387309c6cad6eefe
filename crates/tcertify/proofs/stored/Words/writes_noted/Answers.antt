use Rattle.std.proofs.Common.{refl, sym}
use Rattle.tprocesses.specs.Values.{Free}
use Rattle.tcertify.specs.Cells.{cells_of}
use Rattle.tcertify.proofs.Places.{puts_noted}
use Rattle.tcertify.proofs.Setting.{fixed, sets}
use Rattle.tcertify.proofs.stored.Words.writes_noted.Goals as goal

pub returns-clause-done : goal.returns-clause-done
returns-clause-done c = λ yes.
    let w = c.args.self.now in let k = c.in-Ok.number in
    sets w w c.set.new.self c.args.address k Free (fixed (cells_of c.args.cells)) (cells_of c.in-Some._cells)
    (cells_of c.args.cells) refl (sym c.in-Ok.ensures.checks) c.in-Some.ensures.change refl
    (puts_noted w w c.set.new.self k c.args.cells _ c.in-Ok.ensures.inside c.in-Some.ensures.noted c.set.ensures)
