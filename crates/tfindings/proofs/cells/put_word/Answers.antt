use Rattle.std.proofs.Common.{ap, sym, ◌∙◌, append-nil}
use Rattle.tfiles.proofs.Told.{tells_then, tells_as}
use Rattle.tfindings.specs.Cells.{cell_text}
use Rattle.tfindings.proofs.cells.put_word.Goals as goal

pub returns : goal.returns
returns g c =
    tells_then (tells_as c.put_cell.ensures (ap cell_text c.byte.ensures))
    (tells_then (tells_as c.put_cell-2.ensures (ap cell_text c.byte-2.ensures))
    (tells_then (tells_as c.put_cell-3.ensures (ap cell_text c.byte-3.ensures))
    (tells_as c.put_cell-4.ensures (ap cell_text c.byte-4.ensures ∙ sym (append-nil _)))))
