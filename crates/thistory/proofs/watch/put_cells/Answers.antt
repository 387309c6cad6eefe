use Rattle.std.proofs.Common.{None}
use Rattle.tfiles.proofs.LeftText.{flat_map-next, flat_map-end}
use Rattle.tfiles.proofs.Told.{goes_on-start, goes_on-next, goes_on-end}
use Rattle.tfiles.specs.Texts.{cell_text}
use Rattle.thistory.specs.Watch.{cells_text}
use Rattle.thistory.proofs.watch.put_cells.Goals as goal

pub loop-cell-init : goal.loop-cell-init
loop-cell-init g c = goes_on-start c.args.out.now (cells_text c.args.cells.now)

pub loop-cell-preserved : goal.loop-cell-preserved
loop-cell-preserved g c =
    goes_on-next _ _ c.loop-cell.invariant
    (flat_map-next cell_text c.args.cells.now c.loop-cell.cell-index _ c.loop-cell-test.true) c.put_cell.ensures

pub returns : goal.returns
returns g c =
    goes_on-end c.loop-cell.invariant
    (flat_map-end cell_text c.args.cells.now c.loop-cell.cell-index c.loop-cell-test.false)
