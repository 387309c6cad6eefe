use Rattle.std.proofs.Common.{flat_map}
use Rattle.tfiles.proofs.LeftText.{flat_map-next, flat_map-end}
use Rattle.tfiles.proofs.Told.{goes_on-start, goes_on-next, goes_on-end}
use Rattle.tfindings.specs.Cells.{known_text}
use Rattle.tfindings.proofs.ends.put_bytes.Goals as goal

pub loop-cell-init : goal.loop-cell-init
loop-cell-init g c = goes_on-start _ (flat_map known_text c.args.cells.now)

pub loop-cell-preserved : goal.loop-cell-preserved
loop-cell-preserved g c =
    goes_on-next _ _ c.loop-cell.invariant
    (flat_map-next known_text c.args.cells.now c.loop-cell.cell-index _ c.loop-cell-test.true) c.put_known.ensures

pub returns : goal.returns
returns g c =
    goes_on-end c.loop-cell.invariant
    (flat_map-end known_text c.args.cells.now c.loop-cell.cell-index c.loop-cell-test.false)
