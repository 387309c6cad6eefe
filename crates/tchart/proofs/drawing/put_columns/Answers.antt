use Rattle.std.specs.Prelude.{flat_map}
use Rattle.tfiles.proofs.LeftText.{flat_map-next, flat_map-end}
use Rattle.tfiles.proofs.Told.{goes_on-start, goes_on-next, goes_on-end}
use Rattle.tchart.specs.declared.layout.Kind.TheVariants.{Node}
use Rattle.tchart.specs.Drawing.{column_text}
use Rattle.tchart.proofs.drawing.put_columns.Goals as goal

pub loop-column-init : goal.loop-column-init
loop-column-init g c = goes_on-start c.args.out.now (flat_map (column_text c.args.rows) c.args.columns.now)

pub loop-column-preserved : goal.loop-column-preserved
loop-column-preserved g c =
    goes_on-next _ _ c.loop-column.invariant
    (flat_map-next (column_text c.args.rows) c.args.columns.now c.loop-column.column-index
    (record { kind = Node; number = 0 }) c.loop-column-test.true) c.put_column.ensures

pub returns : goal.returns
returns g c =
    goes_on-end c.loop-column.invariant
    (flat_map-end (column_text c.args.rows) c.args.columns.now c.loop-column.column-index c.loop-column-test.false)
