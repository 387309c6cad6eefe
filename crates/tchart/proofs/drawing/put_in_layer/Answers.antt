use Rattle.std.proofs.Common.{◌≡◌, false}
use Rattle.std.specs.Prelude.{◌==◌}
use Rattle.std.proofs.lemmas.Bool.{ne_eqb}
use Rattle.tfiles.proofs.Told.{tells_none}
use Rattle.tchart.specs.Marks.{layer_of}
use Rattle.tchart.proofs.drawing.put_in_layer.Goals as goal

pub returns-else-layer : goal.returns-else-layer
returns-else-layer g c =
    let other : (layer_of c.args.mark.now == c.args.layer) ≡ false =
    rw c.layer.ensures at (ne_eqb c.layer.result c.args.layer c.if-layer.false) in
    rw other (tells_none c.args.out.now)
