use Rattle.std.proofs.Common.{◌≡◌, false}
use Rattle.std.specs.Prelude.{◌==◌}
use Rattle.std.proofs.lemmas.Bool.{ne_eqb}
use Rattle.tfiles.proofs.Told.{tells_then}
use Rattle.tchart.proofs.titles.put_steps.Goals as goal

pub returns-else-count-eq1 : goal.returns-else-count-eq1
returns-else-count-eq1 g c =
    let several : (c.args.count == 1) ≡ false = ne_eqb c.args.count 1 c.if-count-eq1.false in
    rw several (tells_then c.put_decimal.ensures c.put-else-count-eq1.ensures)
