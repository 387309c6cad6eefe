use Rattle.std.proofs.Common.{◌≡◌, false}
use Rattle.std.specs.Prelude.{◌==◌}
use Rattle.std.proofs.lemmas.Bool.{ne_eqb}
use Rattle.tfiles.proofs.Told.{tells_then}
use Rattle.tchart.proofs.titles.put_events.Goals as goal

pub returns-else-first-last : goal.returns-else-first-last
returns-else-first-last g c =
    let several : (c.args.first == c.args.last) ≡ false = ne_eqb c.args.first c.args.last c.if-first-last.false in
    rw several
    (tells_then c.put.ensures
    (tells_then c.put_decimal.ensures
    (tells_then c.put-else-first-last.ensures c.put_decimal-else-first-last.ensures)))
