use Rattle.std.proofs.Common.{◌≡◌, true, false}
use Rattle.std.specs.Prelude.{nat_lt}
use Rattle.std.proofs.lemmas.Bool.{le-ltb, lt-ltb}
use Rattle.tfiles.proofs.Told.{tells_none, tells_then}
use Rattle.tchart.proofs.drawing.put_rest.Goals as goal

pub returns-then-rows-gt-MOST_ROWS : goal.returns-then-rows-gt-MOST_ROWS
returns-then-rows-gt-MOST_ROWS g c =
    let more : nat_lt 2000 c.args.rows ≡ true = lt-ltb 2000 c.args.rows c.if-rows-gt-MOST_ROWS.true in
    rw more (tells_then c.put_text.ensures (tells_then c.put.ensures c.put-then-rows-gt-MOST_ROWS.ensures))

pub returns-else-rows-gt-MOST_ROWS : goal.returns-else-rows-gt-MOST_ROWS
returns-else-rows-gt-MOST_ROWS g c =
    let few : nat_lt 2000 c.args.rows ≡ false = le-ltb 2000 c.args.rows c.if-rows-gt-MOST_ROWS.false in
    rw few (tells_none c.args.out.now)
