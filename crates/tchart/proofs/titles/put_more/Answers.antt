use Rattle.std.proofs.Common.{◌≡◌, false}
use Rattle.std.specs.Prelude.{nat_lt}
use Rattle.std.proofs.lemmas.Bool.{le-ltb}
use Rattle.tfiles.proofs.Told.{tells_none}
use Rattle.tchart.proofs.titles.put_more.Goals as goal

pub returns-else-length-gt8 : goal.returns-else-length-gt8
returns-else-length-gt8 g c =
    let few : nat_lt 8 c.args.length ≡ false = le-ltb 8 c.args.length c.if-length-gt8.false in
    rw few (tells_none c.args.out.now)
