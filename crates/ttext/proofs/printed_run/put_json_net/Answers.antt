use Rattle.std.proofs.Common.{Bool, ap, sym}
use Rattle.tfiles.proofs.Told.{tells_as, tells_none}
use Rattle.ttext.specs.PrintedRuns.{json_net}
use Rattle.ttext.proofs.printed_run.put_json_net.Goals as goal

pub returns-else-with_nodes : goal.returns-else-with_nodes
returns-else-with_nodes g c =
    tells_as (tells_none c.args.out.now)
    (ap (λ (with_nodes : Bool). json_net with_nodes c.args.net.now) (sym c.if-with_nodes.false))
