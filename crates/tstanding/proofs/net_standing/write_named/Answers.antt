use Rattle.std.proofs.Common.{rules}
use Rattle.tfiles.proofs.Told.{tells_as, tells_then, written_out}
use Rattle.tstanding.proofs.net_standing.write_named.Goals as goal

pub returns-in-Ok : goal.returns-in-Ok
returns-in-Ok g c =
    written_out c.new-output.ensures
    (tells_then c.in_ok-put_nodes.ensures
    (tells_then c.put_stuck.ensures (tells_as c.put.ensures c.as_slice.ensures))) c.in-Ok.ensures _ (search rules)
