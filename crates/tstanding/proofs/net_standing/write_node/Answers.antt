use Rattle.std.proofs.Common.{rules}
use Rattle.tfiles.proofs.Told.{written_out}
use Rattle.tstanding.proofs.net_standing.write_node.Goals as goal

pub returns : goal.returns
returns g c = written_out c.new-output.ensures c.put_node_where.ensures c.finish.ensures _ (search rules)
