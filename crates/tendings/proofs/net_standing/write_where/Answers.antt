use Rattle.std.proofs.Common.{rules}
use Rattle.tfiles.proofs.Told.{written_out}
use Rattle.tendings.proofs.net_standing.write_where.Goals as goal

pub returns : goal.returns
returns g c = written_out c.new-output.ensures c.put_where.ensures c.finish.ensures _ (search rules)
