use Rattle.std.proofs.Common.{rules}
use Rattle.tfiles.proofs.Told.{written_out}
use Rattle.tendings.proofs.telling.write_dump.Goals as goal

pub returns : goal.returns
returns g c = written_out c.new-output.ensures c.put_dump.ensures c.finish.ensures _ (search rules)
