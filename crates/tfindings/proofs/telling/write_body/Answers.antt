use Rattle.std.proofs.Common.{rules}
use Rattle.tfiles.proofs.Told.{written_out}
use Rattle.tfindings.proofs.telling.write_body.Goals as goal

pub returns : goal.returns
returns g c = written_out c.new-output.ensures c.put_body.ensures c.finish.ensures _ (search rules)
