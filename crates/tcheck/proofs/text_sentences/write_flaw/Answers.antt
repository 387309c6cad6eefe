use Rattle.std.proofs.Common.{rules}
use Rattle.tfiles.proofs.Told.{written_out}
use Rattle.tcheck.proofs.text_sentences.write_flaw.Goals as goal

pub returns : goal.returns
returns g c = written_out c.new-output.ensures c.put_flaw.ensures c.finish.ensures _ (search rules)
