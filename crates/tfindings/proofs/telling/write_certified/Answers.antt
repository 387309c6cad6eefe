use Rattle.std.proofs.Common.{rules}
use Rattle.tfiles.proofs.Told.{cut_by_failure, whole_without_failure, written_out}
use Rattle.tfindings.proofs.telling.write_certified.Goals as goal

pub returns-clause-out : goal.returns-clause-out
returns-clause-out g c plan = written_out c.new-output.ensures c.put_last.ensures c.finish.ensures _ (search rules)

pub returns-clause-cause : goal.returns-clause-cause
returns-clause-cause g c = cut_by_failure c.new-output.ensures c.put_last.ensures c.finish.ensures _ (search rules)

pub returns-clause-stayed : goal.returns-clause-stayed
returns-clause-stayed g c =
    whole_without_failure c.new-output.ensures c.put_last.ensures c.finish.ensures _ (search rules)
