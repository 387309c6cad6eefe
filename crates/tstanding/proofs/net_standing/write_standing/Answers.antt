use Rattle.std.proofs.Common.{rules}
use Rattle.tfiles.proofs.Told.{cut_by_failure, tells_then, whole_without_failure, written_out}
use Rattle.tstanding.proofs.net_standing.write_standing.Goals as goal

pub returns : goal.returns
returns g c =
    let told = tells_then c.put.ensures c.put_replay_end.ensures in
    record {
      out = written_out c.new-output.ensures told c.finish.ensures _ (search rules);
      cause = cut_by_failure c.new-output.ensures told c.finish.ensures _ (search rules);
      stayed = whole_without_failure c.new-output.ensures told c.finish.ensures _ (search rules);
    }
