use Rattle.std.proofs.Common.{rules}
use Rattle.tfiles.proofs.Told.{cut_by_failure, tells_then, whole_without_failure, written_out}
use Rattle.topening.proofs.fault_line.write_line.Goals as goal

pub returns : goal.returns
returns g c =
    let told = tells_then c.put.ensures (tells_then c.put_fault.ensures c.put-2.ensures) in
    record {
      line = written_out c.new-output.ensures told c.finish.ensures _ (search rules);
      cause = cut_by_failure c.new-output.ensures told c.finish.ensures _ (search rules);
      stayed = whole_without_failure c.new-output.ensures told c.finish.ensures _ (search rules);
    }
