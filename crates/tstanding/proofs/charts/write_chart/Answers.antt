use Rattle.std.proofs.Common.{rules}
use Rattle.tfiles.proofs.Told.{cut_by_failure, whole_without_failure, written_out}
use Rattle.tstanding.proofs.charts.write_chart.Goals as goal

pub returns : goal.returns
returns g c =
    record {
      out = written_out c.new-output.ensures c.put_chart.ensures c.finish.ensures _ (search rules);
      cause = cut_by_failure c.new-output.ensures c.put_chart.ensures c.finish.ensures _ (search rules);
      stayed = whole_without_failure c.new-output.ensures c.put_chart.ensures c.finish.ensures _ (search rules);
    }
