use Rattle.std.proofs.Common.{ap, rules, List}
use Rattle.tfiles.proofs.Told.{cut_by_failure, tells_as, tells_then, whole_without_failure, written_out}
use Rattle.tendings.specs.declared.telling.Telling.{Telling}
use Rattle.toutcomes.specs.Standings.{standings_from}
use Rattle.toutcomes.proofs.standings.write_standings.Goals as goal

pub returns : goal.returns
returns g c =
    let outcomes =
    tells_as c.put_standings.ensures
    (ap (λ (ts : List Telling). standings_from 1 ts c.args.standings.now) c.as_slice.ensures) in
    let told = tells_then outcomes (tells_then c.put_endless.ensures c.put_end.ensures) in
    record {
      out = written_out c.new-output.ensures told c.finish.ensures _ (search rules);
      cause = cut_by_failure c.new-output.ensures told c.finish.ensures _ (search rules);
      stayed = whole_without_failure c.new-output.ensures told c.finish.ensures _ (search rules);
    }
