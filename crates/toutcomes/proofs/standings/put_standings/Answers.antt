use Rattle.std.proofs.Common.{arith}
use Rattle.tfiles.proofs.Told.{goes_on-start, goes_on-next, goes_on-end}
use Rattle.toutcomes.specs.Standings.{standings_from}
use Rattle.toutcomes.proofs.StandingLists.{standings_next, standings_over}
use Rattle.toutcomes.proofs.standings.put_standings.Goals as goal

pub loop-place-init : goal.loop-place-init
loop-place-init g c = goes_on-start c.args.out.now (standings_from 1 c.args.outcomes.now c.args.standings.now)

pub loop-place-preserved : goal.loop-place-preserved
loop-place-preserved g c =
    goes_on-next _ _ c.loop-place.invariant
    (standings_next c.loop-place.place c.args.outcomes.now c.args.standings.now c.index-outcomes-place.result
    c.standing_in.result.now c.loop-place-test.true c.index-outcomes-place.is c.standing_in.ensures)
    c.put_standing.ensures

pub returns : goal.returns
returns g c =
    goes_on-end c.loop-place.invariant
    (standings_over c.loop-place.place c.args.outcomes.now c.args.standings.now
    (omega (arith, c.loop-place-test.false)))
