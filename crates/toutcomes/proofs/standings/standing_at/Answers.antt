use Rattle.std.proofs.Common.{sym, subst}
use Rattle.toutcomes.specs.Logged.{LogsOutcome}
use Rattle.toutcomes.proofs.StandingLists.{stands_at}
use Rattle.toutcomes.proofs.standings.standing_at.Goals as goal

pub returns-in-Some : goal.returns-in-Some
returns-in-Some c =
    let net = c.args.logged.now.net in
    let outcomes = c.args.logged.now.explored.outcomes in
    let found : LogsOutcome net outcomes c.args.number c.in-Some.events.items =
    rw c.in-Some.is at c.log_of_outcome.ensures in
    let log : LogsOutcome net outcomes c.args.number c.as_slice.result.now =
    subst (LogsOutcome net outcomes c.args.number) (sym c.as_slice.ensures.value) found in
    stands_at net outcomes c.args.number c.as_slice.result.now log c.standing_after.result c.standing_after.ensures
