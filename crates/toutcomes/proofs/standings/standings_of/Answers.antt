use Rattle.std.proofs.Common.{◌≡◌, ◌∙◌, ◌+◌, ◌<◌, ◌≤◌, ap, arith, length, subst, sym}
use Rattle.std.specs.Prelude.{List, Option, ℕ, take}
use Rattle.std.specs.List.{AllZip}
use Rattle.toutcomes.specs.Standings.{AreStandings, IsStanding}
use Rattle.toutcomes.proofs.Explorations.{holds_if_ok, holds_if_err}
use Rattle.toutcomes.proofs.StandingLists.{are_standings, stands_next}
use Rattle.toutcomes.proofs.standings.standings_of.Goals as goal

pub loop-number-preserved : goal.loop-number-preserved
loop-number-preserved c =
    let net = c.args.logged.now.net in
    let outcomes = c.args.logged.now.explored.outcomes in
    let long : length c.as_slice-number-end.result.now ≡ length outcomes = ap length c.as_slice-number-end.ensures in
    let below : c.loop-number.number < length outcomes = omega (arith, long, c.loop-number-test.true) in
    subst (λ (all : List (Option (List ℕ))). AllZip (IsStanding net) (take (c.loop-number.number + 1) outcomes) all)
    (sym (holds_if_ok c.add.result c.add.ensures.added (sym c.is_err.ensures.value ∙ c.if-is_err.false)))
    (stands_next net outcomes c.loop-number.all.items c.loop-number.number c.standing_at-standing.result below
    c.loop-number.invariant c.standing_at-standing.ensures)

pub returns-then-is_err : goal.returns-then-is_err
returns-then-is_err c =
    let net = c.args.logged.now.net in
    let outcomes = c.args.logged.now.explored.outcomes in
    let long : length c.as_slice-number-end.result.now ≡ length outcomes = ap length c.as_slice-number-end.ensures in
    let few : c.loop-number.number ≤ length outcomes = omega (arith, long, c.loop-number-test.true) in
    subst (AreStandings net outcomes)
    (sym (holds_if_err c.add.result c.add.ensures.unchanged (sym c.is_err.ensures.value ∙ c.if-is_err.true)))
    (are_standings net outcomes c.loop-number.all.items c.loop-number.number few c.loop-number.invariant)

pub returns : goal.returns
returns c =
    let net = c.args.logged.now.net in
    let outcomes = c.args.logged.now.explored.outcomes in
    let long : length c.as_slice-number-end.result.now ≡ length outcomes = ap length c.as_slice-number-end.ensures in
    let few : c.loop-number.number ≤ length outcomes = omega (arith, long, c.loop-number.auto.number-end) in
    are_standings net outcomes c.loop-number.all.items c.loop-number.number few c.loop-number.invariant
