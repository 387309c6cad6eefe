use Rattle.toutcomes.proofs.SmallNets.{few_opened}
use Rattle.toutcomes.proofs.standings.explore_where.Goals as goal

pub standings_of-standings-requires : goal.standings_of-standings-requires
standings_of-standings-requires g c =
    few_opened c.args.wiring.now c.args.files c.in_ok-logged.logged.net c.in_ok-logged.ensures.net
