use Rattle.tagents.proofs.Careful.{careful_walkers_keep_gates}
use Rattle.tagents.proofs.laws.careful_walkers_keep_gates.Goals as goal

pub returns : goal.returns
returns g c =
    careful_walkers_keep_gates g.row.Agent.Denot g.row.Place.Denot g.row.Value.Denot g.row.Change.Denot
    g.row.Kind.Denot g.row.Deed.Denot
