use Rattle.tagents.proofs.WalkAccessed.{walkers_clash_by_accesses}
use Rattle.tagents.proofs.laws.walkers_clash_by_accesses.Goals as goal

pub returns : goal.returns
returns g c =
    walkers_clash_by_accesses g.row.Agent.Denot g.row.Place.Denot g.row.Value.Denot g.row.Change.Denot g.row.Kind.Denot
    g.row.Deed.Denot
