use Rattle.tagents.proofs.Walked.{walkers_are_lawful}
use Rattle.tagents.proofs.laws.walkers_are_lawful.Goals as goal

pub returns : goal.returns
returns g c =
    walkers_are_lawful g.row.Agent.Denot g.row.Place.Denot g.row.Value.Denot g.row.Change.Denot g.row.Kind.Denot
    g.row.Deed.Denot
