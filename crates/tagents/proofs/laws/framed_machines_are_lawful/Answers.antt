use Rattle.tagents.proofs.Framed.{framed_machines_are_lawful}
use Rattle.tagents.proofs.laws.framed_machines_are_lawful.Goals as goal

pub returns : goal.returns
returns g c =
    framed_machines_are_lawful g.row.Place.Denot g.row.Value.Denot g.row.Agent.Denot g.row.Label.Denot
