use Rattle.tagents.proofs.WalkAccessed.{checked_runs_are_certificates}
use Rattle.tagents.proofs.laws.checked_runs_are_certificates.Goals as goal

pub returns : goal.returns
returns g c =
    checked_runs_are_certificates g.row.Agent.Denot g.row.Place.Denot g.row.Value.Denot g.row.Change.Denot
    g.row.Kind.Denot g.row.Deed.Denot
