use Rattle.tagents.proofs.Grouped.{numbers_of_steps_matter}
use Rattle.tagents.proofs.laws.numbers_of_steps_matter.Goals as goal

pub returns : goal.returns
returns g c = numbers_of_steps_matter g.row.State.Denot g.row.Agent.Denot g.row.Label.Denot
