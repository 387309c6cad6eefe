use Rattle.tagents.proofs.Grouped.{grouped_chains_are_chains}
use Rattle.tagents.proofs.laws.grouped_chains_are_chains.Goals as goal

pub returns : goal.returns
returns g c = grouped_chains_are_chains g.row.State.Denot g.row.Agent.Denot g.row.Label.Denot
