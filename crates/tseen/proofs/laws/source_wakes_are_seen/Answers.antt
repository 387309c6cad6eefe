use Rattle.tseen.proofs.SourceWakes.{source_wakes_are_seen}
use Rattle.tseen.proofs.laws.source_wakes_are_seen.Goals as goal

pub returns : goal.returns
returns c = source_wakes_are_seen
