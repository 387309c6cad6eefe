use Rattle.tnet.proofs.NamedEvents.{events_name_places}
use Rattle.tnet.proofs.laws.events_name_places.Goals as goal

pub returns : goal.returns
returns c = events_name_places
