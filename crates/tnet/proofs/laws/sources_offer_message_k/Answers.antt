use Rattle.tnet.proofs.SourceOffers.{sources_offer}
use Rattle.tnet.proofs.laws.sources_offer_message_k.Goals as goal

pub returns : goal.returns
returns c = sources_offer
