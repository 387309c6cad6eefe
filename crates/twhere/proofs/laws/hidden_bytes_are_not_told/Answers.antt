use Rattle.twhere.proofs.UnseenNets.{hidden_is_unseen, text_is_of_the_view}
use Rattle.twhere.proofs.laws.hidden_bytes_are_not_told.Goals as goal

pub returns-clause-unseen : goal.returns-clause-unseen
returns-clause-unseen c = hidden_is_unseen

pub returns-clause-view : goal.returns-clause-view
returns-clause-view c = text_is_of_the_view
