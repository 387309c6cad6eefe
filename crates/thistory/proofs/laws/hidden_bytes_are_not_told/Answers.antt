use Rattle.thistory.proofs.UnseenHistories.{halts_are_of_the_view, left_is_of_the_view, steps_are_of_the_view}
use Rattle.thistory.proofs.UnseenHistories.{watch_is_of_the_view}
use Rattle.thistory.proofs.laws.hidden_bytes_are_not_told.Goals as goal

pub returns-clause-steps : goal.returns-clause-steps
returns-clause-steps c = steps_are_of_the_view

pub returns-clause-watch : goal.returns-clause-watch
returns-clause-watch c = watch_is_of_the_view

pub returns-clause-halts : goal.returns-clause-halts
returns-clause-halts c = halts_are_of_the_view

pub returns-clause-left : goal.returns-clause-left
returns-clause-left c = left_is_of_the_view
