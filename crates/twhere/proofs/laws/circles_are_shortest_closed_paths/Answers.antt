use Rattle.twhere.proofs.ClosedPaths.{circles_are_closed, circles_are_shortest, has_each_circle}
use Rattle.twhere.proofs.laws.circles_are_shortest_closed_paths.Goals as goal

pub returns-clause-each : goal.returns-clause-each
returns-clause-each c = has_each_circle

pub returns-clause-closed : goal.returns-clause-closed
returns-clause-closed c = circles_are_closed

pub returns-clause-shortest : goal.returns-clause-shortest
returns-clause-shortest c = circles_are_shortest
