use Rattle.std.proofs.Common.{rules}
use Rattle.std.proofs.lemmas.Bool.{eqb-true, eqb-false}
use Rattle.twhere.proofs.NodeBits.{some_set, zero_none}
use Rattle.twhere.proofs.node_set.NodeSet.is_empty.Goals as goal

pub returns-clause-none : goal.returns-clause-none
returns-clause-none c = λ h. zero_none c.args.self.nodes (eqb-true _ _ h)

pub returns-clause-one : goal.returns-clause-one
returns-clause-one c = λ h. some_set c.args.self.nodes (search rules) (eqb-false _ _ h)
