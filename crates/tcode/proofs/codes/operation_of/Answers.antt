use Rattle.std.proofs.Common.{rules, tests}
use Rattle.tcode.specs.Table.{operation_at}
use Rattle.tcode.proofs.codes.operation_of.Goals as goal

pub further_operation_of-requires : goal.further_operation_of-requires
unfolding operation_at
further_operation_of-requires c = search (tests, rules)
