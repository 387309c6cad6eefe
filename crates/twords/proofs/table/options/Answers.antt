use Rattle.std.proofs.Common.{arith, codes}
use Rattle.clap.specs.Words.{found_of, rows_of}
use Rattle.twords.proofs.WordReads.{number_in, wider}
use Rattle.twords.proofs.table.options.Goals as goal

pub number-requires-3 : goal.number-requires-3
number-requires-3 c =
    wider 1 65536 (codes "slice") (rows_of (found_of c.args.given.now)) (omega arith) c.requires.1.1.1.0

pub returns-clause-range : goal.returns-clause-range
returns-clause-range c =
    let rows = rows_of (found_of c.args.given.now) in
    let workers = number_in 1 64 (codes "workers") rows (omega arith) c.requires.1.0 in
    let limit = number_in 0 4294967295 c.args.limit.now rows (omega arith) c.requires.1.1.0 in
    let slice = number_in 1 65536 (codes "slice") rows (omega arith) c.requires.1.1.1.0 in
    record { workers = (omega arith, omega arith); rounds = omega arith; slice = (omega arith, omega arith) }
