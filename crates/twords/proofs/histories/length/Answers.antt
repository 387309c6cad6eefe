use Rattle.std.proofs.Common.{arith, codes}
use Rattle.clap.specs.Words.{found_of, rows_of}
use Rattle.twords.proofs.WordReads.{number_in, wider}
use Rattle.twords.proofs.histories.length.Goals as goal

pub number-requires : goal.number-requires
number-requires c = wider 1 65536 (codes "length") (rows_of (found_of c.args.given.now)) (omega arith) c.requires

pub returns-clause-range : goal.returns-clause-range
returns-clause-range c =
    let rows = rows_of (found_of c.args.given.now) in
    let length = number_in 1 65536 (codes "length") rows (omega arith) c.requires in
    (omega arith, omega arith)
