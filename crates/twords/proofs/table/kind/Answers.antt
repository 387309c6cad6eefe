use Rattle.std.proofs.Common.{arith, codes}
use Rattle.clap.specs.Words.{found_of, rows_of}
use Rattle.twords.proofs.WordReads.{wider}
use Rattle.twords.proofs.table.kind.Goals as goal

pub number-requires : goal.number-requires
number-requires c = wider 1 2 (codes "kind") (rows_of (found_of c.args.given.now)) (omega arith) c.requires
