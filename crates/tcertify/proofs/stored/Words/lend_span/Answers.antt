use Rattle.std.specs.Prelude.{pos}
use Rattle.tcertify.proofs.Counting.{counts_span}
use Rattle.tcertify.proofs.stored.Words.lend_span.Goals as goal

pub returns-clause-change : goal.returns-clause-change
returns-clause-change c =
    counts_span c.args.self.now c.note_span.new.self c.add_one.new.self c.args.span.now (pos 1) c.note_span.ensures
    c.add_one.ensures c.requires
