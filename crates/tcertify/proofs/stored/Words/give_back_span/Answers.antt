use Rattle.std.specs.Prelude.{negsuc}
use Rattle.tcertify.proofs.Counting.{counts_span}
use Rattle.tcertify.proofs.stored.Words.give_back_span.Goals as goal

pub returns-clause-change : goal.returns-clause-change
returns-clause-change c =
    counts_span c.args.self.now c.note_span.new.self c.take_one.new.self c.args.span.now (negsuc 0) c.note_span.ensures
    c.take_one.ensures c.requires
