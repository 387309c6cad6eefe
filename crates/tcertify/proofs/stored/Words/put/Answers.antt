use Rattle.tcertify.proofs.Places.{puts_noted}
use Rattle.tcertify.proofs.stored.Words.put.Goals as goal

pub returns-clause-change : goal.returns-clause-change
returns-clause-change c =
    puts_noted c.args.self.now c.note.new.self c.set.new.self c.args.number c.args.cells c.args.used c.requires
    c.note.ensures c.set.ensures
