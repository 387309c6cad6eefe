use Rattle.std.proofs.Common.{arith}
use Rattle.std.proofs.lemmas.List.{take_all}
use Rattle.tproc.proofs.Entries.{absent_from}
use Rattle.tproc.proofs.process_table.search.Goals as goal

pub returns-clause-none : goal.returns-clause-none
returns-clause-none c = λ _.
    let es = c.args.entries.now in
    absent_from es c.args.process
    (rw (take_all c.loop-i.i es (omega (arith, c.loop-i-test.false))) at c.loop-i.invariant)
