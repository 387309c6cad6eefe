use Rattle.tcode.proofs.Coded.{known_so}
use Rattle.tcode.proofs.code_table.CodeTable.learn.Goals as goal

pub returns-clause-decoded : goal.returns-clause-decoded
returns-clause-decoded c =
    rw (← c.in-Some.ensures.at)
    (known_so c.args.memory.now.kind _ c.args.marks.now c.in-Some.entry c.in-Some.ensures.tells
    c.in-Some.ensures.fetched)
