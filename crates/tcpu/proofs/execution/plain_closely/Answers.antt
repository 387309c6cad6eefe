use Rattle.tcode.proofs.Known.{fetched_on}
use Rattle.tcpu.proofs.execution.plain_closely.Goals as goal

pub returns-in-Some-clause-fetched : goal.returns-in-Some-clause-fetched
returns-in-Some-clause-fetched c =
    fetched_on c.learn.new.self.entries.items c.learn.new.self.words.items c.args.memory.now.bytes
    c.plain_chain.new.memory.bytes c.args.marks.now c.learn.new.self.coded c.learn.ensures.fetched
    c.plain_chain.ensures.sized (rw c.as_slice-words.ensures.value at c.plain_chain.ensures.marked)
