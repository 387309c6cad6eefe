use Rattle.tfiles.proofs.Told.{tells_then}
use Rattle.twhere.proofs.processes.put_registers.Goals as goal

pub returns : goal.returns
returns g c =
    tells_then c.put_word_fact.ensures
    (tells_then c.put_word_fact-2.ensures (tells_then c.put_word_fact-3.ensures c.put_word_fact-4.ensures))
