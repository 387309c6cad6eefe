use Rattle.std.proofs.Common.{ap, sym}
use Rattle.topening.specs.declared.fault.Fault.{Fault}
use Rattle.tfiles.specs.Texts.{words}
use Rattle.tnames.specs.Escapes.{escaped_text}
use Rattle.topening.specs.FaultLines.{fault_words}
use Rattle.tfiles.proofs.Told.{tells_as, tells_then}
use Rattle.topening.proofs.fault_line.put_fault.Goals as goal

pub returns-in-File : goal.returns-in-File
returns-in-File g c =
    tells_as (tells_then c.put.ensures (tells_as c.put_escaped.ensures (ap escaped_text c.as_str.ensures.value)))
    (ap (λ (f : Fault). words (fault_words f)) (sym c.in-File.is))

pub returns-in-NoMemory : goal.returns-in-NoMemory
returns-in-NoMemory g c =
    tells_as c.put_no_memory.ensures (ap (λ (f : Fault). words (fault_words f)) (sym c.in-NoMemory.is))
