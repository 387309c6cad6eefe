use Rattle.std.proofs.Common.{ap, sym}
use Rattle.tfiles.proofs.Told.{tells_as}
use Rattle.tfiles.specs.Texts.{words}
use Rattle.tnames.specs.declared.reading.NamesFault.{NamesFault}
use Rattle.topening.specs.FaultLines.{names_words}
use Rattle.topening.proofs.fault_line.put_names_fault.Goals as goal

pub returns-in-BadLine : goal.returns-in-BadLine
returns-in-BadLine g c =
    tells_as c.put_numbered.ensures (ap (λ (f : NamesFault). words (names_words f)) (sym c.in-BadLine.is))
