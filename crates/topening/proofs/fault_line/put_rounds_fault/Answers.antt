use Rattle.std.proofs.Common.{ap, sym}
use Rattle.tfiles.proofs.Told.{tells_as}
use Rattle.trounds.specs.declared.report.NetFault.{NetFault}
use Rattle.tfiles.specs.Texts.{words}
use Rattle.topening.specs.FaultLines.{rounds_words}
use Rattle.topening.proofs.fault_line.put_rounds_fault.Goals as goal

pub returns-in-BadWorkers : goal.returns-in-BadWorkers
returns-in-BadWorkers g c =
    tells_as c.put.ensures (ap (λ (f : NetFault). words (rounds_words f)) (sym c.in-BadWorkers.is))

pub returns-in-BadHold : goal.returns-in-BadHold
returns-in-BadHold g c =
    tells_as c.put_numbered.ensures (ap (λ (f : NetFault). words (rounds_words f)) (sym c.in-BadHold.is))
