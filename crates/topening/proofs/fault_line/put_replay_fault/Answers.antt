use Rattle.std.proofs.Common.{ap, sym}
use Rattle.tfiles.proofs.Told.{tells_as}
use Rattle.trounds.specs.declared.replays.ReplayFault.{ReplayFault}
use Rattle.tfiles.specs.Texts.{words}
use Rattle.topening.specs.FaultLines.{replay_words}
use Rattle.topening.proofs.fault_line.put_replay_fault.Goals as goal

pub returns-in-NotEnabled : goal.returns-in-NotEnabled
returns-in-NotEnabled g c =
    tells_as c.put_numbered.ensures (ap (λ (f : ReplayFault). words (replay_words f)) (sym c.in-NotEnabled.is))
