use Rattle.std.proofs.Common.{ap, sym}
use Rattle.tfiles.proofs.Told.{tells_as}
use Rattle.ttext.specs.PrintedRuns.{json_last}
use Rattle.ttext.specs.declared.printed_run.RunEnd.{RunEnd}
use Rattle.ttext.proofs.printed_run.put_json_end.Goals as goal

pub returns-in-Replay : goal.returns-in-Replay
returns-in-Replay g c = tells_as c.put_json_replay_end.ensures (ap (λ (e : RunEnd). json_last e) (sym c.in-Replay.is))
