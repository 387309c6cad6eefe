-- Why there is no certificate, as it is printed.
-- Source: own choice, a format of this program.
use Rattle.std.specs.Prelude.{List, codes}
use Rattle.std.specs.Prelude.{ℕ}
use Rattle.tfiles.specs.Texts.{break_name}
use Rattle.tcertify.specs.declared.stop.Stop.{Stop}
use Rattle.tcertify.specs.declared.stop.Stop.TheVariants as stop

-- why a step stops
abbrev pub stop_name : Stop → List ℕ
stop_name (stop.Breaks b) = break_name b
stop_name stop.Halts = codes "Halts"
stop_name stop.SawTheScheduler = codes "SawTheScheduler"
stop_name stop.SeveralReady = codes "SeveralReady"
stop_name stop.WordInUse = codes "WordInUse"
stop_name stop.FullSink = codes "FullSink"
stop_name stop.HasNoStep = codes "HasNoStep"
