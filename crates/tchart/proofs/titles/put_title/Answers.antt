use Rattle.std.proofs.Common.{ap, sym}
use Rattle.tfiles.proofs.Told.{tells_as}
use Rattle.tchart.specs.Titles.{title_text}
use Rattle.tchart.proofs.titles.put_title.Goals as goal

pub returns-in-Begin : goal.returns-in-Begin
returns-in-Begin g c = tells_as c.put_begin_title.ensures (ap title_text (sym c.in-Begin.is))

pub returns-in-Pause : goal.returns-in-Pause
returns-in-Pause g c = tells_as c.put_pause_title.ensures (ap title_text (sym c.in-Pause.is))
