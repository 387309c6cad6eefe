-- What `chart` answers and writes: a picture of the events of a log.
-- Source: own choice.
use Rattle.std.specs.Prelude.{ℕ, ℤ, List, Result, Ok, Err}
use Rattle.tplan.specs.declared.event.Event.{Event}
use Rattle.tplan.specs.declared.wiring.Wiring.{Wiring}
use Rattle.tnet.specs.Net.{NetState}
use Rattle.tfiles.specs.Logs.{log_of}
use Rattle.tchart.specs.Drawing.{chart_text}
use Rattle.tchart.specs.Layout.{chart_of}
use Rattle.topening.specs.declared.fault.Fault.{Fault}
use Rattle.topening.specs.LogEvents.{as_log, first_events}
use Rattle.tstanding.specs.Histories.{enabled_on, events_in}
use Rattle.topening.specs.Openings.{opened_of}

-- the net of a wiring and its images before its first event, of which a picture is drawn: the events are enabled; else
-- the first fault
abbrev pub charted_of : Wiring → List (List ℕ) → List Event → Result NetState Fault
charted_of w files events = enabled_on events (opened_of w files)

-- likewise where the log is one
abbrev pub charted_log : Wiring → List (List ℕ) → Result (List Event) Fault → Result NetState Fault
charted_log w files (Ok events) = charted_of w files events
charted_log w files (Err f) = Err f

-- that of the first events of the bytes of a log, or the first fault; a bad line behind these events is a fault too
abbrev pub log_charted_of : Wiring → List (List ℕ) → ℤ → List ℕ → Result NetState Fault
log_charted_of w files most log = charted_log w files (as_log (first_events most (log_of log)))

-- the picture of events on a net
abbrev pub picture_text : List Event → NetState → List ℕ
picture_text events net = chart_text (chart_of events net)

-- that of the first events of a log
abbrev pub log_picture_text : ℤ → List ℕ → NetState → List ℕ
log_picture_text most log net = picture_text (events_in (first_events most (log_of log))) net
