-- What a run of a wiring with its images answers and writes, and what it has in common with a replay.
-- Source: own choice; the run itself is that of the net's definitions.
use Rattle.std.specs.Prelude.{ℕ, List, Option, Some, None, Result, Ok, Err, Bool, true, false}
use Rattle.std.specs.Io.KnownBytes.{Appends}
use Rattle.tplan.specs.declared.event.Event.{Event}
use Rattle.tplan.specs.declared.event.Hold.{Hold}
use Rattle.trounds.specs.declared.report.Report.{Report}
use Rattle.trounds.specs.declared.report.NetFault.{NetFault}
use Rattle.trounds.specs.declared.report.Ending.{Ending}
use Rattle.trounds.specs.declared.report.Ending.TheVariants as ending
use Rattle.tnet.specs.Net.{NetState}
use Rattle.tnet.specs.Notes.{notes}
use Rattle.trounds.specs.Reports.{refusal, report}
use Rattle.tnet.specs.Runs.{IsSeenRun}
use Rattle.tplan.specs.declared.wiring.Wiring.{Wiring}
use Rattle.tplan.specs.declared.options.Options.{Options}
use Rattle.topening.specs.declared.fault.Fault.{Fault}
use Rattle.topening.specs.declared.fault.Fault.TheVariants as fault
use Rattle.topening.specs.Openings.{opened_of, IsOpening}
use Rattle.ttext.specs.PrintedRuns.{printed_run}
use Rattle.twords.specs.declared.table.Printing.{Printing}
use Rattle.ttext.specs.declared.printed_run.RunEnd.{RunEnd}
use Rattle.ttext.specs.declared.printed_run.RunEnd.TheVariants as end_by

-- what is due, unless the rounds are refused
abbrev pub unless_refused : {T : Type 0} → Option NetFault → T → Result T Fault
unless_refused None r = Ok r
unless_refused (Some f) r = Err (fault.Rounds f)

-- rounds of a net with these holds
abbrev pub rounds_of : List Hold → Options → NetState → Result Report Fault
rounds_of holds o net = unless_refused (refusal o.workers holds net) (report holds o.slice o.rounds net)

-- rounds of the net of a wiring, if there is one, else its fault
abbrev pub rounds_with : Wiring → Options → Result NetState Fault → Result Report Fault
rounds_with w o (Ok net) = rounds_of w.holds o net
rounds_with w o (Err f) = Err f

-- the report of the rounds of a wiring with its images, or the first fault
abbrev pub run_of : Wiring → List (List ℕ) → Options → Result Report Fault
run_of w files o = rounds_with w o (opened_of w files)

-- rounds ended because nothing is enabled
abbrev pub is_quiet_end : Ending → Bool
is_quiet_end ending.Quiet = true
is_quiet_end ending.Rounds = false

-- how a report's rounds ended
abbrev pub end_of : Report → RunEnd
end_of r = end_by.Rounds (is_quiet_end r.«end») r.rounds

-- what is printed of a report
abbrev pub report_text : Printing → Report → List ℕ
report_text printing r = printed_run printing r.notes r.net (end_of r)

-- the headline of a text: it is that of one run of the rendezvous machine from the opening of the plan, whose steps are
-- the images of these events
pub record ShowsOneRun (printing : Printing) (w : Wiring) (files : List (List ℕ)) (events : List Event) (by : RunEnd)
    (old new : Option (List ℕ)) : Type 0 where
  pub opened : NetState
  pub left : NetState
  pub opening : IsOpening w files opened
  -- the events, and what is seen of them
  pub run : IsSeenRun opened events left
  -- what is printed: the notes of this run, the memories of the net that it leaves, or where that net stands, or
  -- nothing of it, and how it ended
  pub printed : Appends old new (printed_run printing (notes events opened) left by)
