-- What a run of rounds answers.
-- Source: own choice.
use Rattle.std.specs.Prelude.{◌≡◌, ℕ, ◌≤◌, List, Option, Some, None, option_map, if◌then◌else◌}
use Rattle.tplan.specs.declared.event.Event.{Event}
use Rattle.tplan.specs.declared.event.Hold.{Hold}
use Rattle.trounds.specs.declared.report.Report.{Report}
use Rattle.trounds.specs.declared.report.RunRecord.{RunRecord}
use Rattle.trounds.specs.declared.report.Recording.{Recording}
use Rattle.trounds.specs.declared.report.Recording.TheVariants.{Events, NoEvents}
use Rattle.trounds.specs.declared.report.NetFault.{NetFault}
use Rattle.trounds.specs.declared.report.NetFault.TheVariants.{BadWorkers, BadHold}
use Rattle.tnet.specs.Net.{NetState}
use Rattle.tnet.specs.Sharing.{is_bad_count}
use Rattle.trounds.specs.Rounds.{Rounds, rounds, bad_hold}

-- what is wrong with the number of workers, or else with the holds
abbrev pub refusal : ℕ → List Hold → NetState → Option NetFault
refusal workers holds net =
    if is_bad_count workers then Some BadWorkers else option_map BadHold (bad_hold net holds)

-- an outcome as it is reported
abbrev pub reported : Rounds → Report
reported r = record {
  «end» = r.ending;
  rounds = r.count;
  events = r.progress.events;
  notes = r.progress.notes;
  net =
      r.progress.net;
}

-- the report of at most `most` rounds of a net, by the plain definition
abbrev pub report : List Hold → ℕ → ℕ → NetState → Report
report holds slice most net = reported (rounds holds slice most net)

-- what is kept of the events of a run
abbrev pub kept : Recording → List Event → Option (List Event)
kept Events events = Some events
kept NoEvents events = None

-- a report as it is recorded: without its events, where they are not kept
abbrev pub recorded : Recording → Report → RunRecord
recorded recording r = record {
  «end» = r.end;
  rounds = r.rounds;
  events = kept recording r.events;
  notes = r.notes;
  net =
      r.net;
}

-- the net after some number of whole rounds, no more than were asked for
abbrev pub IsAfterRounds : List Hold → ℕ → ℕ → NetState → NetState → Type 0
IsAfterRounds holds slice most net net' = (k : ℕ) × (k ≤ most) × (net' ≡ (rounds holds slice k net).progress.net)
