-- Rounds that stop and go on.
-- Source: own choice.
use Rattle.std.specs.Prelude.{ℕ, ◌≡◌, ◌+◌, ◌-◌, ◌≤◌, List, ◌++◌, map, None}
use Rattle.tplan.specs.declared.event.Hold.{Hold}
use Rattle.trounds.specs.declared.report.Report.{Report}
use Rattle.tnet.specs.Net.{NetState}
use Rattle.trounds.specs.Reports.{report, refusal}

-- a hold, where the rounds are counted anew after the first `done` of them
abbrev pub hold_after : ℕ → Hold → Hold
hold_after done h = record h { from = h.from - done; until = h.until - done }

-- holds, where the rounds are counted anew after the first `done` of them
abbrev pub holds_after : ℕ → List Hold → List Hold
holds_after done holds = map (hold_after done) holds

-- the report of the rounds that go on where others stopped, with the holds as they stand then
abbrev pub resumed : List Hold → (slice more : ℕ) → Report → Report
resumed holds slice more first = report (holds_after first.rounds holds) slice more first.net

-- some rounds and the rounds after them, as one report
abbrev pub joined : Report → Report → Report
joined first rest = record {
  «end» = rest.end;
  rounds = first.rounds + rest.rounds;
  events = first.events ++ rest.events;
  notes = first.notes ++ rest.notes;
  net =
      rest.net;
}

-- some rounds, and then more from the net that they leave, are all these rounds in one go
abbrev pub RoundsGoOn : Type 0
RoundsGoOn =
    (holds : List Hold) (slice some more : ℕ) (net : NetState)
    → report holds slice (some + more) net
    ≡ joined (report holds slice some net) (resumed holds slice more (report holds slice some net))

-- rounds that are not refused are not refused where they go on
abbrev pub GoingOnIsNotRefused : Type 0
GoingOnIsNotRefused =
    (holds : List Hold) (slice some workers : ℕ) (net : NetState) → refusal workers holds net ≡ None
    → refusal workers (holds_after (report holds slice some net).rounds holds) (report holds slice some net).net ≡ None

-- a net is that after some whole rounds, no more than were asked for, and the rest of them, from this net and with the
-- holds as they stand then, makes up the whole report
pub record IsHalfway (holds : List Hold) (slice most : ℕ) (net net' : NetState) : Type 0 where
  pub some : ℕ
  pub few : some ≤ most
  pub left : net' ≡ (report holds slice some net).net
  pub whole : report holds slice most net
      ≡ joined (report holds slice some net)
      (report (holds_after (report holds slice some net).rounds holds) slice (most - some) net')
