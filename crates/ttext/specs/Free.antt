-- What free workers on the net of a wiring with its images answer and write. Which packets a turn finds depends on the
-- timing of threads, so this is a relation.
-- Source: own choice; the workers, their turns and what they come to are those of free workers' definitions.
use Rattle.std.specs.Prelude.{ℕ, ◌≡◌, ◌⊎◌, [], List, Option, Result, Ok, Err, true}
use Rattle.std.specs.Io.KnownBytes.{Appends}
use Rattle.tplan.specs.declared.options.Options.{Options}
use Rattle.tplan.specs.declared.wiring.Wiring.{Wiring}
use Rattle.tplan.specs.declared.event.Event.{Event}
use Rattle.tnet.specs.Net.{NetState}
use Rattle.tnet.specs.Notes.{notes}
use Rattle.tnet.specs.Quiet.{is_quiet}
use Rattle.tnet.specs.Runs.{IsSeenRun}
use Rattle.trounds.specs.Reports.{refusal}
use Rattle.tfree.specs.Opened.{Gathers, IsOpened}
use Rattle.tfree.specs.Turning.{AreTurned}
use Rattle.tfree.specs.Views.{View}
use Rattle.tfree.specs.declared.gathering.Gathered.{Gathered}
use Rattle.tfree.specs.declared.gathering.Told.{Told}
use Rattle.tfiles.specs.Logs.{log_text}
use Rattle.tfiles.specs.Outputs.{IsCut}
use Rattle.topening.specs.declared.fault.Fault.{Fault}
use Rattle.topening.specs.declared.fault.Fault.TheVariants as fault
use Rattle.topening.specs.Verdicts.{net_verdict}
use Rattle.ttext.specs.Commands.{IsLogCut, LogGrows}
use Rattle.topening.specs.declared.verdict.Verdict.{Verdict}
use Rattle.topening.specs.Openings.{opened_of}
use Rattle.ttext.specs.Outcomes.{unless_refused, ShowsOneRun}
use Rattle.twords.specs.declared.table.Printing.{Printing}
use Rattle.ttext.specs.PrintedRuns.{printed_run}
use Rattle.ttext.specs.declared.printed_run.RunEnd.{RunEnd}
use Rattle.ttext.specs.declared.printed_run.RunEnd.TheVariants.{Turns}

-- a net for the workers of the options, if they are neither too few nor too many; the options' rounds are the turns
abbrev pub shared_with : Options → Result NetState Fault → Result NetState Fault
shared_with o (Ok net) = unless_refused (refusal o.workers [] net) net
shared_with o (Err f) = Err f

-- the net that free workers share, or the first fault; the wiring's holds are ignored
abbrev pub shared_of : Wiring → List (List ℕ) → Options → Result NetState Fault
shared_of w files o = shared_with o (opened_of w files)

-- what free workers did on a net: it was opened for them, each made its turns or stopped at a full clock, and what they
-- did was gathered
pub record AreFree (opened : NetState) (o : Options) (g : Gathered) : Type 0 where
  pub fresh : List View
  pub turned : List View
  pub shared : IsOpened opened o.workers fresh
  pub turns : AreTurned o.rounds o.slice fresh true turned
  pub gathered : Gathers turned g.history g.notes g.net

-- what free workers did on the net of a wiring with its images
pub record IsFreeRun (w : Wiring) (files : List (List ℕ)) (o : Options) (g : Gathered) : Type 0 where
  pub opened : NetState
  pub due : shared_of w files o ≡ Ok opened
  pub free : AreFree opened o g

-- what free workers did on a net, where their events need not be there: there is a history of which all is true, and
-- it is one run of the rendezvous machine, with these notes
pub record AreFreeUnkept (opened : NetState) (o : Options) (t : Told) : Type 0 where
  pub history : List Event
  pub free : AreFree opened o (record { net = t.net; history = history; notes = t.notes })
  pub run : IsSeenRun opened history t.net
  pub notes_told : t.notes ≡ notes history opened

-- how free workers ended
abbrev pub end_of : Gathered → RunEnd
end_of g = Turns (is_quiet g.net)

-- what is printed of free workers
abbrev pub free_text : Printing → Gathered → List ℕ
free_text printing g = printed_run printing g.notes g.net (end_of g)

-- free workers ran, their text is written, and their net is answered
pub record IsFreeShown {W : Type 0} (contents : W → Option (List ℕ)) (printing : Printing) (w : Wiring)
    (files : List (List ℕ)) (o : Options) (net : NetState) (old new : W) : Type 0 where
  pub gathered : Gathered
  pub ran : IsFreeRun w files o gathered
  pub net_is : net ≡ gathered.net
  pub text : Appends (contents old) (contents new) (free_text printing gathered)
  pub run : ShowsOneRun printing w files gathered.history (end_of gathered) (contents old) (contents new)

-- what has gone out where the text of free workers was due and a fault is answered: nothing; or, where the output
-- failed, the beginning of the text of what workers did
abbrev pub IsFreeLeft : {W : Type 0} → (W → Option (List ℕ)) → Printing → (Gathered → Type 0) → W → W → Fault → Type 0
IsFreeLeft contents printing may old new (fault.Output f) = (g : Gathered) × may g
    × IsCut (contents old) (contents new) (free_text printing g) f.written
IsFreeLeft contents printing may old new f = new ≡ old

-- ---- the command: the text, and then the log

-- free workers ran, and all is written: the text of one run of the rendezvous machine, and its log, where there is to
-- be one
pub record IsFreeDone {W L : Type 0} (contents : W → Option (List ℕ)) (log_contents : L → Option (List ℕ))
    (printing : Printing) (w : Wiring) (files : List (List ℕ)) (o : Options) (told : Verdict) (old new : W)
    (log_old log_new : Option L) : Type 0 where
  pub gathered : Gathered
  pub ran : IsFreeRun w files o gathered
  -- whether a node is frozen is told
  pub frozen : told ≡ net_verdict gathered.net
  pub text : Appends (contents old) (contents new) (free_text printing gathered)
  -- the headline: the text is that of one run of the rendezvous machine, in which each message that is complete is one
  -- step that copies it whole
  pub run : ShowsOneRun printing w files gathered.history (end_of gathered) (contents old) (contents new)
  pub log : LogGrows log_contents log_old log_new (log_text gathered.history)

-- what has gone out where the command answers a fault: nothing; or, where the output failed, the beginning of the text
-- of what workers did and nothing of the log, or the text whole and the beginning of the log
abbrev pub IsFreeCut : {W L : Type 0} → (W → Option (List ℕ)) → (L → Option (List ℕ)) → Printing → (Gathered → Type 0)
    → W → W → Option L → Option L → Fault → Type 0
IsFreeCut contents log_contents printing may old new log_old log_new (fault.Output f) =
    (g : Gathered)
    × may g
    × ((IsCut (contents old) (contents new) (free_text printing g) f.written × (log_new ≡ log_old))
    ⊎ (Appends (contents old) (contents new) (free_text printing g)
    × IsLogCut log_contents log_old log_new (log_text g.history) f.written))
IsFreeCut contents log_contents printing may old new log_old log_new f = (new ≡ old) × (log_new ≡ log_old)
