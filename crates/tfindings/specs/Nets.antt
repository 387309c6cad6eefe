-- What a certified run tells of all runs of the net of a wiring and the files of its images.
-- Source: own choice.
use Rattle.std.specs.Prelude.{ℕ, ◌≡◌, Bool, List, Option, Some, None, length}
use Rattle.std.specs.Io.KnownBytes.{Appends}
use Rattle.tplan.specs.declared.event.Event.{Event}
use Rattle.tplan.specs.declared.event.Note.{Note}
use Rattle.tplan.specs.declared.plan.Plan.{Plan}
use Rattle.tplan.specs.declared.wiring.Wiring.{Wiring}
use Rattle.tnet.specs.Building.{fault_of, opening_configuration}
use Rattle.tnet.specs.Net.{NetState}
use Rattle.tnet.specs.Packets.{after_events}
use Rattle.tnet.specs.Rendezvous.{Configuration, Step, IsRun}
use Rattle.tfiles.specs.Outputs.{IsCut}
use Rattle.tprocesses.specs.Certified.{ProcessStep, IsCertificate}
use Rattle.tseen.specs.Packets.{IsToldOfNet}
use Rattle.tseen.specs.Whole.{IsTold}
use Rattle.topening.specs.declared.fault.Fault.{Fault}
use Rattle.topening.specs.declared.fault.Fault.TheVariants as fault
use Rattle.topening.specs.Openings.{IsOpening, IsPlanOf}
use Rattle.tverdict.specs.declared.machine.Machine.{Machine}
use Rattle.tverdict.specs.Machines.{machine_at}
use Rattle.tfindings.specs.declared.finding.Finding.{Finding}
use Rattle.tfindings.specs.declared.finding.Finding.TheVariants.{Certified}
use Rattle.tfindings.specs.Findings.{IsRunOf, is_certified}
use Rattle.tfindings.specs.Telling.{certified_line}

-- the plan with another timeslice
abbrev pub with_timeslice : ℕ → Plan → Plan
with_timeslice t plan = record plan { timeslice = t }

-- a run of the process machine is a certificate of the plan of a wiring and its files, the machine stands at its end,
-- and so it tells of all runs of the net
pub record TellsOfAllRuns (w : Wiring) (files : List (List ℕ)) (plan : Plan) (m : Machine) : Type 0 where
  pub planned : IsPlanOf w files plan
  -- the steps of the run, as many as the machine has done
  pub steps : List ProcessStep
  pub count : length steps ≡ m.done
  pub certificate : IsCertificate plan steps (machine_at plan m)
  -- of each configuration to which a run of the rendezvous machine leads, with each timeslice that a net may have: the
  -- same, and how long the run may be
  pub runs : (t : ℕ) (c : Configuration) (taken : List Step) (notes : List Note)
      → fault_of (with_timeslice t plan) ≡ None → IsRun (opening_configuration (with_timeslice t plan)) taken notes c
      → IsTold (with_timeslice t plan) steps (machine_at plan m) c taken notes
  -- of each net to which events lead from the opening, as those of each `run`, `free` and `replay` do, with each
  -- timeslice: no node is frozen in it and none has halted; where it is quiet, memories, sources and sinks are as at
  -- the end of this run, as far as they are known there, and each wire has carried the same messages
  pub nets : (t : ℕ) (opened net : NetState) (events : List Event) → IsOpening (record w { timeslice = t }) files opened
      → after_events events opened ≡ Some net
      → IsToldOfNet (with_timeslice t plan) steps (machine_at plan m) opened events net

-- what is written is the text of such a run, so it holds of all runs of the net
pub record WritesOfAllRuns (w : Wiring) (files : List (List ℕ)) (text : Plan → Machine → List ℕ)
    (old new : Option (List ℕ)) : Type 0 where
  pub plan : Plan
  pub machine : Machine
  pub all : TellsOfAllRuns w files plan machine
  pub written : Appends old new (text plan machine)

-- a run was made, and whether it is certified is told
pub record HasCertified (w : Wiring) (files : List (List ℕ)) (most : ℕ) (told : Bool) : Type 0 where
  pub plan : Plan
  pub machine : Machine
  pub finding : Finding
  pub run : IsRunOf w files most plan machine finding
  pub is : told ≡ is_certified finding

-- a line tells that such a run is certified
pub record IsCertifiedLine (w : Wiring) (files : List (List ℕ)) (most : ℕ) (text : List ℕ) : Type 0 where
  pub plan : Plan
  pub machine : Machine
  pub run : IsRunOf w files most plan machine Certified
  pub is : text ≡ certified_line plan machine

-- what has gone out where a fault is answered: nothing; or, where the output failed, the beginning of such a line
abbrev pub IsLineLeft : {W : Type 0} → (W → Option (List ℕ)) → Wiring → List (List ℕ) → ℕ → W → W → Fault → Type 0
IsLineLeft contents w files most old new (fault.Output g) =
    (text : List ℕ) × IsCertifiedLine w files most text × IsCut (contents old) (contents new) text g.written
IsLineLeft contents w files most old new g = new ≡ old
