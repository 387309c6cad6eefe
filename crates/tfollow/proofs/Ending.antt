-- A run that was followed to its end is a certificate.
use Rattle.std.proofs.Common.{◌≡◌, inl, inr, ap, ◌∙◌, subst, false}
use Rattle.std.proofs.Common.{List, reverse}
use Rattle.tplan.specs.declared.plan.Plan.{Plan}
use Rattle.tagents.specs.Races.{IsRaceFree}
use Rattle.tagents.specs.Walks.{are_open}
use Rattle.tagents.proofs.Walking.{over_where_shut}
use Rattle.tclocks.specs.Checks.{Check}
use Rattle.tclocks.proofs.Turning.{have_no_race}
use Rattle.tprocesses.specs.Machine.{Agent, process_machine}
use Rattle.tprocesses.specs.Certified.{ProcessStep, machine_of, IsCertificate}
use Rattle.tagents.specs.Certificates.{IsCertified}
use Rattle.tprocesses.specs.Opening.{opening_state}
use Rattle.tprocesses.proofs.Tidy.{process_machine_is_lawful, process_machine_is_tidy}
use Rattle.tprocesses.proofs.Tidy.{certificates_tell_of_all_runs}
use Rattle.tcertify.specs.Running.{State}
use Rattle.tagents.proofs.WalkAccessed.{walkers_clash_by_accesses}
use Rattle.tprocesses.specs.Places.{Place}
use Rattle.tprocesses.specs.Values.{Value}
use Rattle.tprocesses.specs.Changes.{Change, ChangeKind}
use Rattle.tprocesses.specs.Parts.{Deed}
use Rattle.tfollow.specs.Modes.{accesses_in, mode_at}
use Rattle.tfollow.specs.Numbering.{Places, AgentNumbers, number_in}
use Rattle.tfollow.specs.Following.{IsFollowed, number_by}
use Rattle.tfollow.specs.Laws.{AreShut, FollowedRunsAreCertificates}
use Rattle.tfollow.proofs.Numbered.{number-there, there-or-not}
use Rattle.tfollow.proofs.Running.{labels-turned}

module _ (plan : Plan) where
  all-shut : (agents : List Agent) (state : State) → AreShut plan agents state → (a : Agent)
      → are_open (process_machine plan) a state ≡ false
  all-shut agents state shut a =
      elim (there-or-not plan agents a) as (λ _. are_open (process_machine plan) a state ≡ false) [
        | inl there ↦ shut.listed (number_in agents a) a (number-there plan agents a there)
        | inr away ↦ shut.others a away
      ]

-- where no agent has a step, the run tells of all runs, however many processes live
module _ (plan : Plan) (places : Places) (group : AgentNumbers) (agents : List Agent) (steps : List ProcessStep)
    (check : Check) (state : State) (f : IsFollowed plan places group agents steps check state)
    (shut : AreShut plan agents state) where
  race_free : IsRaceFree (machine_of plan) (reverse steps)
  race_free =
      subst (λ (list : List ProcessStep). IsRaceFree (machine_of plan) list)
      (labels-turned f.entries ∙ ap reverse f.labels)
      (have_no_race (machine_of plan) (number_by group) (accesses_in plan) places mode_at f.entries f.writers check
      f.seen
      (walkers_clash_by_accesses Agent Place Value Change ChangeKind Deed (process_machine plan)
      (process_machine_is_tidy plan).told))

  pub certified : IsCertified (machine_of plan) (opening_state plan) (reverse steps) state
  certified =
      record {
        lawful = process_machine_is_lawful plan;
        run = f.run;
        over = over_where_shut (process_machine plan) state (all-shut plan agents state shut);
        race_free = race_free;
        takes_nothing = f.takes_nothing;
      }

pub followed_runs_are_certificates : FollowedRunsAreCertificates
followed_runs_are_certificates plan places group agents steps check state f shut few flags =
    record { certificate = certificate; only = certificates_tell_of_all_runs plan (reverse steps) state certificate }
  where
    whole : IsCertified (machine_of plan) (opening_state plan) (reverse steps) state
    whole = certified plan places group agents steps check state f shut

    certificate : IsCertificate plan (reverse steps) state
    certificate =
        record {
          run = whole.run;
          over = whole.over;
          takes_nothing = whole.takes_nothing;
          race_free = whole.race_free;
          few = few;
          flags = flags;
        }
