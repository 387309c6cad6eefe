-- The process machine is tidy.
use Rattle.std.proofs.Common.{List, [], None, map}
use Rattle.tplan.specs.declared.plan.Plan.{Plan}
use Rattle.tagents.specs.Certificates.{IsCertified, IsTheOnlyRun}
use Rattle.tagents.specs.Walks.{sight}
use Rattle.tagents.specs.Tidy.{AreTold, AreCareful}
use Rattle.tagents.proofs.Careful.{careful_walkers_keep_gates}
use Rattle.tagents.proofs.Completed.{each_run_is_completed, each_end_is_the_end}
use Rattle.tagents.proofs.Walked.{walkers_are_lawful}
use Rattle.tprocesses.specs.Places.{Place}
use Rattle.tprocesses.specs.Values.{Value}
use Rattle.tprocesses.specs.Changes.{Change, ChangeKind}
use Rattle.tprocesses.specs.Parts.{Deed}
use Rattle.tprocesses.specs.Machine.{Agent, gates, step_of, process_machine}
use Rattle.tprocesses.specs.Opening.{opening_state}
use Rattle.tprocesses.specs.Certified.{ProcessStep, machine_of, IsCertificate, ProcessMachineIsTidy}
use Rattle.tprocesses.specs.Certified.{ProcessMachineIsLawful, CertificatesTellOfAllRuns}
use Rattle.tprocesses.proofs.Told.{same_agent-true, same_agent-false, same_place-true, same_place-false}
use Rattle.tprocesses.proofs.Changing.{changes_commute, what_awakes_was_shut}
use Rattle.tprocesses.proofs.Safe.{careful_walk}
use Rattle.tprocesses.proofs.SafeSteps.{step_of_safe}

all_are_told : (p : Plan) → AreTold (process_machine p)
all_are_told p =
    record {
      is_same = same_agent-true;
      not_same = same_agent-false;
      is_same_place = same_place-true;
      not_same_place = same_place-false;
    }

pub all_are_careful : (p : Plan) → AreCareful (process_machine p)
all_are_careful p a s is =
    careful_walk p a (step_of p a) (map (sight s) (gates p a)) (record { changes = []; message = None; stops = None })
    ((step_of_safe p a).safe (map (sight s) (gates p a)) [] tt tt)

pub process_machine_is_tidy : ProcessMachineIsTidy
process_machine_is_tidy p =
    record {
      told = all_are_told p;
      commute = changes_commute;
      awaken = λ c b q v gate h. what_awakes_was_shut p c b q v h;
      keep =
          careful_walkers_keep_gates Agent Place Value Change ChangeKind Deed (process_machine p) (opening_state p)
          (all_are_told p) (all_are_careful p);
    }

pub process_machine_is_lawful : ProcessMachineIsLawful
process_machine_is_lawful p =
    walkers_are_lawful Agent Place Value Change ChangeKind Deed (process_machine p) (opening_state p)
    (process_machine_is_tidy p)

-- what a certificate is for machines of agents
as_agents : (p : Plan) (steps : List ProcessStep) (end : Place → Value) → IsCertificate p steps end
    → IsCertified (machine_of p) (opening_state p) steps end
as_agents p steps end c =
    record {
      lawful = process_machine_is_lawful p;
      run = c.run;
      over = c.over;
      race_free = c.race_free;
      takes_nothing = c.takes_nothing;
    }

-- it is the only run
pub only_run : (p : Plan) (steps : List ProcessStep) (end : Place → Value)
    → IsCertified (machine_of p) (opening_state p) steps end
    → IsTheOnlyRun (machine_of p) (opening_state p) steps end
only_run p steps end c =
    record {
      completed = λ s others run.
          each_run_is_completed (Place → Value) Agent ProcessStep (machine_of p) (opening_state p) end s steps others
          c run;
      alike = λ s others run over.
          each_end_is_the_end (Place → Value) Agent ProcessStep (machine_of p) (opening_state p) end s steps others
          c run over;
    }

pub certificates_tell_of_all_runs : CertificatesTellOfAllRuns
certificates_tell_of_all_runs p steps end c = only_run p steps end (as_agents p steps end c)
