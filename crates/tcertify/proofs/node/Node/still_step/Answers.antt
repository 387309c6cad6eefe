use Rattle.std.proofs.Common.{ap, Err, inl, inr}
use Rattle.tprocesses.specs.Parts.{HasNoStep}
use Rattle.tprocesses.specs.Values as value
use Rattle.tcertify.specs.declared.fault.Fault.TheVariants.{Stops}
use Rattle.tcertify.specs.declared.stop.Stop.TheVariants as stop
use Rattle.tcertify.specs.Contexts.{context_of}
use Rattle.tcertify.specs.Standing.{stand_of}
use Rattle.tcertify.proofs.Completing.{steps}
use Rattle.tcertify.proofs.NodeRunning.{runs_at_stopped}
use Rattle.tcertify.proofs.NodeStands.{never_runs}
use Rattle.tcertify.proofs.node.Node.still_step.Goals as goal

pub returns-in-Rests : goal.returns-in-Rests
returns-in-Rests c =
    steps c.args.self.now c.stand.new.self c.args.process (stand_of c.stand.result) c.stand.ensures c.requires.there
    (value.Rests (context_of c.in-Rests.context)) _ _ (ap stand_of c.in-Rests.is) c.resumes.ensures

pub unreachable-requires : goal.unreachable-requires
unreachable-requires c =
    never_runs c.args.self.now c.stand.new.self c.args.process c.in-Runs.field-0 c.requires.still
    (rw c.in-Runs.is at c.stand.ensures) c.requires.there

pub returns-in-Chosen : goal.returns-in-Chosen
returns-in-Chosen c =
    steps c.args.self.now c.stand.new.self c.args.process (stand_of c.stand.result) c.stand.ensures c.requires.there
    (value.Chosen (context_of c.in-Chosen.context)) _ _ (ap stand_of c.in-Chosen.is) c.goes_on_chosen.ensures

pub returns-in-Absent : goal.returns-in-Absent
returns-in-Absent c =
    let a = c.args.self.now in let b = c.stand.new.self in
    elim c.in-Absent.is [
      | inl e ↦ steps a b c.args.process (stand_of c.stand.result) c.stand.ensures c.requires.there value.Absent b
          (Err (Stops stop.HasNoStep)) (ap stand_of e) (runs_at_stopped HasNoStep b)
      | inr more ↦ elim more [
        | inl e ↦ steps a b c.args.process (stand_of c.stand.result) c.stand.ensures c.requires.there
            (value.Waits (context_of e.0)) b (Err (Stops stop.HasNoStep)) (ap stand_of e.1)
            (runs_at_stopped HasNoStep b)
        | inr rest ↦ elim rest [
          | inl e ↦ steps a b c.args.process (stand_of c.stand.result) c.stand.ensures c.requires.there
              (value.Chooses (context_of e.0)) b (Err (Stops stop.HasNoStep)) (ap stand_of e.1)
              (runs_at_stopped HasNoStep b)
          | inr last ↦ elim last [
            | inl e ↦ steps a b c.args.process (stand_of c.stand.result) c.stand.ensures c.requires.there
                (value.Listens e.0 (context_of e.1)) b (Err (Stops stop.HasNoStep)) (ap stand_of e.2)
                (runs_at_stopped HasNoStep b)
            | inr e ↦ steps a b c.args.process (stand_of c.stand.result) c.stand.ensures c.requires.there value.Ended
                b (Err (Stops stop.HasNoStep)) (ap stand_of e) (runs_at_stopped HasNoStep b)
          ]
        ]
      ]
    ]
