-- What a call on a node promises.
-- Source: own choice, words for contracts.
use Rattle.std.specs.Prelude.{◌≡◌, None, Result, Ok, Err}
use Rattle.tword.specs.declared.breaks.Break.{Break}
use Rattle.tproc.specs.declared.ran.Ran.{Ran}
use Rattle.tproc.specs.declared.ran.Ran.TheVariants as ran
use Rattle.tlink.specs.declared.event.Emitted.{Emitted}
use Rattle.tlink.specs.declared.event.Mark.TheVariants.{Nothing, Halted}
use Rattle.tlink.specs.declared.event.StepFault.{StepFault}
use Rattle.tlink.specs.declared.event.StepFault.TheVariants.{NotEnabled, Frozen}
use Rattle.tlink.specs.declared.links.Told.{Told}
use Rattle.tlink.specs.declared.links.Told.TheVariants as told
use Rattle.tlink.specs.Node.{NodeState, frozen}
use Rattle.tlink.specs.Events.{Answer, node_left_by, node_answered}

-- a node does what an answer of the machine says: the caller is told it, and the node is left as it says
pub record DoesNode (answer : Answer) (old : NodeState) (result : Result Emitted StepFault) (new : NodeState) : Type 0
  where
    pub told : result ≡ node_answered answer
    pub left : new ≡ node_left_by old answer

-- what an answer of the processor tells a caller of its node
abbrev pub run_told : Result Ran Break → Result Emitted StepFault
run_told (Ok ran.Idle) = Err NotEnabled
run_told (Ok ran.Halted) = Err NotEnabled
run_told (Ok ran.Halting) = Ok (record { packet = None; mark = Halted })
run_told (Ok _) = Ok (record { packet = None; mark = Nothing })
run_told (Err b) = Err (Frozen b)

-- the node after an answer of its processor: a break freezes it
abbrev pub run_left : Result Ran Break → NodeState → NodeState
run_left (Ok r) n = n
run_left (Err b) n = frozen b n

-- what a caller of a node is told by what a run told
abbrev pub told_answer : Told → Result Emitted StepFault
told_answer told.Nothing = Ok (record { packet = None; mark = Nothing })
told_answer told.Halted = Ok (record { packet = None; mark = Halted })
told_answer told.NotEnabled = Err NotEnabled
told_answer (told.Frozen b) = Err (Frozen b)
