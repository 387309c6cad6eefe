-- How `endp` of a node's current process is seen. The process ends; the count in the word after the one at A says how
-- many have still to end there. After the last of them their successor goes on: at once in the rendezvous machine, and
-- in a step of its own in the process machine.
-- Source: own choice.
use Rattle.std.specs.Prelude.{ℕ, ◌≡◌, ◌≢◌, Some}
use Rattle.tword.specs.Words.{plus}
use Rattle.tword.specs.Stores.{word_at}
use Rattle.tcode.specs.declared.instruction.Operation.TheVariants.{Endp}
use Rattle.tcpu.specs.declared.registers.Next.TheVariants.{Schedule}
use Rattle.tproc.specs.Machine.{Machine}
use Rattle.tplan.specs.declared.plan.Plan.{Plan}
use Rattle.tnet.specs.Rendezvous.{Configuration}
use Rattle.tprocesses.specs.Places.{Place, Name}
use Rattle.tprocesses.specs.Values.{Value}
use Rattle.tprocesses.specs.Touching.{word_number}
use Rattle.tprocesses.specs.Machine.{Agent, Successor}
use Rattle.tseen.specs.Steps.{IsCurrent, Makes, LeadsTo, next_of}
use Rattle.tseen.specs.AgentSteps.{AgentMakes, HasStep, NeverStops}

-- the address of the count of an `endp`
abbrev pub count_address : Machine → ℕ
count_address m = plus m.control.registers.a 4

-- how many have still to end there, the current process among them
abbrev pub left_to_end : Machine → ℕ
left_to_end m = word_at m.store (count_address m)

-- their successor
abbrev pub successor_of : ℕ → Machine → Agent
successor_of n m = Successor n (word_number (count_address m))

-- an `endp` that is not the last is seen as its instruction, if the successor has no step that stops. It would have one
-- if the word of the count were unknown, or in another use
abbrev pub EndsAreSeen : Type 0
EndsAreSeen =
    (p : Plan) (c : Configuration) (s s' : Place → Value) (n : ℕ) (x : Name) → (k : IsCurrent p c s n x)
    → next_of k.node.machine ≡ Some (Schedule Endp) → left_to_end k.node.machine ≢ 1 → Makes p x s s'
    → NeverStops p (successor_of n k.node.machine) s' → LeadsTo p c n s'

-- the last one is seen as its instruction and the step of the successor
abbrev pub LastEndsAreSeen : Type 0
LastEndsAreSeen =
    (p : Plan) (c : Configuration) (s s' s'' : Place → Value) (n : ℕ) (x : Name) → (k : IsCurrent p c s n x)
    → next_of k.node.machine ≡ Some (Schedule Endp) → left_to_end k.node.machine ≡ 1 → Makes p x s s'
    → AgentMakes p (successor_of n k.node.machine) s' s'' → LeadsTo p c n s''

-- after the last one the successor has its step
abbrev pub SuccessorsAreDue : Type 0
SuccessorsAreDue =
    (p : Plan) (c : Configuration) (s s' : Place → Value) (n : ℕ) (x : Name) → (k : IsCurrent p c s n x)
    → next_of k.node.machine ≡ Some (Schedule Endp) → left_to_end k.node.machine ≡ 1 → Makes p x s s'
    → HasStep p (successor_of n k.node.machine) s'
