-- Where the own step of a node breaks no rule, so that no break of it freezes the node.
-- Source: own choice.
use Rattle.std.specs.Prelude.{ℕ, ◌≡◌, Bool, true, false, Some}
use Rattle.tword.specs.declared.breaks.Break.{Break}
use Rattle.tcode.specs.declared.instruction.Operation.TheVariants.{Endp, In, Out, Outbyte, Outword}
use Rattle.tcpu.specs.declared.registers.Next.{Next}
use Rattle.tcpu.specs.declared.registers.Next.TheVariants.{Schedule}
use Rattle.tplan.specs.declared.plan.Plan.{Plan}
use Rattle.tnet.specs.Rendezvous.{Node, Configuration, node_of, IsFreeze, IsMismatch}
use Rattle.tprocesses.specs.Places.{Place, Name}
use Rattle.tprocesses.specs.Values.{Value}
use Rattle.tseen.specs.Begun.{TellsRuns, HasFew}
use Rattle.tseen.specs.Steps.{IsCurrent, Makes, LeadsTo, is_dispatching, next_of}
use Rattle.tseen.specs.Alternatives.{is_choice}

-- if the node freezes, it is for a mismatch at a link
abbrev pub BreaksNothing : Configuration → ℕ → Type 0
BreaksNothing c n = (b : Break) (c' : Configuration) → IsFreeze c n b c' → IsMismatch c n

-- the same holds where the node's own step leads on
abbrev pub StepsThatLeadBreakNothing : Type 0
StepsThatLeadBreakNothing =
    (p : Plan) (c : Configuration) (n : ℕ) (s : Place → Value) → LeadsTo p c n s → BreaksNothing c n

-- and where it is a dispatch
abbrev pub DispatchesBreakNothing : Type 0
DispatchesBreakNothing =
    (c : Configuration) (n : ℕ) (node : Node) → node_of c n ≡ Some node
    → is_dispatching node.machine.control.current node.machine.control.high ≡ true → BreaksNothing c n

-- an operation that ends one of several processes, communicates, or is of an alternative
abbrev pub meets_others : Next → Bool
meets_others (Schedule Endp) = true
meets_others (Schedule In) = true
meets_others (Schedule Out) = true
meets_others (Schedule Outbyte) = true
meets_others (Schedule Outword) = true
meets_others (Schedule o) = is_choice o
meets_others _ = false

-- and where it is any other instruction of the current process, if the step of this process does not stop
abbrev pub InstructionsBreakNothing : Type 0
InstructionsBreakNothing =
    (p : Plan) (c : Configuration) (s s' : Place → Value) (n : ℕ) (x : Name) (next : Next) → (k : IsCurrent p c s n x)
    → next_of k.node.machine ≡ Some next → meets_others next ≡ false → TellsRuns s n → HasFew s' n
    → Makes p x s s' → BreaksNothing c n
