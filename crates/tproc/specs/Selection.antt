-- Which guard of an alternative is selected: told of the guards in the order in which they are disabled, without the
-- word in which the machine notes the one selected.
-- Source: the Compiler Writer's Guide (1988): of the ready guards the first that is disabled is selected. Told of a
-- list of guards: own choice.
use Rattle.std.specs.Prelude.{ℕ, zero, suc, ◌≡◌, ◌≢◌, List, [], ◌∷◌, Bool, false, not, ◌&&◌, ◌==◌, is_none, Option}
use Rattle.std.specs.Prelude.{Some, None, option_map, option_and_then, unwrap_or, find, Result, Ok, if◌then◌else◌}
use Rattle.tword.specs.declared.kind.Kind.{Kind}
use Rattle.tword.specs.declared.breaks.Break.{Break}
use Rattle.tword.specs.Stores.{word_at}
use Rattle.tword.specs.Actions.{run, value_of}
use Rattle.tcode.specs.declared.instruction.Function.{Function}
use Rattle.tcode.specs.declared.instruction.Function.TheVariants.{Opr}
use Rattle.tcode.specs.declared.instruction.Operation.{Operation}
use Rattle.tcode.specs.declared.instruction.Operation.TheVariants.{Altwt, Disc, Diss}
use Rattle.tcode.specs.declared.instruction.Instruction.{Instruction as Decoded}
use Rattle.tcode.specs.Table.{operation_at}
use Rattle.tcode.specs.Decoding.{decode}
use Rattle.tcpu.specs.Outcomes.{flag}
use Rattle.tproc.specs.declared.ran.Ran.TheVariants.{Instruction}
use Rattle.tproc.specs.declared.waiter.Reason.TheVariants.{Sends}
use Rattle.tproc.specs.Machine.{Machine, claims_of}
use Rattle.tproc.specs.declared.process_status.ProcessStatus.{ProcessStatus}
use Rattle.tproc.specs.declared.process_status.ProcessStatus.TheVariants.{Waits}
use Rattle.tproc.specs.ProcessStatus.{status}
use Rattle.tproc.specs.Queues.{not_process}
use Rattle.tproc.specs.declared.channels.Side.TheVariants.{Input}
use Rattle.tproc.specs.LinkChannels.{is_link, link_of, link_end}
use Rattle.tproc.specs.Alternatives.{none_selected}
use Rattle.tproc.specs.Placement.{IsPlaced}
use Rattle.tproc.specs.Steps.{step}

-- the operation that a function with an operand stands for on a node of a kind, if it stands for one
abbrev pub operation_of : Kind → Function → ℕ → Option Operation
operation_of kind Opr operand = operation_at kind operand
operation_of kind _ operand = None

-- the operation of what was decoded, where a process runs that no queued high one interrupts
abbrev pub operation_by : (kind : Kind) (current : Option ℕ) (high : List ℕ) → Result Decoded Break → Option Operation
operation_by kind (Some zero) high (Ok i) = operation_of kind i.function i.operand
operation_by kind (Some (suc p)) [] (Ok i) = operation_of kind i.function i.operand
operation_by kind _ _ _ = None

-- the operation that the next step of a processor makes, if it makes one
abbrev pub next_operation : Machine → Option Operation
next_operation n =
    if n.control.halted then None
    else operation_by n.control.kind n.control.current n.control.high
    (value_of (run (decode n.control.kind n.control.registers.iptr) n.store (claims_of n.control)))

-- a process that waits to output on this channel
abbrev pub outputs_on : ℕ → ProcessStatus → Bool
outputs_on channel (Waits (Sends other buffer length)) = other == channel
outputs_on channel _ = false

-- a channel is ready: a byte was noticed at its link, or its word names a process that waits to output on it
abbrev pub is_ready : ℕ → Machine → Bool
is_ready channel n =
    if is_link channel then (link_end n.control (link_of Input channel)).noticed
    else not (word_at n.store channel == not_process) && outputs_on channel
    (status n.control (word_at n.store channel))

-- a guard at the moment when it is disabled: its offset, the channel that it looks at, and whether it is true and ready
pub record Guard : Type 0 where
  pub offset : ℕ
  pub channel : Option ℕ
  pub is_ready : Bool

-- the guard that an operation disables: a false one looks at no channel, and one without a channel is ready where it is
-- true
abbrev pub guard_of : Operation → Machine → Option Guard
guard_of Disc n =
    let r = n.control.registers in
    Some (record {
      offset = r.a;
      channel = (if r.b == 0 then None else Some r.c);
      is_ready =
          not (r.b == 0) && is_ready r.c n;
    })
guard_of Diss n = let r = n.control.registers in
    Some (record { offset = r.a; channel = None; is_ready = not (r.b == 0) })
guard_of _ n = None

-- the guard that the next step disables, if it does so
abbrev pub next_guard : Machine → Option Guard
next_guard n = option_and_then (λ o. guard_of o n) (next_operation n)

-- a guard of the alternative at workspace w is disabled by a step. Its offset is one, and its channel is not word 0 of
-- the workspace
pub record IsDisabled (w : ℕ) (n : Machine) (g : Guard) (n' : Machine) : Type 0 where
  pub placed : IsPlaced n
  pub workspace : n.control.registers.wptr ≡ w
  pub guard : next_guard n ≡ Some g
  pub offset : g.offset ≢ none_selected
  pub channel : g.channel ≢ Some w
  pub done : step n ≡ Ok (n', Instruction)

-- what happens to a processor from one moment to the next, and what it leaves
pub data Turn : Type 0 where
  -- a guard is disabled
  Disables : Guard → Machine → Turn
  -- anything else happens
  Passes : Machine → Turn

-- the turns follow one another from a processor on: the alternative at workspace w disables its guards, and nothing
-- else writes word 0 of the workspace
abbrev pub AreTurns : ℕ → Machine → List Turn → Type 0
AreTurns w n [] = Unit {0}
AreTurns w n (Disables g n' ∷ turns) = IsDisabled w n g n' × AreTurns w n' turns
AreTurns w n (Passes n' ∷ turns) = (word_at n'.store w ≡ word_at n.store w) × AreTurns w n' turns

-- the processor that the last turn leaves
abbrev pub left_by : Machine → List Turn → Machine
left_by n [] = n
left_by n (Disables g n' ∷ turns) = left_by n' turns
left_by n (Passes n' ∷ turns) = left_by n' turns

-- the guards in the order in which they are disabled
abbrev pub guards : List Turn → List Guard
guards [] = []
guards (Disables g n' ∷ turns) = g ∷ guards turns
guards (Passes n' ∷ turns) = guards turns

-- the offset of the first guard that is true and ready when it is disabled
abbrev pub first_ready : List Turn → Option ℕ
first_ready turns = option_map (λ g. g.offset) (find (λ g. g.is_ready) (guards turns))

-- an alternative from its `altwt` on, which leaves the processor m
pub record IsChoice (w : ℕ) (n m : Machine) (turns : List Turn) : Type 0 where
  pub placed : IsPlaced n
  pub workspace : n.control.registers.wptr ≡ w
  pub awaits : next_operation n ≡ Some Altwt
  pub done : step n ≡ Ok (m, Instruction)
  pub follow : AreTurns w m turns

-- the first guard that is true and ready when it is disabled is selected: word 0 holds its offset, and where there is
-- none no offset
abbrev pub FirstReadyIsSelected : Type 0
FirstReadyIsSelected = (w : ℕ) (n m : Machine) (turns : List Turn) → IsChoice w n m turns
    → word_at (left_by m turns).store w ≡ unwrap_or (first_ready turns) none_selected

-- each disable answers 1 exactly where its guard is the one selected, else 0
abbrev pub SelectedIsTold : Type 0
SelectedIsTold = (w : ℕ) (n m : Machine) (turns : List Turn) → IsChoice w n m turns
    → (g : Guard) (n' : Machine) → IsDisabled w (left_by m turns) g n'
    → n'.control.registers.a ≡ flag (g.is_ready && is_none (first_ready turns))
