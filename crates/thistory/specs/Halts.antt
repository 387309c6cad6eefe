-- The events that halted nodes, and what is told of them.
-- Source: own choice, a format of this program; what halts a processor is the Compiler Writer's Guide's (1988).
use Rattle.std.specs.Prelude.{ℕ, suc, Bool, true, false, List, [], ◌∷◌, ◌++◌, codes, decimal, Result, Ok, Err}
use Rattle.std.specs.Prelude.{if◌then◌else◌}
use Rattle.tword.specs.declared.breaks.Break.{Break}
use Rattle.tcode.specs.declared.instruction.Instruction.{Instruction}
use Rattle.tlink.specs.declared.event.Emitted.{Emitted}
use Rattle.tlink.specs.declared.event.Mark.{Mark}
use Rattle.tlink.specs.declared.event.Mark.TheVariants.{Nothing, Halted, Completed}
use Rattle.tlink.specs.declared.event.StepFault.{StepFault}
use Rattle.tplan.specs.declared.event.Event.{Event}
use Rattle.tnet.specs.Net.{NetState}
use Rattle.tfiles.specs.Logs.{line}
use Rattle.twhere.specs.Standing.{fetched_text, word_text}
use Rattle.thistory.specs.declared.deed.Deed.{Deed}
use Rattle.thistory.specs.declared.deed.Deed.TheVariants as deed
use Rattle.thistory.specs.declared.deed.Done.{Done}
use Rattle.thistory.specs.Deeds.{done_of, net_behind}

-- an event of this mark halted its node
abbrev pub is_halt_mark : Mark → Bool
is_halt_mark Nothing = false
is_halt_mark Halted = true
is_halt_mark (Completed l) = false

-- an event that was answered so halted its node
abbrev pub is_halt : Result Emitted StepFault → Bool
is_halt (Ok e) = is_halt_mark e.mark
is_halt (Err f) = false

-- an address, and what a fetch there answered
abbrev pub code_text : ℕ → Result Instruction Break → List ℕ
code_text iptr fetched = word_text iptr ++ (codes ": " ++ fetched_text fetched)

-- the instruction of a deed, if it is one
abbrev pub deed_text : Deed → List ℕ
deed_text (deed.Instruction process iptr fetched) = code_text iptr fetched
deed_text deed.Dispatch = []
deed_text (deed.Send l) = []
deed_text (deed.Data l a) = []
deed_text (deed.Take l a) = []
deed_text (deed.Ack l) = []

-- the line of the event of this number that halted its node: the node, the number, and the address with the instruction
abbrev pub halt_line : ℕ → Done → List ℕ
halt_line k d =
    codes "halted node "
    ++ (decimal d.event.node ++ (codes " by event " ++ (decimal k ++ (codes ": " ++ line (deed_text d.deed)))))

-- its line, in which the addresses of a node are named so; of an event that halted nothing there is none
abbrev pub event_text : (named : ℕ → List ℕ → List ℕ) → ℕ → Done → List ℕ
event_text named k d = if is_halt d.answer then named d.event.node (halt_line k d) else []

-- those of the events from a number on, in their order
abbrev pub halts_from : (named : ℕ → List ℕ → List ℕ) → ℕ → List Event → NetState → List ℕ
halts_from named k [] net = []
halts_from named k (e ∷ es) net = event_text named k (done_of net e) ++ halts_from named (suc k) es (net_behind net e)

-- the lines of the events that halted nodes, as events are done on a net
abbrev pub halts_text : (named : ℕ → List ℕ → List ℕ) → List Event → NetState → List ℕ
halts_text named events net = halts_from named 0 events net
