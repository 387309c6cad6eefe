-- The line of an event: its number, what its node did, and what that led to.
-- Source: own choice, a format of this program; the names of registers are the Compiler Writer's Guide's (1988).
use Rattle.std.specs.Prelude.{ℕ, ◌+◌, ◌-◌, List, [], ◌++◌, length, replicate, codes, decimal, Option, Some, None}
use Rattle.std.specs.Prelude.{Result, Ok, Err}
use Rattle.tword.specs.declared.breaks.Break.{Break}
use Rattle.tcode.specs.declared.instruction.Instruction.{Instruction}
use Rattle.tproc.specs.Machine.{Machine}
use Rattle.tlink.specs.declared.event.Emitted.{Emitted}
use Rattle.tlink.specs.declared.event.Mark.{Mark}
use Rattle.tlink.specs.declared.event.Mark.TheVariants.{Nothing, Halted, Completed}
use Rattle.tlink.specs.declared.event.StepFault.{StepFault}
use Rattle.tlink.specs.declared.event.StepFault.TheVariants.{NotEnabled, Frozen}
use Rattle.tplan.specs.declared.plan.End.{End}
use Rattle.tfiles.specs.Logs.{line}
use Rattle.tfiles.specs.Texts.{break_name, end_text}
use Rattle.twhere.specs.Standing.{fetched_text, word_text}
use Rattle.thistory.specs.declared.deed.Deed.{Deed}
use Rattle.thistory.specs.declared.deed.Deed.TheVariants as deed
use Rattle.thistory.specs.declared.deed.Done.{Done}

-- ---- the number of the event

-- a text at the right end of `width` columns, or behind them where it is longer
abbrev pub at_right : ℕ → List ℕ → List ℕ
at_right width text = replicate (width - length text) 32 ++ text

-- the number of an event in its list, from 0
abbrev pub number_text : ℕ → List ℕ
number_text k = at_right 10 (decimal k)

-- ---- who did it

-- the descriptor of the process that runs, if one does
abbrev pub current_text : Option ℕ → (wptr : ℕ) → List ℕ
current_text (Some p) wptr = word_text (wptr + p)
current_text None wptr = codes "none     "

-- that of a processor, if there is one
abbrev pub process_text : Option Machine → List ℕ
process_text (Some m) = current_text m.control.current m.control.registers.wptr
process_text None = codes "none     "

-- the far end of a link
abbrev pub far_text : Option End → List ℕ
far_text (Some e) = end_text e
far_text None = codes "none"

-- a link, and what it leads to or where it comes from
abbrev pub link_text : List ℕ → (link : ℕ) → List ℕ → Option End → List ℕ
link_text word l way far = word ++ (codes " link " ++ (decimal l ++ (way ++ far_text far)))

-- an instruction by its process, a dispatch by the process that runs behind it, and a packet by its link and the far
-- end
abbrev pub who_text : (ℕ → Option End) → Deed → Option Machine → List ℕ
who_text far (deed.Instruction process iptr fetched) m = codes " run  " ++ word_text process
who_text far deed.Dispatch m = codes " run  " ++ process_text m
who_text far (deed.Send l) m = link_text (codes " send") l (codes " to ") (far l)
who_text far (deed.Data l a) m = link_text (codes " data") l (codes " from ") (far l)
who_text far (deed.Take l a) m = link_text (codes " take") l (codes " from ") (far l)
who_text far (deed.Ack l) m = link_text (codes " ack ") l (codes " from ") (far l)

-- ---- what it led to

-- a halt, or a message that is complete
abbrev pub mark_text : Mark → List ℕ
mark_text Nothing = []
mark_text Halted = codes " halt"
mark_text (Completed l) = codes " complete"

-- the break that froze the node
abbrev pub fault_text : StepFault → List ℕ
fault_text NotEnabled = []
fault_text (Frozen b) = codes " break " ++ break_name b

-- what the net answered: a mark, or the break that froze the node
abbrev pub outcome_text : Result Emitted StepFault → List ℕ
outcome_text (Ok e) = mark_text e.mark
outcome_text (Err f) = fault_text f

-- no process runs
abbrev pub none_text : Option ℕ → List ℕ
none_text (Some p) = []
none_text None = codes " descheduled"

-- that of a processor, if there is one
abbrev pub rest_text : Option Machine → List ℕ
rest_text (Some m) = none_text m.control.current
rest_text None = []

-- the instruction that was done, as it is told where a process stands, and whether its process is descheduled
abbrev pub instruction_text : ℕ → Result Instruction Break → Option Machine → List ℕ
instruction_text iptr fetched m =
    codes " after " ++ (word_text iptr ++ (codes ": " ++ (fetched_text fetched ++ rest_text m)))

-- how an instruction or a dispatch came to what it left
abbrev pub how_text : Deed → Option Machine → List ℕ
how_text (deed.Instruction process iptr fetched) m = instruction_text iptr fetched m
how_text deed.Dispatch m = codes " after dispatch"
how_text (deed.Send l) m = []
how_text (deed.Data l a) m = []
how_text (deed.Take l a) m = []
how_text (deed.Ack l) m = []

-- ---- the line

-- what stands before the middle of the line of an event: its number, and who did it
abbrev pub head_text : ℕ → (ℕ → Option End) → Deed → Option Machine → List ℕ
head_text k far deed m = number_text k ++ who_text far deed m

-- what stands behind the middle: how it was done, and what the net answered
abbrev pub tail_text : Done → Option Machine → List ℕ
tail_text d m = how_text d.deed m ++ line (outcome_text d.answer)

-- the line of an event that was done, with this in its middle, by its number, the far ends of the links of its node,
-- and the processor of that node behind it
abbrev pub event_line : (middle : List ℕ) → ℕ → (ℕ → Option End) → Done → Option Machine → List ℕ
event_line middle k far d m = head_text k far d.deed m ++ (middle ++ tail_text d m)
