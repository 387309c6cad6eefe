-- What follows a local instruction of a process.
-- Source: own choice, a part of the steps of `tprocesses`.
use Rattle.tcpu.specs.declared.registers.Next.{Next}
use Rattle.tprocesses.specs.Values.{Context}
use Rattle.tcertify.specs.declared.carrying.Carried.{Carried}
use Rattle.tcertify.specs.declared.context.Context as machine
use Rattle.tcertify.specs.declared.context.Left.{Left}

-- what follows an instruction, and the context behind it
abbrev pub Followed : Type 0
Followed = Next × Context

-- a context with the registers that an instruction left
abbrev pub with_left : Context → Left → Context
with_left c l = record c { wptr = l.wptr; iptr = l.iptr; a = l.a; b = l.b; c = l.c }

-- the same as the code keeps it
abbrev pub with_registers : machine.Context → Left → machine.Context
with_registers c l = record c { wptr = l.wptr; iptr = l.iptr; a = l.a; b = l.b; c = l.c }

-- what a call answered for a process that had this context
abbrev pub followed : Context → Carried → Followed
followed c k = (k.next, with_left c k.left)
