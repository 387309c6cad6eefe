-- The flags of a node, and registers, as the code has them.
-- Source: own choice.
use Rattle.tprocesses.specs.Instructions as spec
use Rattle.tcertify.specs.declared.flags.Flags.{Flags}

-- the two flags
abbrev pub flags_of : Flags → spec.Flags
flags_of f = record { error = f.error; halt_on_error = f.halt_on_error }
