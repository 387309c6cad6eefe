-- The marks of a picture.
-- Source: own choice.
use Rattle.std.specs.Prelude.{ℕ}
use Rattle.tchart.specs.declared.marks.Mark.{Mark}
use Rattle.tchart.specs.declared.marks.Mark.TheVariants.{Bar, Pause, Begin, Message, Halt, Freeze}

-- the lowest row in which there is something of a mark
abbrev pub last_row : Mark → ℕ
last_row (Bar n bar) = bar.row
last_row (Pause n lane pause to last) = to
last_row (Begin n row k l process) = row
last_row (Message to begun row k message) = row
last_row (Halt n row k) = row
last_row (Freeze n row k broken) = row

-- the layer that a mark lies in: pauses below arrows, and arrows below all else
abbrev pub layer_of : Mark → ℕ
layer_of (Pause n lane pause to last) = 0
layer_of (Message to begun row k message) = 1
layer_of _ = 2
