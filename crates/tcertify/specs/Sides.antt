-- The two halves of a channel.
-- Source: own choice, those of `tproc`.
use Rattle.tproc.specs.declared.channels.Side as machine
use Rattle.tproc.specs.declared.channels.Side.TheVariants as machines
use Rattle.tcertify.specs.declared.side.Side.{Side}
use Rattle.tcertify.specs.declared.side.Side.TheVariants.{Input, Output}

-- a half of a channel as definitions have it
abbrev pub side_of : Side → machine.Side
side_of Input = machines.Input
side_of Output = machines.Output
