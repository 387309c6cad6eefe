use Rattle.tclocks.proofs.Stepping.{none-new}
use Rattle.tclocks.specs.NumberTurns.{numbers_of}
use Rattle.tagents.specs.Groups.{grouped}
use Rattle.tprocesses.specs.Certified.{machine_of}
use Rattle.tfollow.specs.Modes.{accesses_in, mode_at}
use Rattle.tfollow.specs.Following.{number_by}
use Rattle.tfollow.proofs.laws.new_steps_are_unknown.Goals as goal

pub returns : goal.returns
returns c plan places group agents steps check state f =
    none-new (grouped (machine_of plan) (number_by group)) (accesses_in plan) (numbers_of places mode_at) f.entries
    f.seen.seen.table f.writers check f.seen.seen.follows
