-- Where a process stands.
-- Source: own choice.
use Rattle.tagents.specs.WalkAccesses.{Changes}
use Rattle.tprocesses.specs.Places.{Name}
use Rattle.tprocesses.specs.Places as place
use Rattle.tprocesses.specs.Values as value
use Rattle.tprocesses.specs.Changes.{Puts}
use Rattle.tcertify.specs.declared.standing.Stand.{Stand}
use Rattle.tcertify.specs.declared.standing.Stand.TheVariants as stand
use Rattle.tcertify.specs.Contexts.{context_of}
use Rattle.tcertify.specs.Walked.{Accessed}

-- where a process stands
abbrev pub stand_of : Stand → value.Stand
stand_of stand.Absent = value.Absent
stand_of (stand.Rests c) = value.Rests (context_of c)
stand_of (stand.Runs c) = value.Runs (context_of c)
stand_of (stand.Waits c) = value.Waits (context_of c)
stand_of (stand.Chooses c) = value.Chooses (context_of c)
stand_of (stand.Chosen c) = value.Chosen (context_of c)
stand_of (stand.Listens channel c) = value.Listens channel (context_of c)
stand_of stand.Ended = value.Ended

-- the put of where the process stands
abbrev pub stand_put : Name → Accessed
stand_put x = record { place = place.Standing x; mode = Changes Puts }
