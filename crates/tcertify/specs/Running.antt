-- What a part of a step does to a state: each change is made at once, and in the end it answers or stops.
-- Source: own choice, the parts of `tprocesses` told as a run.
use Rattle.std.specs.Prelude.{Result, Ok, Err, if◌then◌else◌}
use Rattle.tprocesses.specs.Places.{Place, same_place}
use Rattle.tprocesses.specs.Values.{Value}
use Rattle.tprocesses.specs.Changes.{Change, apply}
use Rattle.tprocesses.specs.Parts.{Reason, Part, gives, stopping, seeing, changing, telling}

-- what stands at each place
abbrev pub State : Type 0
State = Place → Value

-- a state after a change at a place
abbrev pub changed : Place → Change → State → State
changed p c s q = if same_place p q then apply c (s q) else s q

-- what a part answers, or why it stops, and the state that it leaves
abbrev pub run_part : {A : Type 0} → Part A → State → Result A Reason × State
run_part (gives x) s = (Ok x, s)
run_part (stopping why) s = (Err why, s)
run_part (seeing p next) s = run_part (next (s p)) s
run_part (changing p c next) s = run_part next (changed p c s)
run_part (telling m next) s = run_part next s
