-- Which fault of a plan something wrong with it is.
-- Source: own choice; the faults of a plan are said in `tnet`, `specs/Building`.
use Rattle.std.specs.Prelude.{ℕ, ◌+◌, ◌≡◌, length, Any, Option, Some, None, Err}
use Rattle.tplan.specs.declared.plan.Plan.{Plan}
use Rattle.tplan.specs.declared.plan.BuildFault.{BuildFault}
use Rattle.tplan.specs.declared.plan.BuildFault.TheVariants as fault
use Rattle.tnet.specs.Building.{built}
use Rattle.tcheck.specs.declared.flaws.Place.{Place}
use Rattle.tcheck.specs.declared.flaws.Place.TheVariants as place
use Rattle.tcheck.specs.declared.flaws.Plenty.TheVariants as plenty
use Rattle.tcheck.specs.declared.flaws.Flaw.{Flaw}
use Rattle.tcheck.specs.declared.flaws.Flaw.TheVariants as flaw
use Rattle.tcheck.specs.declared.flaws.Wrong.{Wrong}
use Rattle.tcheck.specs.Wrongs.{plan_wrongs}

-- the number of a place among those of its kind
abbrev pub number_of : Place → ℕ
number_of place.Net = 0
number_of (place.Node n) = n
number_of (place.Wire n) = n
number_of (place.Source n) = n
number_of (place.Sink n) = n
number_of (place.Hold n) = n

-- the number of a place where the wires of a plan are counted first, then its sources, then its sinks
abbrev pub number_in : Plan → Place → ℕ
number_in p (place.Source n) = length p.wires + n
number_in p (place.Sink n) = length p.wires + (length p.sources + n)
number_in p at = number_of at

-- the fault of a plan that something wrong at a place is. What is wrong with a file or a hold is no fault of a plan
abbrev pub fault_at : Plan → Place → Flaw → Option BuildFault
fault_at p at flaw.TooManyNodes = Some fault.TooMany
fault_at p at (flaw.TooMany plenty.Holds n) = None
fault_at p at (flaw.TooMany what n) = Some fault.TooMany
fault_at p at (flaw.BadTimeslice t) = Some fault.BadTimeslice
fault_at p at flaw.NoFile = None
fault_at p at (flaw.BadImage f) = None
fault_at p at (flaw.BadSize memory kind) = Some (fault.BadSize (number_of at))
fault_at p at (flaw.BadSegment segment address size memory) = Some (fault.BadSegment (number_of at) segment)
fault_at p at (flaw.BadProcess process descriptor b) = Some (fault.BadProcess (number_of at) process b)
fault_at p at (flaw.BadMessage message size) = Some fault.TooMany
fault_at p at (flaw.BadEnd e) = Some (fault.BadEnd (number_in p at))
fault_at p at (flaw.SameEnd e) = Some (fault.SameEnd (number_of at))
fault_at p at (flaw.SharedEnd e earlier) = Some (fault.EndTwice (number_in p at))
fault_at p at (flaw.BadCapacity c) = Some (fault.BadCapacity (number_of at))
fault_at p at (flaw.NoWire e) = None
fault_at p at (flaw.EndsEarly from until) = None

-- something wrong with a plan is this fault
abbrev pub IsFault : Plan → BuildFault → Wrong → Type 0
IsFault p f w = fault_at p w.place w.flaw ≡ Some f

-- where a plan gives no net, the fault that is told is one of those that are found
abbrev pub FaultIsFound : Type 0
FaultIsFound = (p : Plan) (f : BuildFault) → built p ≡ Err f → Any (IsFault p f) (plan_wrongs p)
