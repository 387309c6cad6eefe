-- A step of the process machine told as a run: the walk of the machine of walkers does what the run does.
-- Source: own choice.
use Rattle.std.specs.Prelude.{◌≡◌, All, Contains, List, [], ◌∷◌, map, Option, Some, None, Result, Ok, Err}
use Rattle.tplan.specs.declared.plan.Plan.{Plan}
use Rattle.tagents.specs.Tables.{Access}
use Rattle.tagents.specs.WalkAccesses.{Mode, Looks, Changes}
use Rattle.tagents.specs.Walks.{deed_of, sights_of, state_after}
use Rattle.tprocesses.specs.Places.{Place}
use Rattle.tprocesses.specs.Changes.{Change, ChangeKind, kind_of}
use Rattle.tprocesses.specs.Parts.{Reason, Part, gives, stopping, seeing, changing, telling, Doing, Changed, walk_of}
use Rattle.tprocesses.specs.Machine.{process_machine}
use Rattle.tcertify.specs.Running.{State, changed, run_part}

-- why a part stopped, if it did
abbrev pub stop_of : {A : Type 0} → Result A Reason → Option Reason
stop_of (Ok x) = None
stop_of (Err why) = Some why

-- the places that a part looks at, in order
abbrev pub looks : {A : Type 0} → Part A → State → List Place
looks (gives x) s = []
looks (stopping why) s = []
looks (seeing p next) s = p ∷ looks (next (s p)) s
looks (changing p c next) s = looks next (changed p c s)
looks (telling m next) s = looks next s

-- the changes that it makes, in order
abbrev pub changes : {A : Type 0} → Part A → State → List Changed
changes (gives x) s = []
changes (stopping why) s = []
changes (seeing p next) s = changes (next (s p)) s
changes (changing p c next) s = record { place = p; change = c } ∷ changes next (changed p c s)
changes (telling m next) s = changes next s

-- an access of a part to a place
abbrev pub Accessed : Type 0
Accessed = Access Place (Mode ChangeKind)

abbrev pub look_at : Place → Accessed
look_at p = record { place = p; mode = Looks }

abbrev pub change_at : Place → Change → Accessed
change_at p c = record { place = p; mode = Changes (kind_of c) }

-- the accesses of a part, in order
abbrev pub accesses : {A : Type 0} → Part A → State → List Accessed
accesses (gives x) s = []
accesses (stopping why) s = []
accesses (seeing p next) s = look_at p ∷ accesses (next (s p)) s
accesses (changing p c next) s = change_at p c ∷ accesses next (changed p c s)
accesses (telling m next) s = accesses next s

-- each look, and each change, is among the accesses
abbrev pub LooksAreTold : {A : Type 0} → Part A → State → Type 0
LooksAreTold step s = All (λ p. Contains (accesses step s) (look_at p)) (looks step s)

abbrev pub ChangesAreTold : {A : Type 0} → Part A → State → Type 0
ChangesAreTold step s = All (λ x. Contains (accesses step s) (change_at x.place x.change)) (changes step s)

-- the walk of a step looks where its run looks, makes the changes that it makes, leaves what it leaves and stops for
-- what stops it; each look and each change of the run is among its accesses
pub record IsWalkedAsRun (plan : Plan) (step : Doing) (s : State) : Type 0 where
  pub looks : map (λ x. x.place) (sights_of (walk_of step) s) ≡ looks step s
  pub changes : (deed_of (walk_of step) s).changes ≡ changes step s
  pub state : state_after (process_machine plan) (deed_of (walk_of step) s) s
      ≡ (run_part step s).1
  pub stops : (deed_of (walk_of step) s).stops ≡ stop_of (run_part step s).0
  pub looks_told : LooksAreTold step s
  pub changes_told : ChangesAreTold step s

-- so does each step of each plan's machine
abbrev pub StepsAreRun : Type 0
StepsAreRun = (plan : Plan) (step : Doing) (s : State) → IsWalkedAsRun plan step s
