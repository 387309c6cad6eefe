-- The accesses of walkers, by which a check in one pass finds their races.
-- Source: own choice.
use Rattle.std.specs.Prelude.{◌≡◌, not, Bool, true, false, List, [], ◌++◌, map}
use Rattle.tagents.specs.Agents.{IsRun, IsOver}
use Rattle.tagents.specs.Races.{TakesNothing, with_leads}
use Rattle.tagents.specs.Certificates.{IsTheOnlyRun}
use Rattle.tagents.specs.Clocks.{Entry, labels}
use Rattle.tagents.specs.Tables.{Access, Accesses, ClashesCollide, AreChecked}
use Rattle.tagents.specs.Walks.{Label, Walkers, step_leads, agents_of}
use Rattle.tagents.specs.Tidy.{AreTold, AreTidy}

-- a place is looked at, or changed in some way
pub data Mode (Kind : Type 0) : Type 0 where
  Looks : Mode Kind
  Changes : Kind → Mode Kind

module _ {Agent Place Value Change Kind Deed : Type 0} (w : Walkers Agent Place Value Change Kind Deed) where
  -- a look collides with each change, and two changes do if their order matters
  abbrev pub modes_collide : Mode Kind → Mode Kind → Bool
  modes_collide Looks Looks = false
  modes_collide Looks (Changes k) = true
  modes_collide (Changes k) Looks = true
  modes_collide (Changes j) (Changes k) = not (w.commute j k)

  -- a step looks at what it has seen, and changes what its deed does
  abbrev pub accesses_of_step : Label Agent Place Value Deed → List (Access Place (Mode Kind))
  accesses_of_step e =
      map (λ x. record { place = x.place; mode = Looks }) e.seen
      ++ map (λ x. record { place = x.place; mode = Changes (w.kind_of x.change) }) (w.changes e.deed)

  abbrev pub accesses_of : Accesses Place (Mode Kind) (Label Agent Place Value Deed)
  accesses_of = record { of = accesses_of_step; collide = modes_collide }

-- steps of walkers that clash have accesses that collide
abbrev pub WalkersClashByAccesses : (Agent Place Value Change Kind Deed : Type 0) → Type 0
WalkersClashByAccesses Agent Place Value Change Kind Deed =
    (w : Walkers Agent Place Value Change Kind Deed) → AreTold w → ClashesCollide (agents_of w) (accesses_of w)

-- a run of tidy walkers that is over, with no deed that stops, and that passes the check, is the only run; the check
-- may go by fewer leads than there are
abbrev pub CheckedRunsAreCertificates : (Agent Place Value Change Kind Deed : Type 0) → Type 0
CheckedRunsAreCertificates Agent Place Value Change Kind Deed =
    (w : Walkers Agent Place Value Change Kind Deed) (start end : Place → Value)
    (entries : List (Entry Agent (Label Agent Place Value Deed)))
    (leads : Label Agent Place Value Deed → Label Agent Place Value Deed → Bool) → AreTidy w start
    → IsRun (agents_of w) start (labels entries) end → IsOver (agents_of w) end
    → TakesNothing (agents_of w) (labels entries)
    → ((e f : Label Agent Place Value Deed) → leads e f ≡ true → step_leads w e f ≡ true)
    → AreChecked (with_leads (agents_of w) leads) (accesses_of w) [] (λ p k a. 0) entries
    → IsTheOnlyRun (agents_of w) start (labels entries) end
