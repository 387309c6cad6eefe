-- What a step shows of the processes that it begins and ends.
-- Source: own choice.
use Rattle.std.specs.Prelude.{ℕ, ◌≡◌, ◌≢◌, true, false, List, [], ◌∷◌, Option, Some, None}
use Rattle.tplan.specs.declared.plan.Plan.{Plan}
use Rattle.tagents.specs.Agents.{Does}
use Rattle.tagents.specs.Certificates.{IsReached}
use Rattle.tprocesses.specs.Places.{Place, Name, Standing, Population}
use Rattle.tprocesses.specs.Values.{Value, Ended, stand_in, amount_in}
use Rattle.tprocesses.specs.Parts.{Changed}
use Rattle.tprocesses.specs.Standing.{is_absent}
use Rattle.tprocesses.specs.Machine.{Process}
use Rattle.tprocesses.specs.Opening.{opening_state}
use Rattle.tprocesses.specs.Certified.{ProcessStep, machine_of, begins, ends}

-- the process that stands at a place, or else another one
abbrev pub stood_or : Option Name → Place → Option Name
stood_or other (Standing y) = Some y
stood_or other _ = other

-- the process of the first stand that is changed
abbrev pub first_stood : List Changed → Option Name
first_stood [] = None
first_stood (x ∷ rest) = stood_or (first_stood rest) x.place

-- the process that a step begins or ends
abbrev pub lodger : ProcessStep → Option Name
lodger e = first_stood e.deed.changes

-- what a step at a node shows by the states before and after it
pub record TellsLives (n : ℕ) (e : ProcessStep) (s s' : Place → Value) : Type 0 where
  -- it begins a process if the node has had another number of processes, and else none
  pub beginning : amount_in (s' (Population n)) ≢ amount_in (s (Population n)) → begins n e ≡ true
  pub no_beginning : amount_in (s' (Population n)) ≡ amount_in (s (Population n)) → begins n e ≡ false
  -- it begins the one that was absent and is there
  pub begun : (y : Name) → begins n e ≡ true → is_absent (stand_in (s (Standing y))) ≡ true
      → is_absent (stand_in (s' (Standing y))) ≡ false → lodger e ≡ Some y
  -- it ends its own process if that has ended, and else none
  pub ending : (x : Name) → e.agent ≡ Process x → x.node ≡ n → stand_in (s' (Standing x)) ≡ Ended → ends n e ≡ true
  pub no_ending : ((x : Name) → e.agent ≡ Process x → x.node ≡ n → stand_in (s' (Standing x)) ≢ Ended)
      → ends n e ≡ false
  pub ended : (x : Name) → e.agent ≡ Process x → ends n e ≡ true → lodger e ≡ Some x
  -- it does not do both
  pub one : begins n e ≡ true → ends n e ≡ false

-- the same holds for each step that does not stop, wherever a run leads
abbrev pub StepsTellLives : Type 0
StepsTellLives =
    (p : Plan) (n : ℕ) (s s' : Place → Value) (e : ProcessStep) → IsReached (machine_of p) (opening_state p) s
    → Does (machine_of p) s e s' → (machine_of p).stops e ≡ false → TellsLives n e s s'

-- a process that has ended stays so
abbrev pub EndedStayEnded : Type 0
EndedStayEnded =
    (p : Plan) (s s' : Place → Value) (e : ProcessStep) (x : Name) → Does (machine_of p) s e s'
    → (machine_of p).stops e ≡ false → stand_in (s (Standing x)) ≡ Ended → stand_in (s' (Standing x)) ≡ Ended
