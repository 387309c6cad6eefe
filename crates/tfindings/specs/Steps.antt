-- Steps that are told, by a run that is made again.
-- Source: own choice.
use Rattle.std.specs.Prelude.{ℕ, suc, ◌≡◌, ◌≢◌, ◌⊎◌, ◌==◌, ◌++◌, ◌∷◌, [], All, Bool, true, false, List, Option, Some}
use Rattle.std.specs.Prelude.{None, IfSome, count_by, option_and_then, slice_get}
use Rattle.tplan.specs.declared.plan.Plan.{Plan}
use Rattle.tcertify.specs.declared.node.Node.{Node}
use Rattle.tcertify.specs.declared.standing.Stand.{Stand}
use Rattle.tcertify.specs.declared.standing.Stand.TheVariants as stand
use Rattle.tverdict.specs.declared.agent.Agent.{Agent}
use Rattle.tverdict.specs.declared.agent.Agent.TheVariants as agent
use Rattle.tverdict.specs.declared.machine.Machine.{Machine}
use Rattle.tverdict.specs.declared.turn.Turn.{Turn}
use Rattle.tverdict.specs.declared.turn.Turn.TheVariants as turn
use Rattle.tverdict.specs.Machines.{IsAtStart}
use Rattle.tverdict.specs.Turns.{HasMade, IsTurned}
use Rattle.tfindings.specs.declared.finding.Made.{Made}

-- the address of the instruction that a process does next, if it runs
abbrev pub stood_at : Stand → Option ℕ
stood_at (stand.Runs c) = Some c.iptr
stood_at _ = None

-- the same of a process of a node, if there is the process
abbrev pub process_at : List Node → (n k : ℕ) → Option ℕ
process_at nodes n k =
    option_and_then (λ node. option_and_then (λ p. stood_at p.stand) (slice_get node.processes.items.items k))
    (slice_get nodes n)

-- the address at which an agent stands, if it is a process
abbrev pub stands_at : List Node → Agent → Option ℕ
stands_at nodes (agent.Process n k) = process_at nodes n k
stands_at nodes _ = None

-- the same of an agent, if there is one
abbrev pub address_of : List Node → Option Agent → Option ℕ
address_of nodes who = option_and_then (stands_at nodes) who

-- the agent that has a number, if there is one
abbrev pub holder : Machine → (number : ℕ) → Option Agent
holder m number = slice_get m.agents.items number

-- a run goes on after a turn
abbrev pub goes_on : Turn → Bool
goes_on (turn.Made number) = true
goes_on _ = false

-- a step stops at a turn
abbrev pub stops : Turn → Bool
stops (turn.Stops number why) = true
stops _ = false

-- a turn is, or would be, a step of the agent of this number
abbrev pub is_by : Turn → (number : ℕ) → Bool
is_by (turn.Made who) number = who == number
is_by turn.Over number = false
is_by (turn.Stops who why) number = who == number
is_by (turn.Race race) number = race.step.agent == number

-- a step that a run has made: the number of its agent, and the machine before and after it
pub record Past : Type 0 where
  pub number : ℕ
  pub before : Machine
  pub after : Machine

-- a run has made these steps from its start on, the last one first, and they have led to this machine
abbrev pub AreMade : Plan → List Past → Machine → Type 0
AreMade plan [] m = IsAtStart plan m
AreMade plan (s ∷ earlier) m =
    AreMade plan earlier s.before × HasMade plan s.before s.number s.after × (s.after ≡ m)

-- how many of these steps are those of agents that had this number
abbrev pub steps_with : (number : ℕ) → List Past → ℕ
steps_with number past = count_by (λ s. s.number == number) past

-- these steps in two parts, the later ones first: after each of the first part this agent has the number, and after the
-- last step of the other part another one has it, or nobody
pub record ArePartedBy (number : ℕ) (who : Option Agent) (past since earlier : List Past) : Type 0 where
  pub all : past ≡ since ++ earlier
  pub have : All (λ s. holder s.after number ≡ who) since
  pub had : IfSome (slice_get earlier 0) (λ s. holder s.after number ≢ who)

-- so many steps with a number were made before its agent came to have it: as many as were known before a turn, or, if
-- another had it before the turn, or nobody, all that were made with it
abbrev pub AreEarlier : (before after : Option Agent) → (count earlier now : ℕ) → Type 0
AreEarlier before after count earlier now =
    ((before ≡ after) × (now ≡ earlier)) ⊎ ((before ≢ after) × (now ≡ count))

-- the step of a turn is counted so among those with its number; or, if no count is named, it stops
abbrev pub IsCounted : (which : Option ℕ) → (count : ℕ) → Turn → Type 0
IsCounted (Some n) count t = n ≡ count
IsCounted None count t = stops t ≡ true

-- a step is told with its agent: in a run of the plan's process machine that was made again, a turn is a step of the
-- agent with the number `who`, and is counted so among the steps with this number
pub record IsMadeBy (plan : Plan) (who : ℕ) (which : Option ℕ) (made : Made) : Type 0 where
  pub past : List Past
  pub before : Machine
  pub run : AreMade plan past before
  pub turn : Turn
  pub after : Machine
  pub turned : IsTurned plan before turn after
  pub by : is_by turn who ≡ true
  pub counted : IsCounted which (suc (steps_with who past)) turn
  -- the agent has the number after the turn; and it had it before, if anybody did
  pub agent : holder after who ≡ Some made.agent
  pub had : IfSome (holder before who) (λ a. a ≡ made.agent)
  -- the number of the step is its number among those that were made since the agent has this number
  pub since : List Past
  pub earlier : List Past
  pub parted : ArePartedBy who (Some made.agent) past since earlier
  pub number : made.number ≡ suc (steps_with who since)
  -- if code is told, the agent stood there before the turn
  pub code : IfSome made.code (λ c. stands_at before.nodes.items made.agent ≡ Some c.address)
