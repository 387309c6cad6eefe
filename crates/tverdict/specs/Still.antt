-- Steps of a process that goes on: it touches nothing that was not noted before, and leads to nobody.
-- Source: own choice.
use Rattle.std.specs.Prelude.{ℕ, zero, suc, ◌≡◌, ◌≤◌, ◌<◌, ◌+◌, [], Bool, true, false, Option, Some, None, Result, Ok}
use Rattle.std.specs.Prelude.{length, slice_get}
use Rattle.tclocks.specs.Checks.{Check, begun, with_cleared, with_joined}
use Rattle.tplan.specs.declared.plan.Plan.{Plan}
use Rattle.tcertify.specs.declared.fault.Fault.{Fault}
use Rattle.tcertify.specs.declared.node.Node.{Node}
use Rattle.tcertify.specs.declared.process.Process.{Process}
use Rattle.tcertify.specs.declared.standing.Stand.{Stand}
use Rattle.tcertify.specs.declared.standing.Stand.TheVariants as stand
use Rattle.tcertify.specs.Nodes.{name_at, node_site}
use Rattle.tcertify.specs.Steps.{step_of_process}
use Rattle.tcertify.specs.Words.{reason_of}
use Rattle.tverdict.specs.declared.machine.Machine.{Machine}
use Rattle.tverdict.specs.declared.turn.Turn.{Turn}
use Rattle.tverdict.specs.declared.turn.Turn.TheVariants as turn
use Rattle.tverdict.specs.Calls.{DoesAfresh}
use Rattle.tverdict.specs.Machines.{Follows, HasNoStep}
use Rattle.tverdict.specs.Verdicts.{EndsInRace, EndsStopped}

-- a process that stands there has a step of its own node
abbrev pub goes_on : Stand → Bool
goes_on (stand.Runs c) = true
goes_on (stand.Rests c) = true
goes_on s = false

-- the process of this number does
pub record GoesOnAt (node : Node) (k : ℕ) : Type 0 where
  pub known : Process
  pub has : slice_get node.processes.items.items k ≡ Some known
  pub goes : goes_on known.stand ≡ true

-- nothing was noted in the last step of a node and it leads to nobody, it has as many processes and channels and the
-- population as before it, and the process of this number goes on
pub record StaysStill (k processes_before channels_before population_before : ℕ) (node : Node) : Type 0 where
  pub goes : GoesOnAt node k
  pub leads : node.leads.items ≡ []
  pub earlier : node.words.notes.earlier ≡ length node.words.notes.items.items
  pub kept : node.words.notes.is_lost ≡ false
  pub processes : length node.processes.items.items ≡ processes_before
  pub channels : length node.channels.items.items ≡ channels_before
  pub population : node.population ≡ population_before

-- nothing was noted in the last step of a node, and it leads to nobody
pub record IsSettled (node : Node) : Type 0 where
  pub leads : node.leads.items ≡ []
  pub earlier : node.words.notes.earlier ≡ length node.words.notes.items.items
  pub kept : node.words.notes.is_lost ≡ false

-- its step touches nothing that was not noted before and leads to nobody, nobody comes, and it goes on behind it
pub record IsStill (k : ℕ) (old new : Node) : Type 0 where
  pub before : GoesOnAt old k
  pub does : DoesAfresh true (step_of_process (node_site old) (name_at old k)) old (Ok tt) new
  pub stays : StaysStill k (length old.processes.items.items) (length old.channels.items.items) old.population new

-- so many such steps
abbrev pub AreStill : (count k : ℕ) → (old new : Node) → Type 0
AreStill zero k old new = new ≡ old
AreStill (suc count) k old new = (mid : Node) × AreStill count k old mid × IsStill k mid new

-- behind them a step of another kind may have come, which answered this
abbrev pub EndsWith : (k : ℕ) → Option (Result (Unit {0}) Fault) → (mid new : Node) → Type 0
EndsWith k None mid new = new ≡ mid
EndsWith k (Some outcome) mid new =
    GoesOnAt mid k × DoesAfresh true (step_of_process (node_site mid) (name_at mid k)) mid outcome new

-- the check behind so many steps of the agent of this number that are told without an access
abbrev pub still_checked : (count number : ℕ) → Check → Check
still_checked zero number check = check
still_checked (suc count) number check =
    with_cleared number (with_joined number number (begun number (still_checked count number check)))

-- as many steps are told so, and counted
pub record CountsStill (old : Machine) (number count : ℕ) (new : Machine) : Type 0 where
  pub check : new.check ≡ still_checked count number old.check
  pub done : new.done ≡ old.done + count
  pub same : new ≡ record old { check = new.check; done = new.done }

-- what is told where the process that made the last step has gone on at its node is true
abbrev pub HasGone : Plan → Machine → Turn → Machine → Type 0
HasGone plan old (turn.Made number) new = Follows plan new × (old.done ≤ new.done)
HasGone plan old turn.Over new = ⊥
HasGone plan old (turn.Stops number why) new = EndsStopped plan new number (reason_of why)
HasGone plan old (turn.Race race) new = EndsInRace plan new race

-- what is told of a turn and of the steps behind it is true
abbrev pub HasTurned : Plan → Machine → Turn → Machine → Type 0
HasTurned plan old (turn.Made number) new = Follows plan new × (old.done < new.done)
HasTurned plan old turn.Over new = Follows plan new × HasNoStep plan new
HasTurned plan old (turn.Stops number why) new = EndsStopped plan new number (reason_of why)
HasTurned plan old (turn.Race race) new = EndsInRace plan new race
