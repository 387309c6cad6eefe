-- What the code finds of a guard before it disables it.
-- Source: own choice, words for contracts.
use Rattle.std.specs.Prelude.{◌≡◌, ◌<◌, Bool, true, false, None, Result, OnErr}
use Rattle.tword.specs.declared.breaks.Break.{Break}
use Rattle.tword.specs.Stores.{Store, with_word}
use Rattle.tword.specs.Words.{word_below}
use Rattle.tword.specs.Actions.{Action, run_from, ◌>>=◌}
use Rattle.tcpu.specs.declared.registers.Registers.{Registers}
use Rattle.tcpu.specs.Outcomes.{all_to}
use Rattle.tproc.specs.Machine.{Control}
use Rattle.tproc.specs.Queues.{not_process, state_word}
use Rattle.tproc.specs.Channels.{StepAction, goes_on}
use Rattle.tproc.specs.LinkChannels.{link_end, with_link}
use Rattle.tproc.specs.Doing.{Begins, onward, with_control}
use Rattle.tproc.specs.Requests.{MayWriteWord}
use Rattle.tproc.specs.declared.claimed_memory.ClaimedMemory.{ClaimedMemory}
use Rattle.tproc.specs.declared.engine.Engine.{Engine}
use Rattle.tproc.specs.declared.guards.Guard.{Guard}
use Rattle.tproc.specs.declared.guards.Guard.TheVariants.{Link, Enabled, Ready}

-- the control once a guard is disabled
abbrev pub control_after : Guard → Control → Control
control_after (Link l noticed) m = with_link l (record (link_end m l) { remembered = None }) m
control_after _ m = m

-- the store once a guard is disabled
abbrev pub store_after : Guard → Store → Store
store_after (Enabled channel) cells = with_word cells channel not_process
store_after _ cells = cells

-- whether a guard that is disabled was ready
abbrev pub ready_as : Guard → Bool
ready_as (Link l noticed) = noticed
ready_as Ready = true
ready_as _ = false

-- a guard may be disabled: its link is there, or its channel word may be written
abbrev pub MayDisable : ClaimedMemory → Guard → Type 0
MayDisable claimed (Link l noticed) = l < 4
MayDisable claimed (Enabled channel) = MayWriteWord claimed channel
MayDisable claimed _ = Unit {0}

-- a channel may be enabled: the state word of the process that runs may be written
abbrev pub MayEnable : Engine → Type 0
MayEnable engine = MayWriteWord engine.claimed (word_below engine.state.registers.wptr state_word)

-- a channel is enabled with which a step goes on, or the break is named and nothing is changed
pub record Enables (x : Action Control) (old : Engine) (result : Result (Unit {0}) Break) (new : Engine) : Type 0 where
  pub begins : Begins x old.claimed (with_control result new.state) new.claimed
  pub kept : OnErr result ((new.claimed.memory.bytes ≡ old.claimed.memory.bytes) × (new.state ≡ old.state))

-- a guard is enabled, and kept
abbrev pub kept_after : Action Control → Registers → StepAction
kept_after x r = x >>= (λ m. goes_on (all_to r.a r) m)

-- a channel would be disabled as this guard is, or the break is named
abbrev pub Disables : Action (Control × Bool) → Engine → Result Guard Break → Type 0
Disables x engine result =
    (f : Control × Bool → StepAction)
    → run_from (x >>= f) engine.claimed.memory.bytes engine.claimed.marks engine.claimed.memory.bytes
    ≡ onward result
    (λ g. run_from (f (control_after g engine.state, ready_as g)) engine.claimed.memory.bytes engine.claimed.marks
    (store_after g engine.claimed.memory.bytes))
