-- Requests, what must hold before a touch, and where a process stands, as the machine sees them.
-- Source: own choice, words for contracts.
use Rattle.std.specs.Prelude.{◌≡◌, ℕ, length, Bool, ◌||◌, ◌==◌, Option, Some, None, IfSome}
use Rattle.tword.specs.Words.{word_below}
use Rattle.tword.specs.Claims.{saving}
use Rattle.tword.specs.Touches.{Mode, Writes, span_break, word_break, deschedule_break}
use Rattle.tproc.specs.Channels as channels
use Rattle.tproc.specs.LinkChannels.{message}
use Rattle.tcpu.specs.Outcomes.{pop}
use Rattle.tproc.specs.Machine.{Control}
use Rattle.tproc.specs.Agreement.{IsOwn}
use Rattle.tproc.specs.declared.claimed_memory.ClaimedMemory.{ClaimedMemory}
use Rattle.tproc.specs.declared.engine.Engine.{Engine}
use Rattle.tproc.specs.declared.waiter.Reason.{Reason}
use Rattle.tproc.specs.declared.channels.Side.TheVariants.{Output}
use Rattle.tproc.specs.declared.channels.Request.{Request}
use Rattle.tproc.specs.declared.process_status.ProcessStatus.{ProcessStatus}
use Rattle.tproc.specs.declared.process_status.ProcessStatus.TheVariants.{Waits, Queued}

-- the word at an address may be written
abbrev pub MayWriteWord : ClaimedMemory → (address : ℕ) → Type 0
MayWriteWord claimed address = word_break (length claimed.memory.bytes) claimed.marks Writes address ≡ None

-- some bytes may be touched
abbrev pub MayTouch : ClaimedMemory → Mode → (start size : ℕ) → Type 0
MayTouch claimed mode start size =
    span_break (length claimed.memory.bytes) claimed.marks mode (record { start = start; size = size }) ≡ None

-- the words below a workspace may be saved
abbrev pub MayDeschedule : ClaimedMemory → (workspace : ℕ) → Type 0
MayDeschedule claimed workspace = deschedule_break (length claimed.memory.bytes) claimed.marks workspace ≡ None

-- a request, without the registers that go on and the word that is stored
abbrev pub request : Request → channels.Request
request q = record {
  process = q.process;
  side = q.side;
  channel = q.channel;
  buffer = q.buffer;
  length = q.length;
}

-- the first word, if there is one, may be stored at the workspace of the process that asks
abbrev pub MayLay : ClaimedMemory → (workspace : ℕ) (first : Option ℕ) → Type 0
MayLay claimed workspace first = IfSome first (λ _. MayWriteWord claimed workspace)

-- a request of the process that runs, whose first word may be stored
pub record IsRequest (q : Request) (engine : Engine) : Type 0 where
  pub own : IsOwn q.process engine.state
  pub free : MayLay engine.claimed engine.state.registers.wptr q.first

-- what the checks of a process found that leaves its side of a message at a channel
pub record MayLeave (claimed : ClaimedMemory) (workspace : ℕ) (q : channels.Request) : Type 0 where
  pub workspace_free : MayDeschedule claimed workspace
  pub channel_free : word_break (length claimed.memory.bytes) (saving workspace claimed.marks) Writes q.channel ≡ None
  pub buffer_free : span_break (length claimed.memory.bytes) (saving workspace claimed.marks) (channels.mode_of q.side)
      (record { start = q.buffer; size = q.length }) ≡ None

-- the address is that of a saved word of the workspace
abbrev pub is_own_word : (workspace address : ℕ) → Bool
is_own_word w address = (address == word_below w 1) || (address == word_below w 2) || (address == word_below w 3)

-- a message that was stored at the workspace is offered
abbrev pub offers_at_workspace : ℕ → ℕ → Control → channels.StepAction
offers_at_workspace length process m =
    let r = m.registers in
    message (pop (pop r))
    (record { process = process; side = Output; channel = r.b; buffer = r.wptr; length = length }) m

-- what a process waits for, if it is found to wait
abbrev pub reason_in : ProcessStatus → Option Reason
reason_in (Waits reason) = Some reason
reason_in _ = None

-- a fact, if a process is found in its queue
abbrev pub IfQueued : ProcessStatus → Type 0 → Type 0
IfQueued Queued fact = fact
IfQueued _ fact = Unit {0}
