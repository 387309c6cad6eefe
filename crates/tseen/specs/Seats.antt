-- Where the live processes of a processor are: each has a seat.
-- Source: own choice.
use Rattle.std.specs.Prelude.{ℕ, Bool, is_some}
use Rattle.tproc.specs.Machine.{Control}
use Rattle.tproc.specs.ProcessStatus.{is_queued, reason_of}

-- a seat. A process that is queued or waits is told by its descriptor
pub data Seat : Type 0 where
  Current : Seat
  Interrupted : Seat
  Queued : (process : ℕ) → Seat
  Waiting : (process : ℕ) → Seat

-- there is a process at the seat
abbrev pub is_taken : Control → Seat → Bool
is_taken m Current = is_some m.current
is_taken m Interrupted = is_some m.interrupted
is_taken m (Queued process) = is_queued m process
is_taken m (Waiting process) = is_some (reason_of m process)
