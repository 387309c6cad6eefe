-- A process that is not there yet.
use Rattle.std.proofs.Common.{◌≡◌, ℕ, refl, sym, Bool, true, false, true≢false}
use Rattle.tnet.specs.Rendezvous.{Node}
use Rattle.tprocesses.specs.Values.{Value, Stand, Absent, Rests, Runs, Waits, Chooses, Chosen, Listens, IsStand}
use Rattle.tprocesses.specs.Values.{stand_in}
use Rattle.tprocesses.specs.Standing.{is_absent}
use Rattle.tseen.specs.Seats.{Interrupted, Queued, Waiting}
use Rattle.tseen.specs.Processes.{Fits}

-- a process is not there yet
abbrev pub is_missing : Value → Bool
is_missing (IsStand Absent) = true
is_missing _ = false

-- one that is queued or waits is there
pub queued_there : (node : Node) (process : ℕ) (stand : Stand) → Fits node (Queued process) stand
    → is_missing (IsStand stand) ≡ false
queued_there node process (Rests d) f = refl
queued_there node process (Chosen d) f = refl
queued_there node process (Listens channel d) f = refl
queued_there node process _ f = absurd f

pub waiting_there : (node : Node) (process : ℕ) (stand : Stand) → Fits node (Waiting process) stand
    → is_missing (IsStand stand) ≡ false
waiting_there node process (Rests d) f = refl
waiting_there node process (Waits d) f = refl
waiting_there node process (Chooses d) f = refl
waiting_there node process _ f = absurd f

pub interrupted_there : (node : Node) (stand : Stand) → Fits node Interrupted stand → is_missing (IsStand stand) ≡ false
interrupted_there node (Runs d) f = refl
interrupted_there node _ f = absurd f

-- who is absent stands so
pub absent_is : (v : Value) → is_absent (stand_in v) ≡ true → v ≡ IsStand Absent
absent_is (IsStand Absent) h = refl
absent_is (IsStand _) h = absurd (true≢false (sym h))
absent_is _ h = absurd (true≢false (sym h))
