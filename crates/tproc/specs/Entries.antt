-- The processes that are queued or wait, as the code keeps them: the ends of each queue, and a table of all, of which
-- some entries are empty.
-- Source: own choice, how the code keeps the processes that are queued or wait.
use Rattle.std.specs.Prelude.{ℕ, zero, suc, ◌≡◌, ◌≢◌, ◌<◌, ◌++◌, ◌∷◌, [], ◌==◌, IsTrue, List, map, length, Bool}
use Rattle.std.specs.Prelude.{true, false}
use Rattle.std.specs.Prelude.{Option, Some, None, AllPairs, IfSome, slice_get, slice_index_or, find, option_map}
use Rattle.std.specs.Prelude.{if◌then◌else◌}
use Rattle.std.specs.List.{filter_map}
use Rattle.tword.specs.Claims.{Claims, has_saved}
use Rattle.tproc.specs.Machine.{Control, workspace_of, priority_of}
use Rattle.tproc.specs.ProcessStatus.{is_among}
use Rattle.tproc.specs.Queues.{last_of}
use Rattle.tproc.specs.declared.waiter.Reason.{Reason}
use Rattle.tproc.specs.declared.waiter.Waiter.{Waiter}
use Rattle.tproc.specs.declared.waiter.Entry.{Entry}
use Rattle.tproc.specs.declared.run_queue.RunQueue.{RunQueue}

-- what is kept of a queue is its length and its two ends
pub record IsQueue (q : List ℕ) (r : RunQueue) : Type 0 where
  pub count : r.count ≡ length q
  pub front : IfSome (slice_get q 0) (λ w. r.front ≡ w)
  pub back : IfSome (last_of q) (λ w. r.back ≡ w)

-- the processes of the entries that are not empty
abbrev pub present : List (Option Entry) → List Entry
present entries = filter_map (λ e. e) entries

-- an entry is that of a process
abbrev pub is_entry_of : ℕ → Option Entry → Bool
is_entry_of process None = false
is_entry_of process (Some e) = e.process == process

-- the entry at this place is that of a process
abbrev pub IsEntryAt : List (Option Entry) → ℕ → ℕ → Type 0
IsEntryAt entries i process = (i < length entries) × IsTrue (is_entry_of process (slice_index_or entries i None))

-- the workspaces of a table
abbrev pub workspaces : List Entry → List ℕ
workspaces table = map (λ e. workspace_of e.process) table

-- no two processes of a table share a workspace
abbrev pub ShareNoWorkspace : List Entry → Type 0
ShareNoWorkspace table = AllPairs (λ v w. v ≢ w) (workspaces table)

-- the words of each of these workspaces are saved
abbrev pub AreAllSaved : Claims → List ℕ → Type 0
AreAllSaved claims ws = (w : ℕ) → is_among w ws ≡ true → has_saved claims w ≡ true

-- the words of each process of a table are saved
abbrev pub AreSavedOf : Claims → List Entry → Type 0
AreSavedOf claims table = AreAllSaved claims (workspaces table)

-- a process of the table with what it waits for, if it waits
abbrev pub waiter_of : Entry → Option Waiter
waiter_of e = option_map (λ r. record { process = e.process; reason = r }) e.reason

-- the workspace of a process, if it is in the queue of a priority; and those of all that a table has there
abbrev pub queued_by : ℕ → ℕ → Option Reason → Option ℕ
queued_by priority process None =
    if priority_of process == priority then Some (workspace_of process) else None
queued_by priority process (Some r) = None

abbrev pub queue_in : ℕ → List Entry → List ℕ
queue_in priority table = filter_map (λ e. queued_by priority e.process e.reason) table

-- the processes of a table that wait
abbrev pub waiting_in : List Entry → List Waiter
waiting_in table = filter_map waiter_of table

-- the two queues, and the processes that wait
pub record Lists : Type 0 where
  pub high : List ℕ
  pub low : List ℕ
  pub waiting : List Waiter

-- the lists of a control
abbrev pub lists_in : Control → Lists
lists_in m = record { high = m.high; low = m.low; waiting = m.waiting }

-- the two queues of a table, and its processes that wait
abbrev pub lists_of : List Entry → Lists
lists_of table =
    record { high = queue_in 0 table; low = queue_in 1 table; waiting = waiting_in table }

-- the workspaces of all that are queued or wait
abbrev pub workspaces_in : Lists → List ℕ
workspaces_in l = l.high ++ l.low ++ map (λ w. workspace_of w.process) l.waiting

-- the queue of a priority
abbrev pub queue_of : Lists → ℕ → List ℕ
queue_of l zero = l.high
queue_of l (suc p) = l.low

-- a process is put at the back of the queue of its priority
abbrev pub queued_at : ℕ → ℕ → Lists → Lists
queued_at workspace zero l = record l { high = l.high ++ workspace ∷ [] }
queued_at workspace (suc p) l = record l { low = l.low ++ workspace ∷ [] }

-- how a process stands in the table: it waits, for a reason; or it is queued
abbrev pub entry_by : ℕ → Option Waiter → Bool → Option Entry
entry_by process (Some w) queued = Some (record { process = process; reason = Some w.reason })
entry_by process None true = Some (record { process = process; reason = None })
entry_by process None false = None

abbrev pub entry_in : Lists → ℕ → Option Entry
entry_in l process =
    entry_by process (find (λ w. w.process == process) l.waiting)
    (is_among (workspace_of process) (queue_of l (priority_of process)))
