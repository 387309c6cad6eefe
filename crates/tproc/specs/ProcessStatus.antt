-- How a descriptor stands in a node.
-- Source: own choice; silicon keeps no list of processes.
use Rattle.std.specs.Prelude.{ℕ, zero, suc, ◌+◌, List, ◌++◌, map, length, Bool, false, ◌==◌, nat_lt, Option, Some, None}
use Rattle.std.specs.Prelude.{find, option_map, option_to_list, if◌then◌else◌}
use Rattle.std.specs.List.{list_any}
use Rattle.tword.specs.Limits.{most_processes}
use Rattle.tproc.specs.Machine.{Control, priority_of, workspace_of, descheduled}
use Rattle.tproc.specs.declared.waiter.Reason.{Reason}
use Rattle.tproc.specs.declared.process_status.ProcessStatus.{ProcessStatus}
use Rattle.tproc.specs.declared.process_status.ProcessStatus.TheVariants.{Waits, Queued, Runs, Interrupted, Unknown}

-- the workspace is in the list
abbrev pub is_among : ℕ → List ℕ → Bool
is_among workspace list = list_any (λ w. w == workspace) list

-- what a process waits for, if it waits
abbrev pub reason_of : Control → ℕ → Option Reason
reason_of m process = option_map (λ w. w.reason) (find (λ w. w.process == process) m.waiting)

-- the queue of a priority
abbrev pub queue : Control → ℕ → List ℕ
queue m zero = m.high
queue m (suc p) = m.low

-- a process is in the queue of its priority
abbrev pub is_queued : Control → ℕ → Bool
is_queued m process = is_among (workspace_of process) (queue m (priority_of process))

-- the descriptor of the current process
abbrev pub current_process : Control → Option ℕ
current_process m = option_map (λ p. m.registers.wptr + p) m.current

-- the descriptor of the interrupted process
abbrev pub interrupted_process : Control → Option ℕ
interrupted_process m = option_map (λ s. s.registers.wptr + 1) m.interrupted

-- a process is there, and is this one
abbrev pub is_that : Option ℕ → ℕ → Bool
is_that None process = false
is_that (Some p) process = p == process

-- where a descriptor is found that does not wait; a queued one comes first, since the current process may have moved
-- onto its workspace
abbrev pub not_waiting : Control → ℕ → ProcessStatus
not_waiting m process =
    if is_queued m process then Queued
    else if is_that (current_process m) process then Runs
    else if is_that (interrupted_process m) process then Interrupted
    else Unknown

-- what a process waits for, if it waits, else where it is found
abbrev pub status_by : Option Reason → ProcessStatus → ProcessStatus
status_by (Some reason) otherwise = Waits reason
status_by None otherwise = otherwise

-- where a descriptor is found
abbrev pub status : Control → ℕ → ProcessStatus
status m process = status_by (reason_of m process) (not_waiting m process)

-- the workspaces of all live processes
abbrev pub live : Control → List ℕ
live m =
    descheduled m
    ++ (map workspace_of (option_to_list (current_process m))
    ++ map workspace_of (option_to_list (interrupted_process m)))

-- the workspace belongs to a live process
abbrev pub is_live : Control → ℕ → Bool
is_live m workspace = is_among workspace (live m)

-- another process may live
abbrev pub has_room : Control → Bool
has_room m = nat_lt (length (live m)) most_processes
