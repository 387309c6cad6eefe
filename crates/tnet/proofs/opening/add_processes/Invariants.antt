use Rattle.std.proofs.Common.{◌≡◌, drop}
use Rattle.tnet.specs.Building.{added_from, IsUnstarted}
use Rattle.tnet.proofs.opening.add_processes.Given as goal

-- the processes from this one on are left
abbrev pub invariant-loop-place : goal.invariant-loop-place
invariant-loop-place l =
    (added_from 0 l.processes l.initial.processor ≡ added_from l.place (drop l.place l.processes) l.processor)
    × IsUnstarted l.memory l.processor
