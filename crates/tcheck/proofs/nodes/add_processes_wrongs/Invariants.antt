use Rattle.std.proofs.Common.{◌≡◌, ◌++◌, drop}
use Rattle.tcheck.specs.Wrongs.{process_wrongs}
use Rattle.tcheck.proofs.nodes.add_processes_wrongs.Given as goal

-- what was found, and what is left
abbrev pub invariant-loop-number : goal.invariant-loop-number
invariant-loop-number l =
    l.found.items ++ process_wrongs l.node l.number (drop l.number l.processes) l.processor
    ≡ l.initial.found.items ++ process_wrongs l.node 0 l.processes l.initial.processor
