use Rattle.std.proofs.Common.{◌≡◌, ◌++◌, map}
use Rattle.std.specs.List.{range_with_len}
use Rattle.tverdict.specs.declared.agent.Agent.TheVariants.{Process}
use Rattle.tverdict.proofs.finding.find_processes.Given as goal

abbrev pub invariant-loop-process : goal.invariant-loop-process
invariant-loop-process l = l.agents.items ≡ l.fn.agents.items ++ map (Process l.node) (range_with_len 0 l.process)
