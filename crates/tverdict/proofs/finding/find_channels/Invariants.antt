use Rattle.std.proofs.Common.{◌≡◌, ◌++◌, map}
use Rattle.std.specs.List.{range_with_len}
use Rattle.tverdict.specs.declared.agent.Agent.TheVariants.{Channel}
use Rattle.tverdict.proofs.finding.find_channels.Given as goal

abbrev pub invariant-loop-channel : goal.invariant-loop-channel
invariant-loop-channel l = l.agents.items ≡ l.fn.agents.items ++ map (Channel l.node) (range_with_len 0 l.channel)
