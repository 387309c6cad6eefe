use Rattle.std.proofs.Common.{◌∙◌}
use Rattle.tverdict.specs.declared.agent.Agent.TheVariants.{Channel}
use Rattle.tverdict.proofs.FoundAgents.{one_found}
use Rattle.tverdict.proofs.finding.find_channels.Goals as goal

pub loop-channel-preserved : goal.loop-channel-preserved
loop-channel-preserved c =
    c.in_ok-push.ensures.items
    ∙ one_found (Channel c.args.node) c.args.agents.now.items c.loop-channel.agents.items c.loop-channel.channel
    c.loop-channel.invariant
