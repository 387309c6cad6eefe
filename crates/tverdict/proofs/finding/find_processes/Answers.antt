use Rattle.std.proofs.Common.{◌∙◌}
use Rattle.tverdict.specs.declared.agent.Agent.TheVariants.{Process}
use Rattle.tverdict.proofs.FoundAgents.{one_found}
use Rattle.tverdict.proofs.finding.find_processes.Goals as goal

pub loop-process-preserved : goal.loop-process-preserved
loop-process-preserved c =
    c.in_ok-push.ensures.items
    ∙ one_found (Process c.args.node) c.args.agents.now.items c.loop-process.agents.items c.loop-process.process
    c.loop-process.invariant
