use Rattle.std.proofs.Common.{ap, decimal, List}
use Rattle.tcertify.specs.declared.node.Node.{Node}
use Rattle.tverdict.specs.Agents.{agent_of}
use Rattle.tfiles.proofs.Told.{tells_then, tells_as}
use Rattle.tfindings.specs.Agents.{agent_text}
use Rattle.tfindings.proofs.telling.put_made.Goals as goal

pub returns : goal.returns
returns g c =
    tells_then (tells_as c.put_agent.ensures
    (ap (λ (ns : List Node). agent_text (agent_of ns c.args.made.now.agent)) c.as_slice.ensures.value))
    (tells_then c.put.ensures
    (tells_then (tells_as c.put_decimal.ensures (ap decimal c.from.ensures)) c.put_code.ensures))
