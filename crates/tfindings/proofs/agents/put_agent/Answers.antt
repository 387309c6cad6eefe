use Rattle.std.proofs.Common.{ap, sym, ◌∙◌, ℕ}
use Rattle.tfiles.proofs.Told.{tells_then, tells_as}
use Rattle.tprocesses.specs.Machine as machine
use Rattle.tcertify.specs.declared.channel.Channel.{Channel}
use Rattle.tcertify.specs.declared.process.Process.{Process}
use Rattle.tcertify.specs.Processes.{name_of}
use Rattle.tprocesses.specs.Places.{Name}
use Rattle.twhere.specs.Standing.{word_text}
use Rattle.tverdict.specs.declared.agent.Agent.{Agent}
use Rattle.tverdict.specs.Agents.{agent_of}
use Rattle.tfindings.specs.Agents.{agent_text}
use Rattle.tfindings.proofs.AgentNames.{as_channel, as_process, channel_there, process_there}
use Rattle.tfindings.proofs.agents.put_agent.Goals as goal

pub returns-in-Process : goal.returns-in-Process
returns-in-Process g c =
    tells_as (tells_then c.put_node.ensures (c.put_name.ensures c.in-Process.node))
    (ap (λ (p : Process). agent_text (machine.Process (name_of c.in-Process.node p))) c.index.ensures
    ∙ ap (λ (x : Name). agent_text (machine.Process x))
    (process_there c.args.nodes.now c.in-Process.node c.in-Process.process _ _ c.requires.numbered
    (as_process c.args.nodes.now c.args.agent c.in-Process.node c.in-Process.process c.in-Process.is
    c.requires.there))
    ∙ ap (λ (a : Agent). agent_text (agent_of c.args.nodes.now a)) (sym c.in-Process.is))

pub returns-in-Channel : goal.returns-in-Channel
returns-in-Channel g c =
    tells_as (tells_then c.put_node-in-Channel.ensures c.put_word.ensures)
    (ap (λ (d : Channel). agent_text (machine.Channel c.in-Channel.node d.address)) c.index-in-Channel.ensures
    ∙ ap (λ (w : ℕ). agent_text (machine.Channel c.in-Channel.node w))
    (channel_there c.args.nodes.now c.in-Channel.node c.in-Channel.channel _ _
    (as_channel c.args.nodes.now c.args.agent c.in-Channel.node c.in-Channel.channel c.in-Channel.is
    c.requires.there))
    ∙ ap (λ (a : Agent). agent_text (agent_of c.args.nodes.now a)) (sym c.in-Channel.is))

pub returns-in-Wire : goal.returns-in-Wire
returns-in-Wire g c =
    tells_as (tells_then c.put.ensures c.put_end.ensures)
    (ap (λ (a : Agent). agent_text (agent_of c.args.nodes.now a)) (sym c.in-Wire.is))

pub returns-in-Successor : goal.returns-in-Successor
returns-in-Successor g c =
    tells_as (tells_then c.put_node-in-Successor.ensures
    (tells_as c.put_word-in-Successor.ensures (ap word_text c.new.ensures)))
    (ap (λ (a : Agent). agent_text (agent_of c.args.nodes.now a)) (sym c.in-Successor.is))
