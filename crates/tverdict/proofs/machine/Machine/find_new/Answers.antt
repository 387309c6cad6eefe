use Rattle.std.proofs.Common.{◌<◌, arith, length, subst, List}
use Rattle.std.proofs.lemmas.Option.{slice_get_within}
use Rattle.tcertify.specs.declared.node.Node.{Node}
use Rattle.tverdict.specs.declared.agent.Agent.TheVariants as agent
use Rattle.tverdict.specs.Agents.{HasProcess}
use Rattle.tverdict.proofs.Keeping.{met_more}
use Rattle.tverdict.proofs.machine.Machine.find_new.Goals as goal

pub find_channels-requires-clause-told : goal.find_channels-requires-clause-told
find_channels-requires-clause-told c =
    let (plan, at, among, t) = c.requires in
    (plan, at, among, c.in_ok-find_processes.ensures.keeps.told plan at among t)

pub returns-in_ok-find_channels-clause-processes : goal.returns-in_ok-find_channels-clause-processes
returns-in_ok-find_channels-clause-processes c = λ k low has.
    let more = c.in_ok-find_channels.ensures.keeps.more in
    met_more c.find_processes.new.self c.find_channels.new.self more (agent.Process c.args.node k)
    (c.in_ok-find_processes.ensures.found k low
    (subst (λ (ns : List Node). HasProcess ns c.args.node k) more.nodes has))

pub returns-else-node-len-clause-processes : goal.returns-else-node-len-clause-processes
returns-else-node-len-clause-processes c = λ k low has.
    let within : c.args.node < length c.args.self.now.nodes.items =
    slice_get_within c.args.self.now.nodes.items c.args.node has.0 has.1 in
    absurd (omega (arith, within, c.if-node-len.false, c.len.ensures))

pub returns-else-node-len-clause-channels : goal.returns-else-node-len-clause-channels
returns-else-node-len-clause-channels c = λ k low has.
    let within : c.args.node < length c.args.self.now.nodes.items =
    slice_get_within c.args.self.now.nodes.items c.args.node has.0 has.1 in
    absurd (omega (arith, within, c.if-node-len.false, c.len.ensures))
