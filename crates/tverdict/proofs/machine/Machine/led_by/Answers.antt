use Rattle.std.proofs.Common.{◌<◌, arith, length, refl}
use Rattle.std.specs.Prelude.{nat_lt}
use Rattle.std.proofs.lemmas.Bool.{ltb-true}
use Rattle.std.proofs.lemmas.Option.{slice_get_read}
use Rattle.tverdict.specs.declared.agent.Agent.TheVariants as agent
use Rattle.tverdict.specs.Agents.{IsThere}
use Rattle.tverdict.proofs.Leads.{if_passes}
use Rattle.tverdict.proofs.machine.Machine.led_by.Goals as goal

pub returns-in-Process-clause-there : goal.returns-in-Process-clause-there
returns-in-Process-clause-there c =
    let nodes = c.args.self.now.nodes.items in let at = c.index-at.result.now in let k = c.in-Process.process in
    if_passes (IsThere nodes) (nat_lt k c.len.result) (agent.Process c.args.node k) c.then_some.result
    c.then_some.ensures (λ passes.
    let low : k < c.len.result = ltb-true k c.len.result passes in (
      at,
      slice_get_read nodes (length nodes) c.args.node at refl c.requires c.index-at.ensures,
      omega (arith, low, c.len.ensures),
    ))

pub returns-in-Channel-clause-there : goal.returns-in-Channel-clause-there
returns-in-Channel-clause-there c =
    let nodes = c.args.self.now.nodes.items in let at = c.index-at.result.now in let k = c.in-Channel.channel in
    if_passes (IsThere nodes) (nat_lt k c.len-in-Channel.result)
    (agent.Channel c.args.node k) c.then_some-in-Channel.result
    c.then_some-in-Channel.ensures (λ passes.
    let low : k < c.len-in-Channel.result = ltb-true k c.len-in-Channel.result passes in (
      at,
      slice_get_read nodes (length nodes) c.args.node at refl c.requires c.index-at.ensures,
      omega (arith, low, c.len-in-Channel.ensures),
    ))

pub returns-in-Count-clause-there : goal.returns-in-Count-clause-there
returns-in-Count-clause-there c =
    let nodes = c.args.self.now.nodes.items in let at = c.index-at.result.now in let k = c.in-Count.word in
    if_passes (IsThere nodes) (nat_lt k c.len-in-Count.result)
    (agent.Successor c.args.node k) c.then_some-in-Count.result
    c.then_some-in-Count.ensures (λ passes.
    let low : k < c.len-in-Count.result = ltb-true k c.len-in-Count.result passes in (
      at,
      slice_get_read nodes (length nodes) c.args.node at refl c.requires c.index-at.ensures,
      omega (arith, low, c.len-in-Count.ensures),
    ))
