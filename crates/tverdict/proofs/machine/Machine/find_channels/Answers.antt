use Rattle.std.proofs.Common.{◌≡◌, ◌<◌, ◌∙◌, arith, length, refl, subst, sym, List}
use Rattle.std.proofs.lemmas.Option.{same_Some, slice_get_read}
use Rattle.tcertify.specs.declared.node.Node.{Node}
use Rattle.tverdict.specs.declared.agent.Agent.TheVariants as agent
use Rattle.tverdict.specs.Agents.{HasChannel}
use Rattle.tverdict.proofs.Keeping.{found_still, is_met, keeps_twice, met_next, told_met}
use Rattle.tverdict.proofs.machine.Machine.find_channels.Goals as goal

pub loop-channel-preserved : goal.loop-channel-preserved
loop-channel-preserved c =
    let m = c.args.self.now in let before = c.loop-channel.self in let after = c.meet.new.self in
    let n = c.args.node in let k = c.in-Ok.channel in let at = c.index.result.now in
    let e : k ≡ c.loop-channel.channel = c.in-Ok.ensures.1 in
    let has : HasChannel m.nodes.items n k = (
      at,
      slice_get_read m.nodes.items (length m.nodes.items) n at refl c.requires.node
          c.index.ensures,
      omega (arith, e, c.loop-channel-test.true, c.len-channel-end.ensures),
    ) in
    let meets = c.in_ok-meet.ensures in
    let met = told_met before after (agent.Channel n k) meets c.args.number n
    (subst (λ (ns : List Node). HasChannel ns n k) (sym c.loop-channel.invariant.keeps.more.nodes) has) in
    record {
      keeps = keeps_twice c.args.number n m before after c.loop-channel.invariant.keeps met;
      found = met_next (agent.Channel n) c.args.first c.loop-channel.channel k before after e met.more
          c.loop-channel.invariant.found (is_met before after (agent.Channel n k) meets);
    }

pub returns-clause-found : goal.returns-clause-found
returns-clause-found c = λ k low has.
    let m = c.args.self.now in let n = c.args.node in let at = c.index.result.now in
    let last = c.loop-channel.self in
    let there = slice_get_read m.nodes.items (length m.nodes.items) n at refl
    c.requires.node c.index.ensures in
    let (x, by, within) = subst (λ (ns : List Node). HasChannel ns n k) c.loop-channel.invariant.keeps.more.nodes has in
    let high : k < length at.channels.items.items =
    subst (λ (a : Node). k < length a.channels.items.items) (same_Some x at (sym by ∙ there)) within in
    found_still last.nodes.items last.agents.items (agent.Channel n k) (λ none. none)
    (c.loop-channel.invariant.found k low (omega (arith, high, c.len-channel-end.ensures, c.loop-channel-test.false)))
