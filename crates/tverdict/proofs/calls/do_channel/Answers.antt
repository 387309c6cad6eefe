use Rattle.std.proofs.Common.{subst}
use Rattle.tprocesses.specs.ChannelMessages.{channel_step}
use Rattle.tcertify.specs.declared.node.Node.{Node}
use Rattle.tcertify.specs.Nodes.{Does, address_at, node_site, nothing}
use Rattle.tverdict.proofs.calls.do_channel.Goals as goal

pub returns : goal.returns
returns c =
    let b = c.begin.new.node in let n = c.channel_step.new.self in let r = c.channel_step.result in
    record {
      begun = b;
      afresh = c.begin.ensures.afresh;
      recalls = c.begin.ensures.recalls;
      does = subst (λ (a : Node). Does (channel_step (address_at a c.args.channel) (node_site a)) nothing b r n)
          c.begin.ensures.afresh.same c.channel_step.ensures;
    }
