use Rattle.std.proofs.Common.{ap, true, false}
use Rattle.tproc.specs.declared.channels.Side.TheVariants.{Output}
use Rattle.tprocesses.specs.Machine.{is_due_at}
use Rattle.tcertify.specs.declared.channel.LinkHalf.{LinkHalf}
use Rattle.tcertify.specs.Channels.{link_of}
use Rattle.tcertify.specs.Nodes.{names}
use Rattle.tcertify.proofs.LinkChoices.{not_offered, offers_so}
use Rattle.tcertify.proofs.node.Node.is_offering.Goals as goal

pub returns-in-Offered : goal.returns-in-Offered
returns-in-Offered c =
    let a = c.args.self.now in
    offers_so a c.link_half.new.self c.args.link c.link_half.result true c.link_half.ensures.looks
    (ap (λ (h : LinkHalf). is_due_at Output (link_of (names a) h)) c.in-Offered.is)

pub returns-in_default : goal.returns-in_default
returns-in_default c =
    let a = c.args.self.now in
    offers_so a c.link_half.new.self c.args.link c.link_half.result false c.link_half.ensures.looks
    (not_offered (names a) c.link_half.result c.in_default.not-Offered)
