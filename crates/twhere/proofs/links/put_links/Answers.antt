use Rattle.std.proofs.Common.{ap}
use Rattle.tnet.specs.declared.inbox.Inbox.{Inbox}
use Rattle.tfiles.proofs.Told.{tells_as, tells_none, tells_then}
use Rattle.twhere.specs.Standing.{link_facts}
use Rattle.twhere.proofs.links.put_links.Goals as goal

pub returns : goal.returns
returns g c =
    tells_then
    (tells_as c.put_link.ensures (ap (λ (b : Inbox). link_facts c.args.node.now b 0) c.inbox.ensures))
    (tells_then
    (tells_as c.put_link-2.ensures (ap (λ (b : Inbox). link_facts c.args.node.now b 1) c.inbox-2.ensures))
    (tells_then
    (tells_as c.put_link-3.ensures (ap (λ (b : Inbox). link_facts c.args.node.now b 2) c.inbox-3.ensures))
    (tells_then
    (tells_as c.put_link-4.ensures (ap (λ (b : Inbox). link_facts c.args.node.now b 3) c.inbox-4.ensures))
    (tells_none c.put_link-4.new.out))))
