use Rattle.std.proofs.Common.{◌≡◌, ap₂, Option}
use Rattle.tproc.specs.declared.offer.Offer.{Offer}
use Rattle.tlink.specs.declared.counts.Counts.{Counts}
use Rattle.tlink.specs.Node.{input_at}
use Rattle.tfiles.proofs.Told.{tells_as, tells_then}
use Rattle.twhere.specs.Standing.{offer_text}
use Rattle.twhere.proofs.waiting.put_link_input.Goals as goal

pub returns : goal.returns
returns g c =
    let offer : c.pending_in.result ≡ input_at c.args.at.now.node.now c.args.link = (cc) in
    tells_then c.put_wait_at.ensures
    (tells_as c.put_offer.ensures
    (ap₂ (λ (o : Option Offer) (n : Counts). offer_text o n.got) offer c.counts.ensures))
