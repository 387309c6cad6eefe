use Rattle.std.proofs.Common.{sym, ap, decimal, Option}
use Rattle.tproc.specs.declared.offer.Offer.{Offer}
use Rattle.tfiles.proofs.Told.{tells_as, tells_none, tells_then}
use Rattle.twhere.specs.Standing.{offer_text}
use Rattle.twhere.proofs.waiting.put_offer.Goals as goal

pub returns-in-Some : goal.returns-in-Some
returns-in-Some g c =
    tells_as
    (tells_then c.put_message.ensures
    (tells_then c.put.ensures (tells_as c.put_decimal.ensures (ap decimal c.from.ensures))))
    (ap (λ (o : Option Offer). offer_text o c.args.over) (sym c.in-Some.is))

pub returns-in_default : goal.returns-in_default
returns-in_default g c =
    tells_as (tells_none c.args.out.now) (ap (λ (o : Option Offer). offer_text o c.args.over) (sym c.in_default.is))
