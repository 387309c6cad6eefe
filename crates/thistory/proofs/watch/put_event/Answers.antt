use Rattle.std.proofs.Common.{sym, refl, arith}
use Rattle.std.proofs.lemmas.Bool.{ne_eqb}
use Rattle.tfiles.proofs.Told.{tells_as, tells_none}
use Rattle.thistory.proofs.watch.put_event.Goals as goal

pub returns-then-event-place-clause-text : goal.returns-then-event-place-clause-text
returns-then-event-place-clause-text g c =
    tells_as (tells_none c.args.out.now)
    (rw (ne_eqb c.args.event.node c.args.place.now.node (λ e. omega (arith, e))) refl)
