use Rattle.std.proofs.Common.{sym, ap, decimal, Bool}
use Rattle.tfiles.proofs.Told.{tells_as, tells_none, tells_then}
use Rattle.twhere.specs.Standing.{output_fact}
use Rattle.twhere.proofs.links.put_output.Goals as goal

pub returns-then-is_pending : goal.returns-then-is_pending
returns-then-is_pending g c =
    tells_as
    (tells_then c.put_name.ensures
    (tells_then
    (tells_then c.put.ensures
    (tells_then (tells_as c.put_decimal.ensures (ap decimal c.from.ensures))
    (tells_then c.put-then-is_pending.ensures
    (tells_as c.put_decimal-then-is_pending.ensures (ap decimal c.from-then-is_pending.ensures)))))
    c.put-then-is_pending-2.ensures))
    (ap (λ (p : Bool). output_fact c.args.link p c.args.counts) (sym c.if-is_pending.true))

pub returns-else-is_pending : goal.returns-else-is_pending
returns-else-is_pending g c =
    tells_as (tells_none c.args.out.now)
    (ap (λ (p : Bool). output_fact c.args.link p c.args.counts) (sym c.if-is_pending.false))
