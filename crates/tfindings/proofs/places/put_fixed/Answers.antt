use Rattle.std.proofs.Common.{ap, sym, ℕ}
use Rattle.tfindings.specs.Places.{fixed_at, place_text}
use Rattle.tfiles.proofs.Told.{tells_then, tells_as}
use Rattle.tfindings.proofs.places.put_fixed.Goals as goal

pub returns-in-2 : goal.returns-in-2
returns-in-2 g c =
    tells_as (tells_then c.put_node.ensures c.put.ensures)
    (ap (λ (k : ℕ). place_text (fixed_at c.args.node k)) (sym c.in-2.is))

pub returns-in-3 : goal.returns-in-3
returns-in-3 g c =
    tells_as (tells_then c.put_node-in-3.ensures c.put-in-3.ensures)
    (ap (λ (k : ℕ). place_text (fixed_at c.args.node k)) (sym c.in-3.is))
