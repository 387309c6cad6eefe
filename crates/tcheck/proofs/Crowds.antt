-- A plan that is not crowded.
use Rattle.std.proofs.Common.{◌≡◌, ◌≤◌, length, false}
use Rattle.std.specs.Prelude.{nat_lt}
use Rattle.std.proofs.lemmas.Bool.{or_parts, ltb-false}
use Rattle.tplan.specs.declared.plan.Plan.{Plan}
use Rattle.tnet.specs.Building.{node_count}
use Rattle.tcheck.specs.Wrongs.{is_crowded}

-- it has few nodes, sources and sinks, and few wires
pub few_of : (p : Plan) → is_crowded p ≡ false → (node_count p ≤ 64) × (length p.wires ≤ 128)
few_of p h =
    let both : (nat_lt 64 (node_count p) ≡ false) × (nat_lt 128 (length p.wires) ≡ false) = or_parts _ _ h in
    (ltb-false 64 (node_count p) both.0, ltb-false 128 (length p.wires) both.1)
