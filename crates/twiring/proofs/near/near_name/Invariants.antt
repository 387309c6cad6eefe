use Rattle.std.proofs.Common.{◌≡◌, drop, map}
use Rattle.twiring.specs.NearKeys.{near_name}
use Rattle.twiring.proofs.near.near_name.Given as goal

-- the names from this one on decide
abbrev pub invariant-loop-name : goal.invariant-loop-name
invariant-loop-name l =
    near_name l.key (map (λ name. name.now) l.names)
    ≡ near_name l.key (map (λ name. name.now) (drop l.name-index l.names))
