use Rattle.std.proofs.Common.{◌≡◌, ◌||◌, drop}
use Rattle.std.specs.List.{list_any}
use Rattle.tendings.specs.Tellings as spec
use Rattle.tendings.proofs.telling.rest_of.Given as goal

-- what was found so far, and what is left to look at
abbrev pub invariant-loop-number : goal.invariant-loop-number
invariant-loop-number l =
    (list_any spec.offers l.state.nodes ≡ (l.offers || list_any spec.offers (drop l.number l.state.nodes)))
    × (list_any spec.waits l.state.nodes ≡ (l.waits || list_any spec.waits (drop l.number l.state.nodes)))
