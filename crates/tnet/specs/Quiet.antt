-- The test that no event of a net is enabled.
-- Source: own choice.
use Rattle.std.specs.Prelude.{ℕ, ◌≡◌, zero, suc, Bool, true, not, ◌&&◌, List, length, map}
use Rattle.std.specs.List.{list_all}
use Rattle.tplan.specs.declared.event.Event.{Event}
use Rattle.tnet.specs.Net.{NetState}
use Rattle.tnet.specs.Packets.{all_acts, is_enabled, IsQuiet}
use Rattle.tnet.specs.Sound.{IsSound}

-- all events of a node
abbrev pub node_events : ℕ → List Event
node_events n = map (λ act. record { node = n; act = act }) all_acts

-- no event of the nodes from a number on is enabled
abbrev pub is_quiet_from : NetState → ℕ → ℕ → Bool
is_quiet_from net n zero = true
is_quiet_from net n (suc k) = list_all (λ e. not (is_enabled net e)) (node_events n) && is_quiet_from net (suc n) k

-- no event of a node of the net is enabled
abbrev pub is_quiet : NetState → Bool
is_quiet net = is_quiet_from net 0 (length net.nodes)

-- the test of all events of a net's nodes finds just the nets where no event is enabled
abbrev pub QuietAgrees : Type 0
QuietAgrees = (net : NetState) → IsSound net → (is_quiet net ≡ true → IsQuiet net) × (IsQuiet net → is_quiet net ≡ true)
