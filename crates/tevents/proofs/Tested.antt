-- All events of a node are tested, and all nodes of a net.
use Rattle.std.proofs.Common.{◌≡◌, ℕ, suc, ◌+◌, ◌-◌, ◌<◌, ◌≤◌, refl, ap, ◌∙◌, Bool, true, false, List, [], ◌∷◌}
use Rattle.std.proofs.Common.{Some, None, arith}
use Rattle.std.specs.Prelude.{not}
use Rattle.std.specs.List.{list_all}
use Rattle.tplan.specs.declared.event.Event.{Event}
use Rattle.tnet.specs.Net.{NetState}
use Rattle.tnet.specs.Packets.{is_enabled, IsQuiet}
use Rattle.tnet.specs.Quiet.{node_events, is_quiet_from, is_quiet}
use Rattle.tnet.specs.Sound.{IsSound}
use Rattle.tnet.proofs.QuietEvents.{quiet_agrees}
use Rattle.tevents.specs.Finding.{first_enabled}

-- where none is found none passes
pub none_enabled : (es : List Event) (net : NetState) → first_enabled es net ≡ None
    → list_all (λ e. not (is_enabled net e)) es ≡ true
none_enabled [] net h = refl
none_enabled (e ∷ es) net h = by (is_enabled net e) refl (none_enabled es net)
  where
    by : (b : Bool) → is_enabled net e ≡ b
        → (first_enabled es net ≡ None → list_all (λ x. not (is_enabled net x)) es ≡ true)
        → list_all (λ x. not (is_enabled net x)) (e ∷ es) ≡ true
    by true is rest = let no : Some e ≡ None = rw is at h in absurd cc
    by false is rest = rw is (rest (rw is at h))

-- one more node of which no event is enabled
pub node_more : (net : NetState) (n k : ℕ) → n < k → list_all (λ e. not (is_enabled net e)) (node_events n) ≡ true
    → is_quiet_from net n (k - n) ≡ is_quiet_from net (n + 1) (k - (n + 1))
node_more net n k below none =
    let e : k - n ≡ suc (k - (n + 1)) = omega (arith, below) in
    let f : n + 1 ≡ suc n = omega arith in
    rw (e, f) (rw none refl)

-- where all nodes were tested, no event is enabled
pub all_tested : (net : NetState) (n k : ℕ) → IsSound net → k ≤ n → is_quiet net ≡ is_quiet_from net n (k - n)
    → IsQuiet net
all_tested net n k sound past h =
    let z : k - n ≡ 0 = omega (arith, past) in
    (quiet_agrees net sound).0 (h ∙ ap (λ (j : ℕ). is_quiet_from net n j) z)
