-- Bytes of which one has changed, one after another.
use Rattle.std.proofs.Common.{◌≡◌, ℕ, suc, ◌+◌, ◌<◌, ◌≤◌, ap, ap₂, List, length, get_or, drop, add-one, drop-cons}
use Rattle.std.proofs.Common.{Option, false}
use Rattle.std.specs.Prelude.{◌||◌}
use Rattle.std.proofs.Math.ListN.{drop_of_length-le}
use Rattle.std.proofs.lemmas.List.FromFn.{length-map-range_with_len}
use Rattle.tword.specs.Words.{plus}
use Rattle.tnet.specs.Net.{NetState}
use Rattle.thistory.specs.declared.watch.Place.{Place}
use Rattle.thistory.specs.Deeds.{processor_in}
use Rattle.thistory.specs.Watch.{has_changed, is_changed, seen_byte, seen_bytes}

-- from one of them on
pub changed_next : (k : ℕ) (bs cs : List (Option ℕ)) (d e : Option ℕ) → k < length bs → k < length cs
    → has_changed (drop k bs) (drop k cs)
    ≡ (is_changed (get_or bs k d) (get_or cs k e) || has_changed (drop (k + 1) bs) (drop (k + 1) cs))
changed_next k bs cs d e l m =
    rw (add-one k) (ap₂ (λ (xs ys : List (Option ℕ)). has_changed xs ys) (drop-cons bs k d l) (drop-cons cs k e m))

-- behind the last there is none
pub changed_end : (k : ℕ) (bs cs : List (Option ℕ)) → length bs ≤ k → has_changed (drop k bs) cs ≡ false
changed_end k bs cs l = ap (λ (xs : List (Option ℕ)). has_changed xs cs) (drop_of_length-le bs l)

-- there are as many as are looked at
pub seen_length : (net : NetState) (p : Place) → length (seen_bytes net p) ≡ p.length
seen_length net p =
    length-map-range_with_len (λ (i : ℕ). seen_byte (processor_in net p.node) (plus p.address i)) 0 p.length
