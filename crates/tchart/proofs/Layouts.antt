-- The events of a list, laid out one after another.
use Rattle.std.proofs.Common.{◌≡◌, ℕ, ◌+◌, ◌<◌, ◌≤◌, ap, List, length, get_or, drop, add-one, drop-cons}
use Rattle.std.proofs.Math.ListN.{drop_of_length-le}
use Rattle.tplan.specs.declared.event.Event.{Event}
use Rattle.tnet.specs.Net.{NetState}
use Rattle.thistory.specs.Deeds.{net_behind}
use Rattle.tchart.specs.Layout.{laid_from, laid_one}
use Rattle.tchart.specs.Plots.{PlotState}

-- one more is laid out
pub laid_next : (k : ℕ) (es : List Event) (d : Event) (net : NetState) (p : PlotState) → k < length es
    → laid_from k (drop k es) net p
    ≡ laid_from (k + 1) (drop (k + 1) es) (net_behind net (get_or es k d))
    (laid_one k (get_or es k d) net p)
laid_next k es d net p l =
    rw (add-one k) (ap (λ (es : List Event). laid_from k es net p) (drop-cons es k d l))

-- none is left
pub laid_end : (k : ℕ) (es : List Event) (net : NetState) (p : PlotState) → length es ≤ k
    → laid_from k (drop k es) net p ≡ p
laid_end k es net p l = ap (λ (es : List Event). laid_from k es net p) (drop_of_length-le es l)
