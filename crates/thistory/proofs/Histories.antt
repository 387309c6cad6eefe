-- The events of a list, one after another.
use Rattle.std.proofs.Common.{◌≡◌, ℕ, suc, ◌+◌, ◌<◌, ◌≤◌, refl, ap, List, [], ◌∷◌, ◌++◌, length, get_or, drop, add-one}
use Rattle.std.proofs.Common.{drop-cons, arith, Bool, true, false}
use Rattle.std.specs.Prelude.{◌==◌, if◌then◌else◌}
use Rattle.std.proofs.Math.ListN.{drop_of_length-le}
use Rattle.tplan.specs.declared.event.Event.{Event}
use Rattle.tnet.specs.Net.{NetState}
use Rattle.thistory.specs.declared.steps.Asked.{Asked}
use Rattle.thistory.specs.declared.watch.Place.{Place}
use Rattle.thistory.specs.Deeds.{done_of, net_behind}
use Rattle.thistory.specs.Halts as halts
use Rattle.thistory.specs.Steps.{event_text, net_after, own_count, steps_from}
use Rattle.thistory.specs.Watch as watch

-- those of a node, with one event more
own_with : (n : ℕ) (e : Event) (es : List Event)
    → own_count n (e ∷ es) ≡ own_count n es + (if e.node == n then 1 else 0)
own_with n e es = by (e.node == n) refl
  where
    by : (own : Bool) → (e.node == n) ≡ own
        → own_count n (e ∷ es) ≡ own_count n es + (if own then 1 else 0)
    by true h = rw h (omega arith)
    by false h = rw h (omega arith)

-- those of a node, from one of a list on
pub own_next : (n k : ℕ) (es : List Event) (d : Event) → k < length es
    → own_count n (drop k es) ≡ own_count n (drop (k + 1) es) + (if (get_or es k d).node == n then 1 else 0)
own_next n k es d l = rw (add-one k, drop-cons es k d l) (own_with n (get_or es k d) (drop (suc k) es))

-- behind the last there is none
pub own_end : (n k : ℕ) (es : List Event) → length es ≤ k → own_count n (drop k es) ≡ 0
own_end n k es l = ap (λ (es : List Event). own_count n es) (drop_of_length-le es l)

-- the net behind those that are left
pub after_next : (k : ℕ) (es : List Event) (d : Event) (net : NetState) → k < length es
    → net_after (drop k es) net ≡ net_after (drop (k + 1) es) (net_behind net (get_or es k d))
after_next k es d net l = rw (add-one k) (ap (λ (es : List Event). net_after es net) (drop-cons es k d l))

pub after_end : (k : ℕ) (es : List Event) (net : NetState) → length es ≤ k → net_after (drop k es) net ≡ net
after_end k es net l = ap (λ (es : List Event). net_after es net) (drop_of_length-le es l)

-- their lines
pub steps_next : (q : Asked) (k : ℕ) (es : List Event) (d : Event) (net : NetState) → k < length es
    → steps_from q k (drop k es) net
    ≡ event_text q k (get_or es k d) (own_count q.node (drop (k + 1) es)) net
    ++ steps_from q (k + 1) (drop (k + 1) es) (net_behind net (get_or es k d))
steps_next q k es d net l = rw (add-one k) (ap (λ (es : List Event). steps_from q k es net) (drop-cons es k d l))

pub steps_end : (q : Asked) (k : ℕ) (es : List Event) (net : NetState) → length es ≤ k
    → steps_from q k (drop k es) net ≡ []
steps_end q k es net l = ap (λ (es : List Event). steps_from q k es net) (drop_of_length-le es l)

-- and those of bytes
pub watch_next : (p : Place) (k : ℕ) (es : List Event) (d : Event) (net : NetState) → k < length es
    → watch.watch_from p k (drop k es) net
    ≡ watch.event_text p k (get_or es k d) net
    ++ watch.watch_from p (k + 1) (drop (k + 1) es) (net_behind net (get_or es k d))
watch_next p k es d net l =
    rw (add-one k) (ap (λ (es : List Event). watch.watch_from p k es net) (drop-cons es k d l))

pub watch_end : (p : Place) (k : ℕ) (es : List Event) (net : NetState) → length es ≤ k
    → watch.watch_from p k (drop k es) net ≡ []
watch_end p k es net l = ap (λ (es : List Event). watch.watch_from p k es net) (drop_of_length-le es l)

-- and those of events that halted nodes
pub halts_next : (named : ℕ → List ℕ → List ℕ) (k : ℕ) (es : List Event) (d : Event) (net : NetState) → k < length es
    → halts.halts_from named k (drop k es) net
    ≡ halts.event_text named k (done_of net (get_or es k d))
    ++ halts.halts_from named (k + 1) (drop (k + 1) es) (net_behind net (get_or es k d))
halts_next named k es d net l =
    rw (add-one k) (ap (λ (es : List Event). halts.halts_from named k es net) (drop-cons es k d l))

pub halts_end : (named : ℕ → List ℕ → List ℕ) (k : ℕ) (es : List Event) (net : NetState) → length es ≤ k
    → halts.halts_from named k (drop k es) net ≡ []
halts_end named k es net l = ap (λ (es : List Event). halts.halts_from named k es net) (drop_of_length-le es l)
