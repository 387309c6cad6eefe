-- The texts of the elements of a list, from one of them on.
use Rattle.std.proofs.Common.{◌≡◌, ℕ, ◌+◌, ◌<◌, ◌≤◌, sym, ap, ◌∙◌, List, [], ◌++◌, length, get_or, drop, add-one}
use Rattle.std.proofs.Common.{drop-cons}
use Rattle.std.proofs.Math.ListN.{drop_of_length-le}
use Rattle.tcheck.specs.Summaries.{texts_from}

pub texts_next : {A : Type 0} (text : ℕ → A → List ℕ) (k : ℕ) (xs : List A) (x : A) → k < length xs → x ≡ get_or xs k x
    → texts_from text k (drop k xs) ≡ text k x ++ texts_from text (k + 1) (drop (k + 1) xs)
texts_next {A} text k xs x l is =
    rw (add-one k) (ap (λ (ys : List A). texts_from text k ys) (drop-cons xs k x l))
    ∙ ap (λ (y : A). text k y ++ texts_from text (k + 1) (drop (k + 1) xs)) (sym is)

-- the same, where the element is read at any default
pub texts_at : {A : Type 0} (text : ℕ → A → List ℕ) (k : ℕ) (xs : List A) (d : A) → k < length xs
    → texts_from text k (drop k xs) ≡ text k (get_or xs k d) ++ texts_from text (k + 1) (drop (k + 1) xs)
texts_at {A} text k xs d l =
    rw (add-one k) (ap (λ (ys : List A). texts_from text k ys) (drop-cons xs k d l))

pub texts_end : {A : Type 0} (text : ℕ → A → List ℕ) (k : ℕ) (xs : List A) → length xs ≤ k
    → texts_from text k (drop k xs) ≡ []
texts_end {A} text k xs l = ap (λ (ys : List A). texts_from text k ys) (drop_of_length-le xs l)
