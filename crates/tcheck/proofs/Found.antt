-- What was found to be wrong, piece by piece.
use Rattle.std.proofs.Common.{◌≡◌, ℕ, ◌+◌, ◌<◌, ◌≤◌, sym, ap, ◌∙◌, List, [], ◌++◌, length, get_or, drop, add-one}
use Rattle.std.proofs.Common.{append_assoc, append-nil, drop-cons}
use Rattle.std.proofs.Math.ListN.{drop_of_length-le}
use Rattle.tcheck.specs.declared.flaws.Wrong.{Wrong}
use Rattle.tcheck.specs.Wrongs.{each_from}

-- two pieces, one after the other
pub found_then : (a x y : List Wrong) {b c : List Wrong} → b ≡ a ++ x → c ≡ b ++ y → c ≡ a ++ (x ++ y)
found_then a x y p q = q ∙ ap (λ (l : List Wrong). l ++ y) p ∙ append_assoc a x y

-- the same piece
pub found_as : (a x : List Wrong) {b y : List Wrong} → b ≡ a ++ x → x ≡ y → b ≡ a ++ y
found_as a x p q = p ∙ ap (λ (l : List Wrong). a ++ l) q

-- nothing was found
pub found_none : (a : List Wrong) → a ≡ a ++ []
found_none a = sym (append-nil a)

-- the elements from one of them on
pub each_next : {A : Type 0} (f : ℕ → A → List Wrong) (k : ℕ) (xs : List A) (d : A) → k < length xs
    → each_from f k (drop k xs) ≡ f k (get_or xs k d) ++ each_from f (k + 1) (drop (k + 1) xs)
each_next {A} f k xs d l = rw (add-one k) (ap (λ (ys : List A). each_from f k ys) (drop-cons xs k d l))

-- behind the last there is none
pub each_end : {A : Type 0} (f : ℕ → A → List Wrong) (k : ℕ) (xs : List A) → length xs ≤ k
    → each_from f k (drop k xs) ≡ []
each_end {A} f k xs l = ap (λ (ys : List A). each_from f k ys) (drop_of_length-le xs l)

-- one more piece of a whole, of which some is left
pub found_more : (old now new here left rest all : List Wrong) → now ++ left ≡ old ++ all → left ≡ here ++ rest
    → new ≡ now ++ here → new ++ rest ≡ old ++ all
found_more old now new here left rest all so_far split one =
    ap (λ (l : List Wrong). l ++ rest) one ∙ append_assoc now here rest ∙ ap (λ (l : List Wrong). now ++ l) (sym split)
    ∙ so_far

-- nothing is left of a whole
pub found_all : (old now left all : List Wrong) → now ++ left ≡ old ++ all → left ≡ [] → now ≡ old ++ all
found_all old now left all so_far none =
    sym (append-nil now) ∙ ap (λ (l : List Wrong). now ++ l) (sym none) ∙ so_far

-- a loop over a list: one more element, and the end
pub each_more : {A : Type 0} (f : ℕ → A → List Wrong) (k : ℕ) (xs : List A) (x : A) (old now new : List Wrong)
    → k < length xs → x ≡ get_or xs k x → now ++ each_from f k (drop k xs) ≡ old ++ each_from f 0 xs
    → new ≡ now ++ f k x → new ++ each_from f (k + 1) (drop (k + 1) xs) ≡ old ++ each_from f 0 xs
each_more {A} f k xs x old now new l is so_far one =
    found_more old now new (f k x) (each_from f k (drop k xs)) (each_from f (k + 1) (drop (k + 1) xs))
    (each_from f 0 xs)
    so_far
    (each_next f k xs x l ∙ ap (λ (y : A). f k y ++ each_from f (k + 1) (drop (k + 1) xs)) (sym is)) one

pub each_done : {A : Type 0} (f : ℕ → A → List Wrong) (k : ℕ) (xs : List A) (old now : List Wrong)
    → length xs ≤ k → now ++ each_from f k (drop k xs) ≡ old ++ each_from f 0 xs → now ≡ old ++ each_from f 0 xs
each_done f k xs old now l so_far =
    found_all old now (each_from f k (drop k xs)) (each_from f 0 xs) so_far (each_end f k xs l)
