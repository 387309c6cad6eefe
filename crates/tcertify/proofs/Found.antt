-- Things that are found in lists.
use Rattle.std.proofs.Common.{◌≡◌, ℕ, zero, suc, refl, sym, ap, ◌∙◌, Bool, true, false, List, [], ◌∷◌, ◌++◌, Option}
use Rattle.std.proofs.Common.{Some, None}
use Rattle.std.proofs.Common.{true≢false, cond, arith}
use Rattle.std.specs.Prelude.{find, map, slice_get, slice_set}
use Rattle.std.proofs.lemmas.Option.{same_Some}
use Rattle.tcertify.specs.Finding.{AreApart}

some_is_not : {X : Type 0} (x : X) → ◌≡◌ {A = Option X} (Some x) None → ⊥
some_is_not x e = cc

-- the rest of things that are apart
apart_rest : {X K : Type 0} (key : X → K) (x : X) (xs : List X) → AreApart key (x ∷ xs) → AreApart key xs
apart_rest key x xs h = λ i j y z at there same. let e = h (suc i) (suc j) y z at there same in omega arith

-- the one with a key is found by a test that holds of that key alone
pub find_apart : {X K : Type 0} (key : X → K) (test : X → Bool) (xs : List X) (k : ℕ) (x : X) → AreApart key xs
    → slice_get xs k ≡ Some x → test x ≡ true → ((y : X) → test y ≡ true → key y ≡ key x) → find test xs ≡ Some x
find_apart key test [] k x apart there holds only = cc
find_apart key test (y ∷ ys) k x apart there holds only =
    by (λ j at. find_apart key test ys j x (apart_rest key y ys apart) at holds only) (test y) refl
  where
    below : ((j : ℕ) → slice_get ys j ≡ Some x → find test ys ≡ Some x) → (j : ℕ) → slice_get (y ∷ ys) j ≡ Some x
        → test y ≡ false → find test ys ≡ Some x
    below rest zero at fails = absurd (true≢false (sym holds ∙ ap test (sym (same_Some y x at)) ∙ fails))
    below rest (suc j) at fails = rest j at

    first : (j : ℕ) → slice_get (y ∷ ys) j ≡ Some x → 0 ≡ j → y ≡ x
    first j at e = same_Some y x (ap (λ (n : ℕ). slice_get (y ∷ ys) n) e ∙ at)

    by : ((j : ℕ) → slice_get ys j ≡ Some x → find test ys ≡ Some x) → (b : Bool) → test y ≡ b
        → cond b (Some y) (find test ys) ≡ Some x
    by rest true e = ap Some (first k there (apart 0 k y x refl there (only y e)))
    by rest false e = below rest k there e

-- none is found by a test that holds of none
pub find_none : {X : Type 0} (test : X → Bool) (xs : List X)
    → ((k : ℕ) (x : X) → slice_get xs k ≡ Some x → test x ≡ false) → find test xs ≡ None
find_none test [] none = refl
find_none test (y ∷ ys) none =
    ap (λ (b : Bool). cond b (Some y) (find test ys)) (none 0 y refl)
    ∙ find_none test ys (λ k x at. none (suc k) x at)

-- one that is set does not matter to a test that holds neither of it nor of the one before
pub find_else : {X : Type 0} (test : X → Bool) (xs : List X) (k : ℕ) (x y : X) → slice_get xs k ≡ Some x
    → test x ≡ false → test y ≡ false → find test (slice_set xs k y) ≡ find test xs
find_else test [] k x y there before after = cc
find_else test (z ∷ zs) zero x y there before after =
    ap (λ (b : Bool). cond b (Some y) (find test zs)) after
    ∙ sym (ap (λ (b : Bool). cond b (Some z) (find test zs)) (ap test (same_Some z x there) ∙ before))
find_else test (z ∷ zs) (suc k) x y there before after =
    ap (λ (o : Option _). cond (test z) (Some z) o) (find_else test zs k x y there before after)

-- what is told of the one that is found stays where one is set that tells the same, and that a test finds as before
pub find_same : {X Y : Type 0} (test : X → Bool) (f : Option X → Y) (xs : List X) (k : ℕ) (x y : X)
    → slice_get xs k ≡ Some x → test y ≡ test x → f (Some y) ≡ f (Some x)
    → f (find test (slice_set xs k y)) ≡ f (find test xs)
find_same test f [] k x y there alike e = cc
find_same test f (z ∷ zs) zero x y there alike e =
    ap (λ (b : Bool). f (cond b (Some y) (find test zs))) alike ∙ by (test x)
    ∙ ap (λ (w : _). f (cond (test w) (Some w) (find test zs))) (sym (same_Some z x there))
  where
    by : (b : Bool) → f (cond b (Some y) (find test zs)) ≡ f (cond b (Some x) (find test zs))
    by true = e
    by false = refl
find_same test f (z ∷ zs) (suc k) x y there alike e = by (test z) (find_same test f zs k x y there alike e)
  where
    by : (b : Bool) → f (find test (slice_set zs k y)) ≡ f (find test zs)
        → f (cond b (Some z) (find test (slice_set zs k y))) ≡ f (cond b (Some z) (find test zs))
    by true h = refl
    by false h = h

-- what is told of a list stays where one of it is set that tells the same
pub map_set : {X Y : Type 0} (f : X → Y) (xs : List X) (k : ℕ) (x y : X) → slice_get xs k ≡ Some x → f y ≡ f x
    → map f (slice_set xs k y) ≡ map f xs
map_set f [] k x y there e = cc
map_set f (z ∷ zs) zero x y there e = ap (λ v. v ∷ map f zs) (e ∙ sym (ap f (same_Some z x there)))
map_set f (z ∷ zs) (suc k) x y there e = ap (λ vs. f z ∷ vs) (map_set f zs k x y there e)

-- one more that is found by no test that any of those before passes
pub find_push : {X : Type 0} (test : X → Bool) (xs : List X) (x : X) → test x ≡ false
    → find test (xs ++ x ∷ []) ≡ find test xs
find_push test [] x fails = ap (λ (b : Bool). cond b (Some x) None) fails
find_push test (y ∷ ys) x fails = ap (λ (o : Option _). cond (test y) (Some y) o) (find_push test ys x fails)

pub find_pushed : {X : Type 0} (test : X → Bool) (xs : List X) (x : X) → test x ≡ true → find test xs ≡ None
    → find test (xs ++ x ∷ []) ≡ Some x
find_pushed test [] x holds none = ap (λ (b : Bool). cond b (Some x) None) holds
find_pushed test (y ∷ ys) x holds none = by (test y) refl (λ h. find_pushed test ys x holds h)
  where
    by : (b : Bool) → test y ≡ b → ((find test ys ≡ None) → find test (ys ++ x ∷ []) ≡ Some x)
        → cond (test y) (Some y) (find test (ys ++ x ∷ [])) ≡ Some x
    by true e rest = absurd (some_is_not y (sym (ap (λ (c : Bool). cond c (Some y) (find test ys)) e) ∙ none))
    by false e rest =
        ap (λ (c : Bool). cond c (Some y) (find test (ys ++ x ∷ []))) e
        ∙ rest (sym (ap (λ (c : Bool). cond c (Some y) (find test ys)) e) ∙ none)
