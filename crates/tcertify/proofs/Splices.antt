-- Lists of which some items are replaced.
use Rattle.std.proofs.Common.{◌≡◌, ℕ, zero, suc, ◌+◌, ◌<◌, ◌≤◌, refl, sym, ap, ◌∙◌, arith, List, [], ◌∷◌, ◌++◌, length}
use Rattle.std.proofs.Common.{take, drop, set, length-take, length-drop, replicate, ◌-◌, Some}
use Rattle.std.specs.Prelude.{slice_get, slice_range}
use Rattle.tcertify.specs.Spans.{splice}

module _ {X : Type 0} where
  -- nothing is replaced in an empty list
  splice_nil : (q : ℕ) (xs : List X) → splice q xs [] ≡ []
  splice_nil zero [] = refl
  splice_nil zero (x ∷ xs) = refl
  splice_nil (suc q) xs = refl

  -- no items replace any
  pub splice_none : (q : ℕ) (ys : List X) → splice q [] ys ≡ ys
  splice_none zero ys = refl
  splice_none (suc q) [] = refl
  splice_none (suc q) (y ∷ ys) = ap (λ (l : List X). y ∷ l) (splice_none q ys)

  -- one item replaces one
  pub splice_one : (q : ℕ) (x : X) (ys : List X) → splice q (x ∷ []) ys ≡ set ys q x
  splice_one zero x [] = refl
  splice_one zero x (y ∷ ys) = refl
  splice_one (suc q) x [] = refl
  splice_one (suc q) x (y ∷ ys) = ap (λ (l : List X). y ∷ l) (splice_one q x ys)

  -- what is left behind some items, and the first of them
  pub drop_splice : (a q p : ℕ) (xs ys : List X) → p ≡ a + q → drop a (splice p xs ys) ≡ splice q xs (drop a ys)
  drop_splice zero q p xs ys e =
      let same : p ≡ q = omega arith in ap (λ (n : ℕ). splice n xs ys) same
  drop_splice (suc a) q zero xs ys e = absurd (omega arith)
  drop_splice (suc a) q (suc p) xs [] e = sym (splice_nil q xs)
  drop_splice (suc a) q (suc p) xs (y ∷ ys) e = drop_splice a q p xs ys (omega arith)

  pub take_splice : (m q : ℕ) (xs ys : List X) → take m (splice q xs ys) ≡ splice q xs (take m ys)
  take_splice zero q xs ys = sym (splice_nil q xs)
  take_splice (suc m) zero [] ys = refl
  take_splice (suc m) zero (x ∷ xs) [] = refl
  take_splice (suc m) zero (x ∷ xs) (y ∷ ys) = ap (λ (l : List X). x ∷ l) (take_splice m zero xs ys)
  take_splice (suc m) (suc q) xs [] = refl
  take_splice (suc m) (suc q) xs (y ∷ ys) = ap (λ (l : List X). y ∷ l) (take_splice m q xs ys)

  -- the parts of the list
  pub splice_is : (q n : ℕ) (xs ys : List X) → n ≡ q + length xs → n ≤ length ys
      → splice q xs ys ≡ take q ys ++ xs ++ drop n ys
  splice_is zero zero [] ys e h = refl
  splice_is zero (suc n) [] ys e h = absurd (omega arith)
  splice_is zero n (x ∷ xs) [] e h = absurd (omega arith)
  splice_is zero zero (x ∷ xs) (y ∷ ys) e h = absurd (omega arith)
  splice_is zero (suc n) (x ∷ xs) (y ∷ ys) e h =
      ap (λ (l : List X). x ∷ l) (splice_is zero n xs ys (omega arith) (omega arith))
  splice_is (suc q) zero xs ys e h = absurd (omega arith)
  splice_is (suc q) (suc n) xs [] e h = absurd (omega arith)
  splice_is (suc q) (suc n) xs (y ∷ ys) e h =
      ap (λ (l : List X). y ∷ l) (splice_is q n xs ys (omega arith) (omega arith))

  -- one more item is replaced behind them, or before them
  pub set_behind : (p j : ℕ) (xs ys : List X) (b : X) → j ≡ p + length xs → j < length ys
      → set (splice p xs ys) j b ≡ splice p (xs ++ b ∷ []) ys
  set_behind zero j xs [] b e h = absurd (omega arith)
  set_behind zero zero [] (y ∷ ys) b e h = refl
  set_behind zero (suc j) [] (y ∷ ys) b e h = absurd (omega arith)
  set_behind zero zero (x ∷ xs) (y ∷ ys) b e h = absurd (omega arith)
  set_behind zero (suc j) (x ∷ xs) (y ∷ ys) b e h =
      ap (λ (l : List X). x ∷ l) (set_behind zero j xs ys b (omega arith) (omega arith))
  set_behind (suc p) j xs [] b e h = absurd (omega arith)
  set_behind (suc p) zero xs (y ∷ ys) b e h = absurd (omega arith)
  set_behind (suc p) (suc j) xs (y ∷ ys) b e h =
      ap (λ (l : List X). y ∷ l) (set_behind p j xs ys b (omega arith) (omega arith))

  pub set_before : (p : ℕ) (xs ys : List X) (b : X) → p < length ys
      → set (splice (suc p) xs ys) p b ≡ splice p (b ∷ xs) ys
  set_before p xs [] b h = absurd (omega arith)
  set_before zero xs (y ∷ ys) b h = refl
  set_before (suc p) xs (y ∷ ys) b h = ap (λ (l : List X). y ∷ l) (set_before p xs ys b (omega arith))

  -- the other items stay
  pub get_before : (p j : ℕ) (xs ys : List X) → j < p → slice_get (splice p xs ys) j ≡ slice_get ys j
  get_before zero j xs ys h = absurd (omega arith)
  get_before (suc p) j xs [] h = refl
  get_before (suc p) zero xs (y ∷ ys) h = refl
  get_before (suc p) (suc j) xs (y ∷ ys) h = get_before p j xs ys (omega arith)

  pub get_behind : (p j : ℕ) (xs ys : List X) → p + length xs ≤ j → slice_get (splice p xs ys) j ≡ slice_get ys j
  get_behind zero j [] ys h = refl
  get_behind zero j (x ∷ xs) [] h = refl
  get_behind zero zero (x ∷ xs) (y ∷ ys) h = absurd (omega arith)
  get_behind zero (suc j) (x ∷ xs) (y ∷ ys) h = get_behind zero j xs ys (omega arith)
  get_behind (suc p) j xs [] h = refl
  get_behind (suc p) zero xs (y ∷ ys) h = absurd (omega arith)
  get_behind (suc p) (suc j) xs (y ∷ ys) h = get_behind p j xs ys (omega arith)

  -- items of the rest of a list
  pub get_drop : (a k j : ℕ) (ys : List X) → j ≡ a + k → slice_get (drop a ys) k ≡ slice_get ys j
  get_drop zero k j ys e =
      let same : k ≡ j = omega arith in ap (slice_get ys) same
  get_drop (suc a) k zero ys e = absurd (omega arith)
  get_drop (suc a) k (suc j) [] e = refl
  get_drop (suc a) k (suc j) (y ∷ ys) e = get_drop a k j ys (omega arith)

  -- one item more of a list
  take_next : (k : ℕ) (ys : List X) (b : X) → slice_get ys k ≡ Some b → take (suc k) ys ≡ take k ys ++ b ∷ []
  take_next k [] b h = cc
  take_next zero (y ∷ ys) b h =
      let is : y ≡ b = cc in ap (λ (x : X). x ∷ []) is
  take_next (suc k) (y ∷ ys) b h = ap (λ (l : List X). y ∷ l) (take_next k ys b h)

  drop_next : (j : ℕ) (ys : List X) (b : X) → slice_get ys j ≡ Some b → drop j ys ≡ b ∷ drop (suc j) ys
  drop_next j [] b h = cc
  drop_next zero (y ∷ ys) b h =
      let is : y ≡ b = cc in ap (λ (x : X). x ∷ ys) is
  drop_next (suc j) (y ∷ ys) b h = drop_next j ys b h

  -- items in a row: none, and one more behind them or before them
  pub range_none : (a : ℕ) (ys : List X) → slice_range ys a (a + 0) ≡ []
  range_none a ys =
      let none : a + 0 - a ≡ 0 = omega arith in ap (λ (n : ℕ). take n (drop a ys)) none

  pub range_behind : (a k : ℕ) (ys : List X) (b : X) → slice_get ys (a + k) ≡ Some b
      → slice_range ys a (a + (k + 1)) ≡ slice_range ys a (a + k) ++ b ∷ []
  range_behind a k ys b h =
      let more : a + (k + 1) - a ≡ suc k = omega arith in
      let less : k ≡ a + k - a = omega arith in
      ap (λ (n : ℕ). take n (drop a ys)) more
      ∙ take_next k (drop a ys) b (get_drop a k (a + k) ys refl ∙ h)
      ∙ ap (λ (n : ℕ). take n (drop a ys) ++ b ∷ []) less

  pub range_before : (j e : ℕ) (ys : List X) (b : X) → slice_get ys j ≡ Some b → j < e
      → slice_range ys j e ≡ b ∷ slice_range ys (suc j) e
  range_before j e ys b h low =
      let more : e - j ≡ suc (e - suc j) = omega arith in
      ap (λ (n : ℕ). take n (drop j ys)) more ∙ ap (take (suc (e - suc j))) (drop_next j ys b h)

  -- how many there are
  pub range_length : (a k : ℕ) (ys : List X) → a + k ≤ length ys → length (slice_range ys a (a + k)) ≡ k
  range_length a k ys h =
      let one = length-take (a + k - a) (drop a ys) in
      let two = length-drop a ys in omega arith

-- one item more of many that are alike
pub replicate_behind : {X : Type 0} (k : ℕ) (x : X) → replicate (k + 1) x ≡ replicate k x ++ x ∷ []
replicate_behind k x =
    let more : k + 1 ≡ suc k = omega arith in ap (λ (n : ℕ). replicate n x) more ∙ by k
  where
    by : (n : ℕ) → replicate (suc n) x ≡ replicate n x ++ x ∷ []
    by zero = refl
    by (suc n) = ap (λ l. x ∷ l) (by n)
