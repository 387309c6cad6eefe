-- Steps of a loop that changes each element in turn.
use Rattle.std.proofs.Common.{◌≡◌, ℕ, ◌+◌, ◌<◌, List, [], ◌∷◌, ◌++◌, map, length, get_or, take, drop, set, sym, ap, ◌∙◌}
use Rattle.std.proofs.Common.{arith, add-zero}
use Rattle.std.proofs.lemmas.List.{get_or-drop, map-set, take_more_set, map_more, get_or-map, drop-set-lt, drop-drop}
use Rattle.std.proofs.lemmas.List.{length-map}

module _ {A : Type 0} where
  pub same_at : (xs ys : List A) (i : ℕ) (d : A) → drop i xs ≡ drop i ys → get_or xs i d ≡ get_or ys i d
  same_at xs ys i d e =
      let a : get_or (drop i xs) 0 d ≡ get_or xs (i + 0) d = get_or-drop i xs 0 d in
      let b : get_or (drop i ys) 0 d ≡ get_or ys (i + 0) d = get_or-drop i ys 0 d in
      let f : List A → A = λ l. get_or l 0 d in
      ap (λ k. get_or xs k d) (sym (add-zero i)) ∙ (sym a ∙ (ap f e ∙ (b ∙ ap (λ k. get_or ys k d) (add-zero i))))

  pub same_after : (xs ys : List A) (i : ℕ) (v : A) → i < length xs → drop i xs ≡ drop i ys
      → drop (i + 1) (set xs i v) ≡ drop (i + 1) ys
  same_after xs ys i v h e =
      let lt : i < i + 1 = omega arith in
      drop-set-lt (i + 1) xs i v lt ∙ (sym (drop-drop 1 i xs) ∙ (ap (drop 1) e ∙ drop-drop 1 i ys))

module _ {A S T : Type 0} (st : A → T) (from : A → S) (f : S → T) where
  pub one_more : (xs ys : List A) (i : ℕ) (d v : A) → i < length xs → length xs ≡ length ys
      → take i (map st xs) ≡ map f (take i (map from ys)) → drop i xs ≡ drop i ys → st v ≡ f (from (get_or xs i d))
      → take (i + 1) (map st (set xs i v)) ≡ map f (take (i + 1) (map from ys))
  one_more xs ys i d v h len e left is =
      let lx : i < length (map st xs) = omega (arith, length-map xs st) in
      let ly : i < length (map from ys) = omega (arith, length-map ys from) in
      let a : take (i + 1) (map st (set xs i v)) ≡ take (i + 1) (set (map st xs) i (st v)) =
      ap (take (i + 1)) (map-set st xs i v) in
      let b : take (i + 1) (set (map st xs) i (st v)) ≡ take i (map st xs) ++ st v ∷ [] =
      take_more_set (map st xs) i (st v) lx in
      let c : map f (take (i + 1) (map from ys)) ≡ map f (take i (map from ys)) ++ f (get_or (map from ys) i (from d))
      ∷ [] = map_more f (map from ys) i (from d) ly in
      let g : get_or (map from ys) i (from d) ≡ from (get_or ys i d) = get_or-map from ys i d (from d) (omega arith) in
      let s : get_or xs i d ≡ get_or ys i d = same_at xs ys i d left in
      let n : st v ≡ f (get_or (map from ys) i (from d)) = is ∙ ap f (ap from s ∙ sym g) in
      let m : take i (map st xs) ++ st v ∷ [] ≡ map f (take i (map from ys)) ++ f (get_or (map from ys) i (from d))
      ∷ [] = cc in
      a ∙ (b ∙ (m ∙ sym c))
