-- The numbers of nodes in a row that is split in two.
use Rattle.std.proofs.Common.{◌≡◌, ℕ, zero, suc, ◌+◌, ◌*◌, ◌∙◌, sym, ap, subst, List, [], ◌∷◌, take, drop, Some, arith}
use Rattle.std.specs.Prelude.{slice_get}
use Rattle.std.proofs.Math.Nat.{add-mul}
use Rattle.std.proofs.lemmas.List.{take-map, drop-map}
use Rattle.trounds.specs.declared.round_node.RoundNode.{RoundNode}
use Rattle.trounds.specs.Parts.{Station, AreNumbered}
use Rattle.trounds.specs.RoundNodes.{stations_of, station_of}

-- what stands among the first stands there
get-take : {A : Type 0} (k n : ℕ) (xs : List A) (x : A) → slice_get (take k xs) n ≡ Some x → slice_get xs n ≡ Some x
get-take zero n xs x h = cc
get-take (suc k) n [] x h = cc
get-take (suc k) zero (y ∷ ys) x h = h
get-take (suc k) (suc n) (y ∷ ys) x h = get-take k n ys x h

-- what stands behind the first k elements stands k places later in the whole list
get-drop : {A : Type 0} (k n : ℕ) (xs : List A) (x : A) → slice_get (drop k xs) n ≡ Some x
    → slice_get xs (k + n) ≡ Some x
get-drop zero n xs x h = let e : 0 + n ≡ n = omega arith in rw e h
get-drop (suc k) n [] x h = cc
get-drop (suc k) n (y ∷ ys) x h = let e : suc k + n ≡ suc (k + n) = omega arith in rw e (get-drop k n ys x h)

module _ (first k : ℕ) (share : List RoundNode) (numbered : AreNumbered first (stations_of share)) where
  -- the first nodes of a row
  pub numbered_front : (front : List RoundNode) → front ≡ take k share → AreNumbered first (stations_of front)
  numbered_front front is n s h =
      numbered n s
      (get-take k n (stations_of share) s
      (ap (λ (ss : List Station). slice_get ss n) (take-map station_of k share ∙ ap stations_of (sym is)) ∙ h))

  -- those behind them
  numbered_back : AreNumbered (first + k) (stations_of (drop k share))
  numbered_back n s h =
      let there : slice_get (drop k (stations_of share)) n ≡ Some s =
      ap (λ (ss : List Station). slice_get ss n) (drop-map station_of k share) ∙ h in
      let at : s.number ≡ first + (k + n) = numbered (k + n) s (get-drop k n (stations_of share) s there) in
      omega (arith, at)

-- behind the shares of some workers the nodes of the next one begin
pub behind_shares : (worker count size k : ℕ) (share back : List RoundNode)
    → AreNumbered (worker * size) (stations_of share) → k ≡ count * size → back ≡ drop k share
    → AreNumbered ((worker + count) * size) (stations_of back)
behind_shares worker count size k share back numbered e is =
    let begins : worker * size + k ≡ (worker + count) * size =
    ap (λ (i : ℕ). worker * size + i) e ∙ sym (add-mul worker count size) in
    subst (λ (nodes : List RoundNode). AreNumbered ((worker + count) * size) (stations_of nodes)) (sym is)
    (subst (λ (i : ℕ). AreNumbered i (stations_of (drop k share))) begins
    (numbered_back (worker * size) k share numbered))
