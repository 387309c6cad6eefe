-- What a turn leaves of the shares of workers.
use Rattle.std.proofs.Common.{◌≡◌, ℕ, zero, suc, List, [], ◌∷◌, map, get_or, set, refl, ap}
use Rattle.tfree.specs.Opened.{share_of}
use Rattle.tfree.specs.Views.{Share, View}

-- one worker changes, and keeps its share
pub shares_stay : (ws : List View) (i : ℕ) (v w : View) → v ≡ get_or ws i v → w.share ≡ v.share
    → map share_of (set ws i w) ≡ map share_of ws
shares_stay [] i v w here same = refl
shares_stay (x ∷ xs) zero v w here same = ap (λ (s : Share). s ∷ map share_of xs) (let e : w.share ≡ x.share = cc in e)
shares_stay (x ∷ xs) (suc i) v w here same = ap (λ (l : List Share). x.share ∷ l) (shares_stay xs i v w here same)

-- three workers change, and keep their shares
pub three_stay : (us ws : List View) (a b c v w x : View) → us ≡ a ∷ b ∷ c ∷ [] → ws ≡ v ∷ w ∷ x ∷ []
    → (v.share ≡ a.share) × (w.share ≡ b.share) × (x.share ≡ c.share) → map share_of ws ≡ map share_of us
three_stay us ws a b c v w x were are same =
    let old : map share_of us ≡ a.share ∷ b.share ∷ c.share ∷ [] = ap (map share_of) were in
    let new : map share_of ws ≡ v.share ∷ w.share ∷ x.share ∷ [] = ap (map share_of) are in
    let first = same.0 in
    let second = same.1 in
    let third = same.2 in
    cc
