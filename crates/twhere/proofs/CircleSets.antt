-- The nodes from which paths lead to another, as sets and as lists.
use Rattle.std.proofs.Common.{◌≡◌, ℕ, zero, suc, ◌+◌, ◌-◌, ◌<◌, ◌≤◌, ◌⊎◌, inl, inr, refl, sym, ap, ◌∙◌, arith, List}
use Rattle.std.proofs.Common.{[], ◌∷◌, ◌++◌, Bool, true, false, not, flat_map, Option, Some, None}
use Rattle.std.specs.Prelude.{◌&&◌, ◌||◌, ◌==◌, filter}
use Rattle.std.specs.List.{find, list_any}
use Rattle.std.proofs.lemmas.Bool.{and_cases, and_parts, eq-eqb, or_left, or_right}
use mathlib.Core.Bool.{or_assoc, or-false}
use Rattle.tproc.proofs.Occurs.{found}
use Rattle.twhere.specs.declared.node_set.NodeSet.{NodeSet}
use Rattle.twhere.specs.Circles.{first_of, is_among, leading, numbers_from, way}
use Rattle.twhere.specs.NodeSets.{IsSetOf, has_node}
use Rattle.twhere.specs.Standing.{awaited_text}

-- the numbers from one on
pub numbers_next : (i end : ℕ) → i < end → numbers_from i end ≡ i ∷ numbers_from (i + 1) end
numbers_next i end l = let e : end - i ≡ suc (end - (i + 1)) = omega (arith, l) in rw e refl

pub numbers_end : (i end : ℕ) → end ≤ i → numbers_from i end ≡ []
numbers_end i end l = let e : end - i ≡ 0 = omega (arith, l) in rw e refl

-- the first one that passes is not among those that do not
pub find_next : (p : ℕ → Bool) (i end : ℕ) → i < end → p i ≡ false
    → find p (numbers_from i end) ≡ find p (numbers_from (i + 1) end)
find_next p i end l h = rw (numbers_next i end l, h) refl

pub find_here : (p : ℕ → Bool) (i end : ℕ) → i < end → p i ≡ true → find p (numbers_from i end) ≡ Some i
find_here p i end l h = rw (numbers_next i end l, h) refl

pub find_end : (p : ℕ → Bool) (i end : ℕ) → end ≤ i → find p (numbers_from i end) ≡ None
find_end p i end l = rw (numbers_end i end l) refl

-- the text of each of them
pub facts_next : (f : ℕ → List ℕ) (i end : ℕ) → i < end
    → flat_map f (numbers_from i end) ≡ f i ++ flat_map f (numbers_from (i + 1) end)
facts_next f i end l = rw (numbers_next i end l) refl

pub facts_end : (f : ℕ → List ℕ) (i end : ℕ) → end ≤ i → flat_map f (numbers_from i end) ≡ []
facts_end f i end l = rw (numbers_end i end l) refl

-- a node alone
pub set_of_one : (s : NodeSet) (k : ℕ) → ((n : ℕ) → has_node s n ≡ (k == n)) → IsSetOf s (k ∷ [])
set_of_one s k is = λ n. is n ∙ sym (or-false (k == n))

-- no element passes a test that none of the elements passes
none_passes : (f : ℕ → Bool) (xs : List ℕ) → ((n : ℕ) → is_among xs n ≡ true → f n ≡ false) → list_any f xs ≡ false
none_passes f [] h = refl
none_passes f (x ∷ xs) h =
    rw (h x (or_left (x == x) (is_among xs x) (eq-eqb x x refl)))
    (none_passes f xs (λ n k. h n (or_right (x == n) (is_among xs n) k)))

-- whether a node waits for one of a set
pub one_waits : (both : NodeSet) (waits : ℕ → Bool) (ends : NodeSet) (xs : List ℕ) (empty : Bool) → IsSetOf ends xs
    → ((n : ℕ) → has_node both n ≡ (waits n && has_node ends n))
    → (empty ≡ true → (n : ℕ) → has_node both n ≡ false)
    → (empty ≡ false → (n : ℕ) × (has_node both n ≡ true))
    → list_any waits xs ≡ not empty
one_waits both waits ends xs true same is none one =
    none_passes waits xs (λ n k. by n k (and_cases (waits n) (has_node ends n) (sym (is n) ∙ none refl n)))
  where
    by : (n : ℕ) → is_among xs n ≡ true → (waits n ≡ false) ⊎ (has_node ends n ≡ false) → waits n ≡ false
    by n k (inl e) = e
    by n k (inr e) = let wrong : false ≡ true = sym e ∙ same n ∙ k in cc
one_waits both waits ends xs false same is none one =
    let at : (n : ℕ) × (has_node both n ≡ true) = one refl in
    let parts = and_parts (waits at.0) (has_node ends at.0) (sym (is at.0) ∙ at.1) in
    found waits at.0 xs parts.0 (sym (same at.0) ∙ parts.1)

-- what was put in, and what is left
pub put_in : (p : ℕ → Bool) (i end : ℕ) (n : ℕ) (x : Bool) → i < end → p i ≡ true
    → ((x || (i == n)) || is_among (filter p (numbers_from (i + 1) end)) n)
    ≡ (x || is_among (filter p (numbers_from i end)) n)
put_in p i end n x l h =
    rw (numbers_next i end l, h) (or_assoc x (i == n) (is_among (filter p (numbers_from (i + 1) end)) n))

pub left_out : (p : ℕ → Bool) (i end : ℕ) (n : ℕ) (x : Bool) → i < end → p i ≡ false
    → (x || is_among (filter p (numbers_from (i + 1) end)) n) ≡ (x || is_among (filter p (numbers_from i end)) n)
left_out p i end n x l h = rw (numbers_next i end l, h) refl

pub all_put : (p : ℕ → Bool) (i end : ℕ) (n : ℕ) (x : Bool) → end ≤ i
    → x ≡ (x || is_among (filter p (numbers_from i end)) n)
all_put p i end n x l = rw (numbers_end i end l) (sym (or-false x))

-- a step of the way
pub way_next : (count : ℕ) (waits : ℕ → ℕ → Bool) (lowest steps k left a b : ℕ) → steps ≡ suc k → left ≡ k
    → b ≡ first_of count waits lowest a (leading count waits lowest k)
    → flat_map awaited_text (way count waits lowest steps a)
    ≡ awaited_text b ++ flat_map awaited_text (way count waits lowest left b)
way_next count waits lowest steps k left a b more same is = rw (more, same, is) refl

pub way_end : (count : ℕ) (waits : ℕ → ℕ → Bool) (lowest steps a : ℕ) → steps ≡ 0
    → flat_map awaited_text (way count waits lowest steps a) ≡ []
way_end count waits lowest steps a none = rw none refl
