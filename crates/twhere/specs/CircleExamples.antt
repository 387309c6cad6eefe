-- Circles that the definitions compute.
use Rattle.std.specs.Prelude.{ℕ, ◌≡◌, Bool, ◌&&◌, ◌==◌, List, [], ◌∷◌, map, Option, Some, None, refl}
use Rattle.std.specs.List.{list_any}
use Rattle.twhere.specs.Circles.{circle, numbers_from}

-- who waits for whom, as pairs of numbers
abbrev by_pairs : List (ℕ × ℕ) → ℕ → ℕ → Bool
by_pairs pairs a b = list_any (λ p. (p.0 == a) && (p.1 == b)) pairs

-- the circle of each of `count` nodes
abbrev circles : ℕ → List (ℕ × ℕ) → List (Option (List ℕ))
circles count pairs = map (circle count (by_pairs pairs)) (numbers_from 0 count)

two_nodes : circles 2 ((0, 1) ∷ (1, 0) ∷ []) ≡ Some (1 ∷ 0 ∷ []) ∷ None ∷ []
two_nodes = refl

three_in_a_ring : circles 3 ((0, 1) ∷ (1, 2) ∷ (2, 0) ∷ []) ≡ Some (1 ∷ 2 ∷ 0 ∷ []) ∷ None ∷ None ∷ []
three_in_a_ring = refl

three_the_other_way : circles 3 ((0, 2) ∷ (2, 1) ∷ (1, 0) ∷ []) ≡ Some (2 ∷ 1 ∷ 0 ∷ []) ∷ None ∷ None ∷ []
three_the_other_way = refl

two_circles
    : circles 4 ((0, 2) ∷ (1, 3) ∷ (2, 0) ∷ (3, 1) ∷ [])
    ≡ Some (2 ∷ 0 ∷ []) ∷ Some (3 ∷ 1 ∷ []) ∷ None ∷ None ∷ []
two_circles = refl

one_within_another
    : circles 3 ((0, 1) ∷ (1, 2) ∷ (2, 1) ∷ (2, 0) ∷ []) ≡ Some (1 ∷ 2 ∷ 0 ∷ []) ∷ Some (2 ∷ 1 ∷ []) ∷ None ∷ []
one_within_another = refl

the_shortest : circles 4 ((0, 1) ∷ (1, 2) ∷ (2, 0) ∷ (0, 3) ∷ (3, 0) ∷ []) ≡ Some (3 ∷ 0 ∷ []) ∷ None ∷ None ∷ None ∷ []
the_shortest = refl

the_first_of_two : circles 3 ((0, 2) ∷ (2, 0) ∷ (0, 1) ∷ (1, 0) ∷ []) ≡ Some (1 ∷ 0 ∷ []) ∷ None ∷ None ∷ []
the_first_of_two = refl

a_node_by_itself : circles 2 ((0, 1) ∷ (1, 1) ∷ []) ≡ None ∷ Some (1 ∷ []) ∷ []
a_node_by_itself = refl

a_row : circles 3 ((0, 1) ∷ (1, 2) ∷ []) ≡ None ∷ None ∷ None ∷ []
a_row = refl
