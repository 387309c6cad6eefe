-- Circles of nodes that wait for one another: of each node that is the lowest of one the shortest through it among the
-- nodes from it on, and of several shortest the first in the order of numbers.
-- Source: own choice. That a process waits until the other end has its part: the Compiler Writer's Guide (1988).
use Rattle.std.specs.Prelude.{ℕ, zero, suc, ◌-◌, Bool, ◌&&◌, ◌==◌, List, [], ◌∷◌, filter, Option, option_map, unwrap_or}
use Rattle.std.specs.List.{find, list_any, range_with_len}

-- the numbers from one on that are below another
abbrev pub numbers_from : (first end : ℕ) → List ℕ
numbers_from first end = range_with_len first (end - first)

-- a number is one of these
abbrev pub is_among : List ℕ → ℕ → Bool
is_among xs n = list_any (λ x. x == n) xs

-- among `count` nodes, by which of them waits for which
module _ (count : ℕ) (waits : ℕ → ℕ → Bool) where
  -- the nodes from the lowest on that wait for one of these
  abbrev pub waiting_for : (lowest : ℕ) → List ℕ → List ℕ
  waiting_for lowest ends = filter (λ a. list_any (waits a) ends) (numbers_from lowest count)

  -- the nodes from which exactly this number of steps leads to the lowest, each from a node to one that it waits for
  abbrev pub leading : (lowest steps : ℕ) → List ℕ
  leading lowest zero = lowest ∷ []
  leading lowest (suc k) = waiting_for lowest (leading lowest k)

  -- this number of steps leads from a node to itself, through none that is lower
  abbrev pub comes_round : (lowest steps : ℕ) → Bool
  comes_round lowest k = is_among (leading lowest k) lowest

  -- how many steps the shortest circle has whose lowest node this is, if there is one
  abbrev pub circle_size : ℕ → Option ℕ
  circle_size lowest = find (comes_round lowest) (numbers_from 1 (suc count))

  -- the first of these nodes, in the order of numbers, that a node waits for
  abbrev pub first_of : (lowest a : ℕ) → List ℕ → ℕ
  first_of lowest a ends = unwrap_or (find (λ c. waits a c && is_among ends c) (numbers_from lowest count)) lowest

  -- the nodes on the way of this number of steps from a node to the lowest, each the first from which the others lead
  -- there
  abbrev pub way : (lowest steps a : ℕ) → List ℕ
  way lowest zero a = []
  way lowest (suc k) a =
      first_of lowest a (leading lowest k) ∷ way lowest k (first_of lowest a (leading lowest k))

  -- the shortest circle whose lowest node this is, if there is one: the nodes behind it in their order, itself the last
  abbrev pub circle : ℕ → Option (List ℕ)
  circle lowest = option_map (λ k. way lowest k lowest) (circle_size lowest)
