-- Slots at the links of nodes: a row of four for each node, where a link without a wire has an empty one.
-- Source: own choice.
use Rattle.std.specs.Prelude.{ℕ, ◌≡◌, All, List, [], length, map, Option, None, option_map, slice_index_or, slice_set}
use Rattle.tplan.specs.declared.plan.End.{End}

module _ {A : Type 0} where
  -- what stands at a link of a node, if anything does
  abbrev pub slot_at : List (List (Option A)) → (node link : ℕ) → Option A
  slot_at rows node link = slice_index_or (slice_index_or rows node []) link None

  -- what stands at an end of a wire, if anything does
  abbrev pub slot_of_end : List (List (Option A)) → End → Option A
  slot_of_end rows e = slot_at rows e.node e.link

  -- the slot of a link is set
  abbrev pub with_slot : (node link : ℕ) → Option A → List (List (Option A)) → List (List (Option A))
  with_slot node link x rows = slice_set rows node (slice_set (slice_index_or rows node []) link x)

-- what is seen of what stands at each link
abbrev pub map_slots : {A B : Type 0} → (A → B) → List (List (Option A)) → List (List (Option B))
map_slots f rows = map (map (option_map f)) rows

-- there is a row of four for each of this number of nodes
pub record AreRowsOfFour {A : Type 0} (nodes : ℕ) (rows : List (List A)) : Type 0 where
  pub count : length rows ≡ nodes
  pub four : All (λ row. length row ≡ 4) rows
