-- What is kept of all places, in pages of 256.
-- Source: own choice.
use Rattle.std.specs.Prelude.{ℕ, ◌≡◌, ◌≢◌, ◌≤◌, ◌*◌, ◌/◌, ◌%◌, false, List, [], length, map, slice_index_or, slice_set}
use Rattle.std.specs.List.{range_with_len}
use Rattle.tclocks.specs.declared.step.Access.{Access}
use Rattle.tclocks.specs.declared.kept.Kept.{Kept}
use Rattle.tclocks.specs.declared.kept.Kept.TheVariants.{OfOne}
use Rattle.tclocks.specs.Kept.{IsNotedBriefly}

-- what is kept of a place, or at an index of a page; nothing, behind the end
abbrev pub kept_at : List Kept → ℕ → Kept
kept_at kept place = slice_index_or kept place (OfOne false 0 0 0)

-- what pages keep of a place
abbrev pub kept_in : List (List Kept) → ℕ → Kept
kept_in pages place = kept_at (slice_index_or pages (place / 256) []) (place % 256)

-- what pages keep of the first `count` places
abbrev pub all_in : List (List Kept) → ℕ → List Kept
all_in pages count = map (kept_in pages) (range_with_len 0 count)

-- there are pages for `count` places, and nothing is kept behind them
pub record HavePages (pages : List (List Kept)) (count : ℕ) : Type 0 where
  pub room : count ≤ 256 * length pages
  pub clear : (place : ℕ) → count ≤ place → kept_in pages place ≡ OfOne false 0 0 0

-- this is kept at an index, and what was kept elsewhere
pub record IsSet (index : ℕ) (kept : Kept) (before after : List Kept) : Type 0 where
  pub set : kept_at after index ≡ kept
  pub others : (i : ℕ) → i ≢ index → kept_at after i ≡ kept_at before i

-- an access of the agent was noted, who alone was there before
pub record IsNotedByOwner (new : Access) (index : ℕ) (before after : List Kept) : Type 0 where
  pub noted : (clock : List ℕ) → IsNotedBriefly clock new (kept_at before index) (kept_at after index)
  pub others : (i : ℕ) → i ≢ index → kept_at after i ≡ kept_at before i

-- the same of a place, and all else is unchanged
pub record IsNotedOnly (new : Access) (place : ℕ) (before after : List Kept) : Type 0 where
  pub noted : (clock : List ℕ) → IsNotedBriefly clock new (kept_at before place) (kept_at after place)
  pub only : after ≡ slice_set before place (kept_at after place)
