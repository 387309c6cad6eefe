-- What a memory holds once the segments of an image are loaded.
use Rattle.std.proofs.Common.{◌≡◌, ℕ, ◌+◌, ◌-◌, ◌<◌, ◌≤◌, refl, sym, ap, ◌∙◌, List, [], ◌∷◌, length, take}
use Rattle.std.proofs.Common.{get_or, true, false, Some, None, ◌⊎◌, inl, inr, arith, All, nat_le, fold}
use Rattle.std.specs.Prelude.{slice_index}
use Rattle.std.proofs.lemmas.Bool.{cases_lt, lt-ltb, le-ltb, le-leb, lt-leb, and_right}
use Rattle.std.proofs.lemmas.List.{nil_from_length, append-nil, take-append-drop, get_or-map, length-map}
use Rattle.std.proofs.lemmas.List.Elements.{All-head, All-tail}
use Rattle.tword.specs.Words.{most_neg}
use Rattle.tword.specs.Stores.{Store, place, with_cells, as_cells}
use Rattle.tword.specs.Touches.{is_inside}
use Rattle.tword.proofs.Passing.{inside_bounds}
use Rattle.tword.proofs.Copying.{length-with_cells, with_cells-below, with_cells-in, with_cells-above}
use Rattle.tproc.specs.Machine.{Machine}
use Rattle.tproc.specs.Opening.{loaded}
use Rattle.tplan.specs.declared.plan.Segment.{Segment}
use Rattle.tnet.specs.Building.{is_bad_segment}
use Rattle.tnet.proofs.OpenedPlans.{good_segment}
use Rattle.tprocesses.specs.Opening.{after_segment}

-- the cells of a store hold these bytes, by their addresses
pub record Holds (byte : ℕ → ℕ) (size : ℕ) (store : Store) : Type 0 where
  pub full : length store ≡ size
  pub cells : (i : ℕ) → i < size → get_or store i None ≡ Some (byte (most_neg + i))

module _ (byte : ℕ → ℕ) (size : ℕ) (s : Segment) (store : Store) (h : Holds byte size store) where
  -- what a segment leaves of other bytes
  outside : (a : ℕ) → (a < s.address) ⊎ (s.address + length s.bytes ≤ a) → after_segment a (byte a) s ≡ byte a
  outside a (inl l) = rw (lt-leb s.address a l) refl
  outside a (inr g) = rw (and_right (nat_le s.address a) _ (le-ltb a (s.address + length s.bytes) g)) refl

  -- and puts there itself
  within : (a : ℕ) → s.address ≤ a → a < s.address + length s.bytes
      → after_segment a (byte a) s ≡ slice_index s.bytes (a - s.address)
  within a low high = rw (le-leb s.address a low, lt-ltb a (s.address + length s.bytes) high) refl

  abbrev pub left : Store
  left = with_cells store s.address (as_cells s.bytes)

  -- an empty segment
  nothing : length s.bytes ≡ 0 → Holds (λ a. after_segment a (byte a) s) size left
  nothing z =
      record {
        full = ap (λ (t : Store). length t) same ∙ h.full;
        cells = λ i b. ap (λ (t : Store). get_or t i None) same ∙ h.cells i b
            ∙ ap (λ n. Some n) (sym (outside (most_neg + i) (by i (cases_lt (most_neg + i) s.address))));
      }
    where
      same : left ≡ store
      same =
          let f : s.bytes ≡ [] = nil_from_length s.bytes z in
          let e : place s.address + 0 ≡ place s.address = omega arith in
          rw (f, append-nil (take (place s.address) store), e, take-append-drop (place s.address) store) refl

      by : (i : ℕ) → (most_neg + i < s.address) ⊎ (s.address ≤ most_neg + i)
          → (most_neg + i < s.address) ⊎ (s.address + length s.bytes ≤ most_neg + i)
      by i (inl l) = inl l
      by i (inr g) = inr (omega (arith, z, g))

  -- another one
  something : most_neg ≤ s.address → s.address - most_neg + length s.bytes ≤ length store
      → Holds (λ a. after_segment a (byte a) s) size left
  something above room =
      record {
        full = length-with_cells store s.address (length s.bytes) (as_cells s.bytes) above room many ∙ h.full;
        cells = λ i b. cell i b (cases_lt i (place s.address)) (cases_lt i (place s.address + length s.bytes));
      }
    where
      many : length (as_cells s.bytes) ≡ length s.bytes
      many = length-map s.bytes (λ n. Some n)

      cell : (i : ℕ) → i < size → (i < place s.address) ⊎ (place s.address ≤ i)
          → (i < place s.address + length s.bytes) ⊎ (place s.address + length s.bytes ≤ i)
          → get_or left i None ≡ Some (after_segment (most_neg + i) (byte (most_neg + i)) s)
      cell i b (inl l) _ =
          with_cells-below store s.address (length s.bytes) (as_cells s.bytes) above room many i l ∙ h.cells i b
          ∙ ap (λ n. Some n) (sym (outside (most_neg + i) (inl (omega (arith, l, above)))))
      cell i b (inr g) (inr r) =
          with_cells-above store s.address (length s.bytes) (as_cells s.bytes) above room many i r ∙ h.cells i b
          ∙ ap (λ n. Some n) (sym (outside (most_neg + i) (inr (omega (arith, r, above)))))
      cell i b (inr g) (inl l) =
          let k : most_neg + i - s.address ≡ i - place s.address = omega (arith, g, above) in
          with_cells-in store s.address (length s.bytes) (as_cells s.bytes) above room many i g l
          ∙ get_or-map (λ n. Some n) s.bytes (i - place s.address) 0 None (omega (arith, g, l))
          ∙ ap (λ n. Some n) (sym (within (most_neg + i) (omega (arith, g, above)) (omega (arith, l, above))
          ∙ ap (slice_index s.bytes) k))

  -- a segment that lies in the memory
  pub holds_loaded : is_inside (length store) (record { start = s.address; size = length s.bytes }) ≡ true
      → Holds (λ a. after_segment a (byte a) s) size left
  holds_loaded inside = by (inside_bounds (length store) (record { start = s.address; size = length s.bytes }) inside)
    where
      by : (length s.bytes ≡ 0) ⊎ ((most_neg ≤ s.address) × (s.address - most_neg + length s.bytes ≤ length store))
          → Holds (λ a. after_segment a (byte a) s) size left
      by (inl z) = nothing z
      by (inr b) = something b.0 b.1

-- all segments
pub holds_all : (byte : ℕ → ℕ) (size : ℕ) (ss : List Segment) (m : Machine) → Holds byte size m.store
    → All (λ s. is_bad_segment size s ≡ false) ss
    → Holds (λ a. fold (after_segment a) (byte a) ss) size (fold (λ m s. loaded s.address s.bytes m) m ss).store
holds_all byte size [] m h good = h
holds_all byte size (s ∷ ss) m h good =
    holds_all (λ a. after_segment a (byte a) s) size ss (loaded s.address s.bytes m)
    (holds_loaded byte size s m.store h
    (rw h.full (good_segment size s (All-head (λ s. is_bad_segment size s ≡ false) s ss good))))
    (All-tail (λ s. is_bad_segment size s ≡ false) s ss good)
