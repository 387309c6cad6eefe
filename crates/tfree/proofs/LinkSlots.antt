-- Slots at the links of nodes, by rows of four: what is read there, and what is set.
use Rattle.std.proofs.Common.{◌≡◌, ◌≢◌, ℕ, zero, suc, ◌<◌, refl, sym, ap, ◌∙◌, subst, arith, List, [], length, get_or}
use Rattle.std.proofs.Common.{set, map, length-set, Option, Some, None, ◌⊎◌, inl, inr, ◌≤◌}
use Rattle.std.specs.Prelude.{option_map, slice_set, slice_index_or, replicate}
use Rattle.std.proofs.lemmas.Bool.{cases_eq, cases_lt}
use Rattle.std.proofs.lemmas.List.{get_or-set_same, get_or-set_other, set-get_or, map-set, length-map, get_or_default}
use Rattle.std.proofs.lemmas.List.{length-replicate, get_or-replicate}
use Rattle.std.proofs.lemmas.List.Elements.{All-map, All-weaker}
use Rattle.std.proofs.Math.ListN.{get_or-map, get_or-eq_default}
use Rattle.std.proofs.Math.Seq.{map-set_same}
use Rattle.tfree.specs.Slots.{slot_at, with_slot, map_slots, AreRowsOfFour}

module _ {A : Type 0} (rows : List (List (Option A))) (n l : ℕ) (x : Option A) where
  pub slot-set_same : n < length rows → l < length (slice_index_or rows n []) → slot_at (with_slot n l x rows) n l ≡ x
  slot-set_same b c =
      ap (λ (row : List (Option A)). get_or row l None) (get_or-set_same rows n (set (get_or rows n []) l x) [] b)
      ∙ get_or-set_same (get_or rows n []) l x None c

  pub slot-set_other : (m k : ℕ) → n < length rows → (m ≢ n) ⊎ (k ≢ l)
      → slot_at (with_slot n l x rows) m k ≡ slot_at rows m k
  slot-set_other m k b (inl d) =
      ap (λ (row : List (Option A)). get_or row k None) (get_or-set_other rows n m (set (get_or rows n []) l x) [] d)
  slot-set_other m k b (inr d) = by (cases_eq m n)
    where
      by : (m ≡ n) ⊎ (m ≢ n) → slot_at (with_slot n l x rows) m k ≡ slot_at rows m k
      by (inl q) =
          rw q
          (ap (λ (row : List (Option A)). get_or row k None) (get_or-set_same rows n (set (get_or rows n []) l x) [] b)
          ∙ get_or-set_other (get_or rows n []) l k x None d)
      by (inr q) =
          ap (λ (row : List (Option A)). get_or row k None)
          (get_or-set_other rows n m (set (get_or rows n []) l x) [] q)

-- what stands there is set once more
pub set-slot : {A : Type 0} (rows : List (List (Option A))) (n l : ℕ) → with_slot n l (slot_at rows n l) rows ≡ rows
set-slot {A} rows n l =
    ap (λ (row : List (Option A)). set rows n row) (set-get_or (get_or rows n []) l None) ∙ set-get_or rows n []

module _ {A B : Type 0} (f : A → B) (rows : List (List (Option A))) (n l : ℕ) where
  pub slot-map : slot_at (map_slots f rows) n l ≡ option_map f (slot_at rows n l)
  slot-map =
      ap (λ (row : List (Option B)). get_or row l None) (get_or-map (map (option_map f)) rows n [])
      ∙ get_or-map (option_map f) (get_or rows n []) l None

  pub map-slot_set : (x : Option A)
      → map_slots f (with_slot n l x rows) ≡ with_slot n l (option_map f x) (map_slots f rows)
  map-slot_set x =
      map-set (map (option_map f)) rows n (set (get_or rows n []) l x)
      ∙ ap (λ (row : List (Option B)). set (map_slots f rows) n row)
      (map-set (option_map f) (get_or rows n []) l x
      ∙ ap (λ (row : List (Option B)). set row l (option_map f x)) (sym (get_or-map (map (option_map f)) rows n [])))

  -- something is set that looks like what stood there
  pub map-slot_same : (x : Option A) → option_map f x ≡ option_map f (slot_at rows n l)
      → map_slots f (with_slot n l x rows) ≡ map_slots f rows
  map-slot_same x h =
      map-slot_set x ∙ ap (λ (y : Option B). with_slot n l y (map_slots f rows)) (h ∙ sym slot-map)
      ∙ set-slot (map_slots f rows) n l

pub rows-length : {A B : Type 0} (f : A → B) (rows : List (List (Option A))) → length (map_slots f rows) ≡ length rows
rows-length f rows = length-map rows (map (option_map f))

-- a slot as the code reads and sets it
module _ {A : Type 0} (rows : List (List (Option A))) (n : ℕ) (row : List (Option A)) (n_in : n < length rows)
    (row_is : row ≡ get_or rows n row) where
  pub row_here : row ≡ slice_index_or rows n []
  row_here = row_is ∙ get_or_default rows n row [] n_in

  pub slot_here : (l : ℕ) (slot : Option A) → l < length row → slot ≡ get_or row l slot → slot ≡ slot_at rows n l
  slot_here l slot c is = is ∙ get_or_default row l slot None c ∙ ap (λ (r : List (Option A)). get_or r l None) row_here

  pub slot_set : (l : ℕ) (x : Option A) → slice_set rows n (slice_set row l x) ≡ with_slot n l x rows
  slot_set l x = ap (λ (r : List (Option A)). set rows n (set r l x)) row_here

module _ {A B : Type 0} (f : A → B) (rows : List (List (Option A))) (n l : ℕ) (row : List (Option A)) (slot : Option A)
    (row_is : row ≡ get_or rows n row) (slot_is : slot ≡ get_or row l slot) where
  -- where something is seen, it is what the code reads
  pub slot_found : (y : B) → slot_at (map_slots f rows) n l ≡ Some y → option_map f slot ≡ Some y
  slot_found y at = by (cases_lt n (length rows)) (cases_lt l (length row))
    where
      there : option_map f (slot_at rows n l) ≡ Some y
      there = sym (slot-map f rows n l) ∙ at

      nothing : slot_at rows n l ≡ None → option_map f slot ≡ Some y
      nothing none = let e : option_map f None ≡ Some y = ap (option_map f) (sym none) ∙ there in cc

      by : (n < length rows) ⊎ (length rows ≤ n) → (l < length row) ⊎ (length row ≤ l) → option_map f slot ≡ Some y
      by (inl b) (inl c) = ap (option_map f) (slot_here rows n row b row_is l slot c slot_is) ∙ there
      by (inl b) (inr c) =
          nothing (ap (λ (r : List (Option A)). get_or r l None) (sym (row_here rows n row b row_is))
          ∙ get_or-eq_default row None c)
      by (inr b) c = nothing (ap (λ (r : List (Option A)). get_or r l None) (get_or-eq_default rows [] b))

  -- what is set looks like what stood there
  pub rows_same : (x : Option A) → option_map f x ≡ option_map f slot
      → map_slots f (slice_set rows n (slice_set row l x)) ≡ map_slots f rows
  rows_same x h =
      map-set_same (map (option_map f)) rows n (set row l x) row
      (map-set_same (option_map f) row l x slot (h ∙ ap (option_map f) slot_is) ∙ ap (map (option_map f)) row_is)

-- what is seen of a slot, whether it is empty or not
pub seen-slot : {A B : Type 0} (f : Option A → B) (rows : List (List (Option A))) (n l : ℕ)
    → slice_index_or (slice_index_or (map (map f) rows) n []) l (f None) ≡ f (slot_at rows n l)
seen-slot {A} {B} f rows n l =
    ap (λ (row : List B). get_or row l (f None)) (get_or-map (map f) rows n []) ∙ get_or-map f (get_or rows n []) l None

-- rows of four
module _ {A : Type 0} (nodes : ℕ) (rows : List (List A)) (r : AreRowsOfFour nodes rows) where
  pub row_length : (n : ℕ) → n < nodes → length (slice_index_or rows n []) ≡ 4
  row_length n b = r.four n [] (subst (λ (k : ℕ). n < k) (sym r.count) b)

pub four-map : {A B : Type 0} (f : A → B) (nodes : ℕ) (rows : List (List (Option A))) → AreRowsOfFour nodes rows
    → AreRowsOfFour nodes (map_slots f rows)
four-map f nodes rows r =
    record {
      count = rows-length f rows ∙ r.count;
      four = All-map (λ row. length row ≡ 4) (map (option_map f)) rows
          (All-weaker (λ row. length row ≡ 4) (λ row. length (map (option_map f) row) ≡ 4)
          (λ row h. length-map row (option_map f) ∙ h) rows r.four);
    }

pub four-seen : {A B : Type 0} (f : A → B) (nodes : ℕ) (rows : List (List (Option A)))
    → AreRowsOfFour nodes (map_slots f rows) → AreRowsOfFour nodes rows
four-seen f nodes rows r =
    record {
      count = sym (rows-length f rows) ∙ r.count;
      four = λ n d b.
          sym (length-map (get_or rows n d) (option_map f))
          ∙ ap length (sym (get_or-map (map (option_map f)) rows n d))
          ∙ r.four n (map (option_map f) d) (omega (arith, b, rows-length f rows));
    }

pub four-set : {A : Type 0} (nodes : ℕ) (rows : List (List (Option A))) (n l : ℕ) (x : Option A) → n < nodes
    → AreRowsOfFour nodes rows → AreRowsOfFour nodes (with_slot n l x rows)
four-set {A} nodes rows n l x b r =
    record { count = length-set rows n (set (get_or rows n []) l x) ∙ r.count; four = λ m d c. by m d c (cases_eq m n) }
  where
    by : (m : ℕ) (d : List (Option A)) → m < length (with_slot n l x rows) → (m ≡ n) ⊎ (m ≢ n)
        → length (get_or (with_slot n l x rows) m d) ≡ 4
    by m d c (inl q) =
        rw q (ap length (get_or-set_same rows n (set (get_or rows n []) l x) d (omega (arith, b, r.count)))
        ∙ length-set (get_or rows n []) l x ∙ row_length nodes rows r n b)
    by m d c (inr q) =
        ap length (get_or-set_other rows n m (set (get_or rows n []) l x) d q)
        ∙ r.four m d (omega (arith, c, length-set rows n (set (get_or rows n []) l x)))

-- rows in which nothing is held
module _ {A : Type 0} (nodes : ℕ) (rows : List (List (Option A))) (is : rows ≡ replicate nodes (replicate 4 None)) where
  rows_are : length rows ≡ nodes
  rows_are = ap length is ∙ length-replicate nodes (replicate {A = Option A} 4 None)

  pub four-none : AreRowsOfFour nodes rows
  four-none =
      record {
        count = rows_are;
        four = λ n d b.
            ap (λ (xs : List (List (Option A))). length (get_or xs n d)) is
            ∙ ap length (get_or-replicate nodes n (replicate {A = Option A} 4 None) d (omega (arith, b, rows_are)));
      }

  none-among : (k l : ℕ) → get_or {A = Option A} (replicate k None) l None ≡ None
  none-among zero l = refl
  none-among (suc k) zero = refl
  none-among (suc k) (suc l) = none-among k l

  pub none-held : (n l : ℕ) → slot_at rows n l ≡ None
  none-held n l = ap (λ (xs : List (List (Option A))). slot_at xs n l) is ∙ by nodes n
    where
      by : (k n : ℕ) → slot_at {A = A} (replicate k (replicate 4 None)) n l ≡ None
      by zero n = refl
      by (suc k) zero = none-among 4 l
      by (suc k) (suc n) = by k n
