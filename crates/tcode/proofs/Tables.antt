-- Tables of decoded code: what becomes of their facts where an entry or a mark is set.
use Rattle.std.proofs.Common.{◌≡◌, ◌≢◌, ℕ, zero, suc, ◌+◌, ◌*◌, ◌/◌, ◌%◌, ◌^◌, ◌<◌, ◌≤◌, refl, sym, ap, ◌∙◌, arith}
use Rattle.std.proofs.Common.{Bool, true, false, not, Some, List, [], ◌∷◌, length, ◌⊎◌, inl, inr, replicate}
use Rattle.std.specs.Prelude.{slice_get, slice_index, slice_set, nat_lt, ◌&&◌, ◌==◌, min, max}
use Rattle.std.proofs.lemmas.Bool.{cases_eq, cases_lt, eqb-true, le-ltb}
use Rattle.std.proofs.lemmas.List.{length-replicate, get_or-replicate, get_or-set_same, get_or-set_other, get_or_past}
use Rattle.std.proofs.lemmas.Option.{get_or_from_slice_get, slice_get_within}
use Rattle.tword.specs.Stores.{Store}
use Rattle.tword.specs.Claims.{Claims, overlap}
use Rattle.tword.specs.Touches.{byte_span}
use Rattle.tword.specs.Words.{minus, plus}
use Rattle.tcode.specs.declared.code_table.CodeEntry.{CodeEntry}
use Rattle.tcode.specs.Known.{ArePlaced, IsFetchedWhole, IsMarked, OfEachByte}
use Rattle.tcode.specs.Known.{entry_count, word_place}

-- what stands at a place after one was set: the new element there, elsewhere what was there
pub set_cases : {X : Type 0} (xs : List X) (i : ℕ) (y : X) (k : ℕ) (e : X) → slice_get (slice_set xs i y) k ≡ Some e
    → ((k ≡ i) × (y ≡ e)) ⊎ ((k ≢ i) × (slice_get xs k ≡ Some e))
set_cases [] i y k e h = cc
set_cases (x ∷ xs) zero y zero e h = inl (refl, cc)
set_cases (x ∷ xs) zero y (suc k) e h = inr (λ n. absurd (omega (arith, n)), h)
set_cases (x ∷ xs) (suc i) y zero e h = inr (λ n. absurd (omega (arith, n)), h)
set_cases {X} (x ∷ xs) (suc i) y (suc k) e h = next (set_cases xs i y k e h)
  where
    next : ((k ≡ i) × (y ≡ e)) ⊎ ((k ≢ i) × (slice_get xs k ≡ Some e))
        → ((suc k ≡ suc i) × (y ≡ e)) ⊎ ((suc k ≢ suc i) × (slice_get xs k ≡ Some e))
    next (inl p) = inl (ap suc p.0, p.1)
    next (inr q) = inr (λ n. q.0 (omega (arith, n)), q.1)

-- what holds of all elements holds after one of which it holds was set
pub set_all : {X : Type 0} (P : ℕ → X → Type 0) (xs : List X) (i : ℕ) (y : X)
    → ((k : ℕ) (e : X) → slice_get xs k ≡ Some e → P k e) → P i y
    → (k : ℕ) (e : X) → slice_get (slice_set xs i y) k ≡ Some e → P k e
set_all {X} P xs i y h p k e g = by (set_cases xs i y k e g)
  where
    by : ((k ≡ i) × (y ≡ e)) ⊎ ((k ≢ i) × (slice_get xs k ≡ Some e)) → P k e
    by (inl s) = rw (s.0, ← s.1) p
    by (inr o) = h k e o.1

-- what holds of one thing holds of each of many copies
pub replicate_all : {X : Type 0} (P : ℕ → X → Type 0) (n : ℕ) (y : X) → ((k : ℕ) → P k y)
    → (k : ℕ) (e : X) → slice_get (replicate n y) k ≡ Some e → P k e
replicate_all P n y p k e g =
    let within : k < n = omega (arith, slice_get_within (replicate n y) k e g, length-replicate n y) in
    let same : y ≡ e = sym (get_or-replicate n k y y within) ∙ get_or_from_slice_get (replicate n y) k e y g in
    rw (← same) (p k)

-- what follows of each address follows of those of an entry
pub each : (P Q : ℕ → Type 0) (e : CodeEntry) → ((a : ℕ) → P a → Q a) → OfEachByte P e → OfEachByte Q e
each P Q e f h = record { first = λ l. f _ (h.first l); second = λ l. f _ (h.second l) }

-- an entry without bytes
pub without_bytes : (P : ℕ → Type 0) (e : CodeEntry) → e.length ≡ 0 → OfEachByte P e
without_bytes P e none =
    record { first = λ l. absurd (omega (arith, l, none)); second = λ l. absurd (omega (arith, l, none)) }

pub unfetched : (store : Store) (claims : Claims) (e : CodeEntry) → e.length ≡ 0 → IsFetchedWhole store claims e
unfetched store claims e none =
    record { first = λ l. absurd (omega (arith, l, none)); second = λ l. absurd (omega (arith, l, none)) }

-- a mark that is set leaves those that there are
pub marked_on : (words : List ℕ) (p : ℕ) (a : ℕ) → IsMarked words a → IsMarked (slice_set words p 1) a
marked_on words p a m = by (cases_eq (word_place a) p)
  where
    by : (word_place a ≡ p) ⊎ (word_place a ≢ p) → IsMarked (slice_set words p 1) a
    by (inr other) = λ z. m (sym (get_or-set_other words p (word_place a) 1 0 other) ∙ z)
    by (inl same) = within (cases_lt p (length words))
      where
        within : (p < length words) ⊎ (length words ≤ p) → IsMarked (slice_set words p 1) a
        within (inl l) = λ z.
            let one : 1 ≡ 0 = sym (get_or-set_same words p 1 0 l) ∙ ap (slice_index (slice_set words p 1)) (sym same)
            ∙ z in
            absurd (omega (arith, one))
        within (inr l) = λ z. m (get_or_past words (word_place a) 0 (omega (arith, same, l)))

-- and is there
pub marked_at : (words : List ℕ) (p : ℕ) (a : ℕ) → p ≡ word_place a → p < length words
    → IsMarked (slice_set words p 1) a
marked_at words p a same l = λ z.
    let one : 1 ≡ 0 = sym (get_or-set_same words p 1 0 l) ∙ ap (slice_index (slice_set words p 1)) same ∙ z in
    absurd (omega (arith, one))

module _ (low last : ℕ) (entries : List CodeEntry) (placed : ArePlaced low last entries) (place address : ℕ)
    (there : place ≡ address % entry_count) where
  -- where nothing was put at the place of an address, no entry has it
  pub dropped : (y : CodeEntry) → y.length ≡ 0 → (k : ℕ) (e : CodeEntry)
      → slice_get (slice_set entries place y) k ≡ Some e → 0 < e.length
      → (slice_get entries k ≡ Some e) × (e.address ≢ address)
  dropped y none k e g some = by (set_cases entries place y k e g)
    where
      by : ((k ≡ place) × (y ≡ e)) ⊎ ((k ≢ place) × (slice_get entries k ≡ Some e))
          → (slice_get entries k ≡ Some e) × (e.address ≢ address)
      by (inl s) =
          let length : y.length ≡ e.length = ap (λ (x : CodeEntry). x.length) s.1 in
          absurd (omega (arith, none, length, some))
      by (inr o) =
          let at : e.address % entry_count ≡ k = (placed k e o.1).0 some in
          (o.1, λ same. o.0 (sym at ∙ ap (λ n. n % entry_count) same ∙ sym there))

  -- so where another one is there
  pub other : (x : CodeEntry) → slice_get entries place ≡ Some x → x.address ≢ address → (k : ℕ) (e : CodeEntry)
      → slice_get entries k ≡ Some e → 0 < e.length → (slice_get entries k ≡ Some e) × (e.address ≢ address)
  other x at differs k e g some = (
    g,
    λ same.
        let here : k ≡ place = sym ((placed k e g).0 some) ∙ ap (λ n. n % entry_count) same ∙ sym there in
        let is : Some e ≡ Some x = sym g ∙ ap (slice_get entries) here ∙ at in
        let equal : e ≡ x = cc in
        differs (sym (ap (λ (z : CodeEntry). z.address) equal) ∙ same),
  )

  -- and where the place is none of the table's
  pub nowhere : length entries ≤ place → (k : ℕ) (e : CodeEntry) → slice_get entries k ≡ Some e → 0 < e.length
      → (slice_get entries k ≡ Some e) × (e.address ≢ address)
  nowhere past k e g some = (
    g,
    λ same.
        let here : k ≡ place = sym ((placed k e g).0 some) ∙ ap (λ n. n % entry_count) same ∙ sym there in
        absurd (omega (arith, past, here, slice_get_within entries k e g)),
  )

-- a byte that lies before a span or behind it is no byte of it
pub apart_by : (a start size : ℕ) → (start ≤ a → a < start + size → ⊥)
    → overlap (byte_span a) (record { start = start; size = size }) ≡ false
apart_by a start size out = by (cases_lt a (start + size)) (cases_lt a start)
  where
    three : (x y z : Bool) → (y ≡ false) ⊎ (z ≡ false) → (x && y && z) ≡ false
    three false y z h = refl
    three true false z h = refl
    three true true false h = refl
    three true true true (inl h) = cc
    three true true true (inr h) = cc

    by : (a < start + size) ⊎ (start + size ≤ a) → (a < start) ⊎ (start ≤ a)
        → overlap (byte_span a) (record { start = start; size = size }) ≡ false
    by (inl p) (inr q) = absurd (out q p)
    by (inr p) q = three (nat_lt 0 size) (nat_lt a (start + size)) (nat_lt start (a + 1))
        (inl (le-ltb a (start + size) p))
    by (inl p) (inl q) =
        three (nat_lt 0 size) (nat_lt a (start + size)) (nat_lt start (a + 1))
        (inr (le-ltb start (a + 1) (omega (arith, q))))

-- the word of an address has a place of its own
pub placed_by : (a w : ℕ) → a / 4 ≡ w → word_place a ≡ word_place (4 * w)
placed_by a w is = omega (arith, is)

pub placed_apart : (a w : ℕ) → a < 2 ^ 32 → w < 2 ^ 30 → word_place a ≡ word_place (4 * w) → a / 4 ≡ w
placed_apart a w small few is = omega (arith, small, few, is)

-- the addresses at which an instruction with a byte of a word begins
pub five : (a w : ℕ) → a < 2 ^ 32 → w < 2 ^ 30 → ((j : ℕ) → j < 5 → a ≢ plus (minus (4 * w) 1) j)
    → (a / 4 ≢ w) × (plus a 1 / 4 ≢ w)
five a w small few none = (
  λ is. none (a % 4 + 1) (omega arith) (omega (arith, is, small)),
  λ is. none (plus a 1 % 4) (omega arith) (omega (arith, is, small, few)),
)

-- an entry has no byte of a word that is not marked
pub avoids_word : (words : List ℕ) (w : ℕ) (e : CodeEntry) → slice_index words (word_place (4 * w)) ≡ 0
    → OfEachByte (IsMarked words) e → OfEachByte (λ a. a / 4 ≢ w) e
avoids_word words w e clear marked =
    each (IsMarked words) _ e (λ a m is. m (ap (slice_index words) (placed_by a w is) ∙ clear)) marked

module _ (w last : ℕ) (e : CodeEntry) (small : last < 2 ^ 32) (few : w < 2 ^ 30) (within : OfEachByte (λ a. a ≤ last) e)
    (none : 0 < e.length → (j : ℕ) → j < 5 → e.address ≢ plus (minus (4 * w) 1) j) where
  -- nor of one of which all are dropped that could have one
  pub avoids_five : OfEachByte (λ a. a / 4 ≢ w) e
  avoids_five = record {
    first = λ l. (five e.address w (omega (arith, within.first l, small)) few (none l)).0;
    second = λ l.
        let some : 0 < e.length = omega (arith, l) in
        (five e.address w (omega (arith, within.first some, small)) few (none some)).1;
  }

  -- so that it does not need the mark of that word
  pub unmarked : (words : List ℕ) (p : ℕ) → p ≡ word_place (4 * w) → OfEachByte (IsMarked words) e
      → OfEachByte (IsMarked (slice_set words p 0)) e
  unmarked words p here marked = record {
    first = λ l. kept e.address (omega (arith, within.first l, small)) (avoids_five.first l) (marked.first l);
    second = λ l. kept (plus e.address 1) (omega (arith, within.second l, small)) (avoids_five.second l)
        (marked.second l);
  }
    where
      kept : (a : ℕ) → a < 2 ^ 32 → a / 4 ≢ w → IsMarked words a → IsMarked (slice_set words p 0) a
      kept a below other m = λ z.
          m (sym (get_or-set_other words p (word_place a) 0 0
          (λ same. other (placed_apart a w below few (same ∙ here)))) ∙ z)

-- a byte between the bounds that is of no word of a span between them is no byte of the span
pub apart_closely : (a low last start size first behind : ℕ) → low ≤ a → a ≤ last → first ≡ max start low / 4
    → (min (start + size) (last + 1) + 3) / 4 ≤ behind → ((w : ℕ) → first ≤ w → w < behind → a / 4 ≢ w)
    → overlap (byte_span a) (record { start = start; size = size }) ≡ false
apart_closely a low last start size first behind above below is ends none =
    apart_by a start size
    (λ from to. none (a / 4) (omega (arith, is, from, above)) (omega (arith, ends, to, below)) refl)

-- without a mark there is none
pub unmarked_so : (n : ℕ) → false ≡ not (n == 0) → n ≡ 0
unmarked_so n e = eqb-true n 0 (by (n == 0) e)
  where
    by : (b : Bool) → false ≡ not b → b ≡ true
    by true h = refl
    by false h = cc
