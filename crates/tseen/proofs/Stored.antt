-- The store beside a state that tells of it, where both are read and written.
use Rattle.std.proofs.Common.{◌≡◌, ℕ, zero, suc, ◌+◌, ◌-◌, ◌*◌, ◌<◌, ◌≤◌, ◌/◌, refl, sym, ap, subst, ◌∙◌, List, []}
use Rattle.std.proofs.Common.{◌∷◌, ◌++◌, length, get_or, take, drop, Bool, true, false, true≢false, Option, Some}
use Rattle.std.proofs.Common.{None}
use Rattle.std.proofs.Common.{arith, ◌⊎◌, inl, inr, unwrap_or, add-zero, append-nil}
use Rattle.std.specs.Int.{w32, from_le_bytes}
use Rattle.std.proofs.lemmas.Bool.{cases_lt, le-ltb}
use Rattle.std.proofs.lemmas.List.{take-append-drop}
use Rattle.std.proofs.lemmas.Option.{slice_get-get_or}
use Rattle.tword.specs.Words.{most_neg}
use Rattle.tword.specs.Stores.{Store, place, with_cells, as_cells, shown, word_at, byte_at}
use Rattle.tword.specs.Claims.{Claims}
use Rattle.tword.proofs.Copying.{length-with_cells, with_cells-below, with_cells-in, with_cells-above}
use Rattle.tprocesses.specs.Places.{WordAt, Sending}
use Rattle.tprocesses.specs.Values.{Free, amount_in}
use Rattle.tprocesses.specs.Changes.{are_known}
use Rattle.tprocesses.specs.Performing.{bytes_if}
use Rattle.tseen.proofs.After.{State}
use Rattle.tseen.proofs.Cells.{word_of, use_of, cell, Knows, Tells, shows_from}
use Rattle.tseen.proofs.Touched.{Permits}
use Rattle.tseen.proofs.Written.{Keeps, AreSet, keeps_self, keeps_more}
use Rattle.tseen.proofs.Reading.{same_word}

-- two stores differ in cells of free words alone
abbrev pub DiffersInFree : (s : State) (n : ℕ) → Store → Store → Type 0
DiffersInFree s n store store' =
    (i : ℕ) → (use_of s n (i / 4) ≡ Free → ⊥) → get_or store' i None ≡ get_or store i None

-- state and store went on together: the state tells of the store, and free words alone changed
pub record GoesOn (n size : ℕ) (s t : State) (store store' : Store) : Type 0 where
  pub tells : Tells t n size store'
  pub keeps : Keeps n s t
  pub only : DiffersInFree s n store store'

pub goes_on_self : (n size : ℕ) (s : State) (store : Store) → Tells s n size store → GoesOn n size s s store store
goes_on_self n size s store t = record { tells = t; keeps = keeps_self n s; only = λ i h. refl }

pub goes_on_more : (n size : ℕ) (s t u : State) (store store' store'' : Store) → GoesOn n size s t store store'
    → GoesOn n size t u store' store'' → GoesOn n size s u store store''
goes_on_more n size s t u store store' store'' a b =
    record {
      tells = b.tells;
      keeps = keeps_more n s t u a.keeps b.keeps;
      only = λ i h. b.only i (λ e. h (sym (a.keeps.uses (i / 4)) ∙ e)) ∙ a.only i h;
    }

-- claims permit what they did
pub permits_on : (s t : State) (n : ℕ) (claims : Claims) → Keeps n s t → Permits s n claims → Permits t n claims
permits_on s t n claims k p =
    record {
      reads = λ i e. p.reads i (sym (k.uses i) ∙ e);
      writes = λ i e z. p.writes i (sym (k.uses i) ∙ e)
          (sym (ap amount_in (k.others (Sending n i) refl)) ∙ z);
    }

-- cells that may be set at an address in a memory of this size
abbrev pub LieThere : (size a count : ℕ) → Type 0
LieThere size a count = (count ≡ 0) ⊎ ((most_neg ≤ a) × (a - most_neg + count ≤ size))

nothing_set : (store : Store) (a : ℕ) → with_cells store a [] ≡ store
nothing_set store a =
    rw (add-zero (place a)) (ap (λ (xs : Store). xs ++ drop (place a) store) (append-nil (take (place a) store))
    ∙ take-append-drop (place a) store)

module _ (n size : ℕ) (s t : State) (store : Store) (a : ℕ) (known there : Store) (tells : Tells s n size store)
    (keeps : Keeps n s t) (set : AreSet n (place a) known s t) (same : length known ≡ length there)
    (each : (j : ℕ) → j < length known → Knows (get_or known j None) (get_or there j None))
    (free : (i : ℕ) → place a ≤ i → i < place a + length there → use_of s n (i / 4) ≡ Free) where
  set_some : most_neg ≤ a → a - most_neg + length there ≤ size → GoesOn n size s t store (with_cells store a there)
  set_some above within =
      record {
        tells = record {
          length = length-with_cells store a (length there) there above room refl ∙ tells.length;
          words = λ k h. keeps.whole k (tells.words k h);
          cells = λ i h. cells i h (cases_lt i (place a)) (cases_lt i (place a + length there));
        };
        keeps = keeps;
        only = λ i h. only i h (cases_lt i (place a)) (cases_lt i (place a + length there));
      }
    where
      room : a - most_neg + length there ≤ length store
      room = omega (arith, within, tells.length)

      cells : (i : ℕ) → i < size → (i < place a) ⊎ (place a ≤ i)
          → (i < place a + length there) ⊎ (place a + length there ≤ i)
          → Knows (cell t n i) (get_or (with_cells store a there) i None)
      cells i h (inl b) c =
          rw (set.outside i (inl b), with_cells-below store a (length there) there above room refl i b)
          (tells.cells i h)
      cells i h (inr b) (inr c) =
          rw (
            set.outside i (inr (omega (arith, same, c))),
            with_cells-above store a (length there) there above room refl i c,
          )
          (tells.cells i h)
      cells i h (inr b) (inl c) =
          let e : place a + (i - place a) ≡ i = omega arith in
          let f : cell t n i ≡ get_or known (i - place a) None =
          ap (cell t n) (sym e) ∙ set.inside (i - place a) (omega (arith, same, c)) in
          rw (f, with_cells-in store a (length there) there above room refl i b c)
          (each (i - place a) (omega (arith, same, c)))

      only : (i : ℕ) → (use_of s n (i / 4) ≡ Free → ⊥) → (i < place a) ⊎ (place a ≤ i)
          → (i < place a + length there) ⊎ (place a + length there ≤ i)
          → get_or (with_cells store a there) i None ≡ get_or store i None
      only i h (inl b) c = with_cells-below store a (length there) there above room refl i b
      only i h (inr b) (inr c) = with_cells-above store a (length there) there above room refl i c
      only i h (inr b) (inl c) = absurd (h (free i b c))

-- cells are set in both
pub set_both : (n size : ℕ) (s t : State) (store : Store) (a : ℕ) (known there : Store) → Tells s n size store
    → Keeps n s t → AreSet n (place a) known s t → length known ≡ length there
    → ((j : ℕ) → j < length known → Knows (get_or known j None) (get_or there j None))
    → ((i : ℕ) → place a ≤ i → i < place a + length there → use_of s n (i / 4) ≡ Free)
    → LieThere size a (length there) → GoesOn n size s t store (with_cells store a there)
set_both n size s t store a known there tells keeps set same each free (inr b) =
    set_some n size s t store a known there tells keeps set same each free b.0 b.1
set_both n size s t store a known [] tells keeps set same each free (inl z) =
    rw (nothing_set store a) (record {
      tells = record {
        length = tells.length;
        words = λ k h. keeps.whole k (tells.words k h);
        cells = λ i h. rw (set.outside i (side i (cases_lt i (place a)))) (tells.cells i h);
      };
      keeps = keeps;
      only = λ i h. refl;
    })
  where
    side : (i : ℕ) → (i < place a) ⊎ (place a ≤ i) → (i < place a) ⊎ (place a + length known ≤ i)
    side i (inl b) = inl b
    side i (inr b) = inr (omega (arith, same))
set_both n size s t store a known (x ∷ there) tells keeps set same each free (inl z) = absurd (omega (arith, z))

-- bytes that are known or not
pub knows_same : (x : Option ℕ) → Knows x x
knows_same None = tt
knows_same (Some b) = refl

unknown_bytes : (bytes : List ℕ) (x : Option ℕ) (j : ℕ) → Knows (get_or (bytes_if false bytes) j None) x
unknown_bytes [] x j = tt
unknown_bytes (b ∷ bs) x zero = tt
unknown_bytes (b ∷ bs) x (suc j) = unknown_bytes bs x j

pub knows_bytes : (known : Bool) (bytes others : List ℕ) → (known ≡ true → bytes ≡ others) → (j : ℕ)
    → Knows (get_or (bytes_if known bytes) j None) (get_or (as_cells others) j None)
knows_bytes false bytes others h j = unknown_bytes bytes (get_or (as_cells others) j None) j
knows_bytes true bytes others h j = rw (h refl) (knows_same (get_or (as_cells others) j None))

-- a word that is known is there
pub word_known : (n size : ℕ) (s : State) (store : Store) (k : ℕ) → Tells s n size store → 4 * k + 4 ≤ size
    → are_known (word_of s n k).cells ≡ true
    → from_le_bytes w32 (shown (word_of s n k).cells) ≡ word_at store (most_neg + 4 * k)
word_known n size s store k t h known =
    same_word store k (s (WordAt n k)) (shows_from s n size store t k h) known

-- one cell
one_cell : (xs : Store) → length xs ≡ 1 → xs ≡ get_or xs 0 None ∷ []
one_cell [] e = absurd (omega (arith, e))
one_cell (x ∷ []) e = refl
one_cell (x ∷ y ∷ ys) e = absurd (omega (arith, e))

number_of_byte : (c : Option ℕ) → from_le_bytes w32 (shown (c ∷ [])) ≡ unwrap_or c 0
number_of_byte c = omega arith

byte_there : (store : Store) (a : ℕ) (c : Option ℕ) → most_neg ≤ a → place a < length store
    → get_or store (place a) None ≡ c → unwrap_or (byte_at store a) 0 ≡ unwrap_or c 0
byte_there store a c above within e =
    rw (le-ltb _ _ above, slice_get-get_or store (place a) None within, e) refl

-- a byte that is known is there
pub byte_known : (n size : ℕ) (s : State) (store : Store) (a : ℕ) (part : Store) → Tells s n size store
    → most_neg ≤ a → place a < size → length part ≡ 1 → get_or part 0 None ≡ cell s n (place a)
    → are_known part ≡ true → from_le_bytes w32 (shown part) ≡ unwrap_or (byte_at store a) 0
byte_known n size s store a part t above within one at known =
    ap (λ (xs : Store). from_le_bytes w32 (shown xs)) (one_cell part one)
    ∙ number_of_byte (get_or part 0 None)
    ∙ by (get_or part 0 None) refl
  where
    k : are_known (get_or part 0 None ∷ []) ≡ true
    k = subst (λ (xs : Store). are_known xs ≡ true) (one_cell part one) known

    by : (c : Option ℕ) → get_or part 0 None ≡ c → unwrap_or c 0 ≡ unwrap_or (byte_at store a) 0
    by None e = let z : false ≡ true = rw e at k in absurd (true≢false (sym z))
    by (Some b) e =
        let there : Knows (get_or part 0 None) (get_or store (place a) None) =
        subst (λ (x : Option ℕ). Knows x (get_or store (place a) None)) (sym at) (t.cells (place a) within) in
        let is : get_or store (place a) None ≡ Some b =
        subst (λ (x : Option ℕ). Knows x (get_or store (place a) None)) e there in
        sym (byte_there store a (Some b) above (omega (arith, within, t.length)) is)
