-- Words of a span that are marked one after another: noted, used, counted.
use Rattle.std.proofs.Common.{◌≡◌, ℕ, zero, suc, ◌+◌, ◌<◌, ◌≤◌, refl, ap, ◌∙◌, arith, below_more}
use Rattle.std.proofs.Common.{◌⊎◌, inl, inr, List, [], ◌∷◌, ◌++◌, length, set, Option, Some}
use Rattle.std.specs.Prelude.{slice_get}
use Rattle.tword.specs.Stores.{Store}
use Rattle.tcertify.specs.declared.notes.Mode.{Mode}
use Rattle.tcertify.specs.declared.notes.Notes.{Notes}
use Rattle.tcertify.specs.declared.stored.StoredWord.{StoredWord}
use Rattle.tcertify.specs.declared.stored.Words.{Words}
use Rattle.tcertify.specs.declared.word_use.WordUse.{WordUse}
use Rattle.tcertify.specs.Cells.{cells_of}
use Rattle.tcertify.specs.Notes.{Keeps, Tells}
use Rattle.tcertify.specs.Spans.{IsSameNode, bytes_in, sent_or, use_or}
use Rattle.tcertify.specs.Words.{IsTouched}
use Rattle.tcertify.proofs.Places.{set_elsewhere, set_here}
use Rattle.tcertify.proofs.Running.{keeps_all, keeps_on}
use Rattle.tcertify.proofs.Written.{kept_by_set, same_node, same_on}

-- the first words are noted
pub record NotedSoFar (w : Words) (first k : ℕ) (mode : Mode) (u : Words) : Type 0 where
  pub items : u.items.items ≡ w.items.items
  pub same : IsSameNode w u
  pub keeps : Keeps w.notes u.notes
  pub tells : (j : ℕ) → j < k → Tells u.notes (u.first_place + (first + j)) mode

pub none_noted : (w : Words) (first : ℕ) (mode : Mode) → NotedSoFar w first 0 mode w
none_noted w first mode =
    record {
      items = refl;
      same = same_node w;
      keeps = keeps_all w.notes;
      tells = λ j low. absurd (omega arith);
    }

-- what was told is told still
tells_still : (old new : Notes) (p q : ℕ) (mode : Mode) → Keeps old new → q ≡ p → Tells old p mode → Tells new q mode
tells_still old new p q mode keeps e t =
    record {
      noted = λ kept numbering access at tells. keeps.notes kept numbering access
          (t.noted (keeps.lost kept) numbering access (at ∙ e) tells);
    }

pub note_goes_on : (w u v : Words) (first k : ℕ) (mode : Mode) → NotedSoFar w first k mode u
    → IsTouched u (first + k) mode v → NotedSoFar w first (k + 1) mode v
note_goes_on w u v first k mode h t =
    record {
      items = t.items ∙ h.items;
      same = same_on w u v h.same
          (record { sized = ap length t.items; number = t.number; kind = t.kind; first = t.first });
      keeps = keeps_on w.notes u.notes v.notes h.keeps t.keeps;
      tells = below_more (λ (j : ℕ). Tells v.notes (v.first_place + (first + j)) mode) k
          (λ j low. tells_still u.notes v.notes (u.first_place + (first + j)) (v.first_place + (first + j)) mode t.keeps
          (ap (λ (n : ℕ). n + (first + j)) t.first) (h.tells j low)) t.tells;
    }

-- a word whose bytes stay
bytes_kept : (ws : List StoredWord) (k : ℕ) (x y : StoredWord) → slice_get ws k ≡ Some x
    → cells_of y.cells ≡ cells_of x.cells → bytes_in (set ws k y) ≡ bytes_in ws
bytes_kept [] k x y there e = refl
bytes_kept (w ∷ ws) zero x y there e =
    let is : x ≡ w = cc in
    ap (λ (c : Store). c ++ bytes_in ws) (e ∙ ap (λ (z : StoredWord). cells_of z.cells) is)
bytes_kept (w ∷ ws) (suc k) x y there e = ap (λ (l : Store). cells_of w.cells ++ l) (bytes_kept ws k x y there e)

-- the first words have a use
pub record GivenSoFar (w : Words) (first k : ℕ) (used : WordUse) (u : Words) : Type 0 where
  pub bytes : bytes_in u.items.items ≡ bytes_in w.items.items
  pub elsewhere : (j : ℕ) → (j < first) ⊎ (first + k ≤ j) → slice_get u.items.items j ≡ slice_get w.items.items j
  pub uses : (j : ℕ) → j < k → use_or (slice_get u.items.items (first + j)) ≡ Some used
  pub sending : (j : ℕ) → sent_or (slice_get u.items.items j) ≡ sent_or (slice_get w.items.items j)
  pub same : IsSameNode w u
  pub notes : u.notes ≡ w.notes

pub none_given : (w : Words) (first : ℕ) (used : WordUse) → GivenSoFar w first 0 used w
none_given w first used =
    record {
      bytes = refl;
      elsewhere = λ j h. refl;
      uses = λ j low. absurd (omega arith);
      sending = λ j. refl;
      same = same_node w;
      notes = refl;
    }

-- one more word of a row was set
module _ (u v : Words) (first k : ℕ) (x y : StoredWord) (there : slice_get u.items.items (first + k) ≡ Some x)
    (left : v.items.items ≡ set u.items.items (first + k) y) where
  pub before : (j : ℕ) → j < k → slice_get v.items.items (first + j) ≡ slice_get u.items.items (first + j)
  before j low =
      ap (λ (ws : List StoredWord). slice_get ws (first + j)) left
      ∙ set_elsewhere u.items.items (first + k) (first + j) y (λ e. absurd (omega arith))

  pub beside : (j : ℕ) → (j < first) ⊎ (first + (k + 1) ≤ j) → slice_get v.items.items j ≡ slice_get u.items.items j
  beside j (inl h) =
      ap (λ (ws : List StoredWord). slice_get ws j) left
      ∙ set_elsewhere u.items.items (first + k) j y (λ e. absurd (omega arith))
  beside j (inr h) =
      ap (λ (ws : List StoredWord). slice_get ws j) left
      ∙ set_elsewhere u.items.items (first + k) j y (λ e. absurd (omega arith))

  pub here : slice_get v.items.items (first + k) ≡ Some y
  here =
      ap (λ (ws : List StoredWord). slice_get ws (first + k)) left ∙ set_here u.items.items (first + k) y x there

  pub kept : {B : Type 0} (f : Option StoredWord → B) → f (Some y) ≡ f (Some x) → (j : ℕ)
      → f (slice_get v.items.items j) ≡ f (slice_get u.items.items j)
  kept f e j =
      ap (λ (ws : List StoredWord). f (slice_get ws j)) left
      ∙ kept_by_set f u.items.items (first + k) j x y there e

  pub fewer : (j : ℕ) → (j < first) ⊎ (first + (k + 1) ≤ j) → (j < first) ⊎ (first + k ≤ j)
  fewer j (inl h) = inl h
  fewer j (inr h) = inr (omega arith)

  module _ (w : Words) (node : IsSameNode u v) (notes : v.notes ≡ u.notes) where
    pub give_goes_on : (used : WordUse) → GivenSoFar w first k used u → y.cells ≡ x.cells → y.used ≡ used
        → y.sending ≡ x.sending → GivenSoFar w first (k + 1) used v
    give_goes_on used h cells is sending =
        record {
          bytes = ap bytes_in left
              ∙ bytes_kept u.items.items (first + k) x y there (ap (λ c. cells_of c) cells) ∙ h.bytes;
          elsewhere = λ j at. beside j at ∙ h.elsewhere j (fewer j at);
          uses = below_more (λ (j : ℕ). use_or (slice_get v.items.items (first + j)) ≡ Some used) k
              (λ j low. ap use_or (before j low) ∙ h.uses j low)
              (ap use_or here ∙ ap (λ (n : WordUse). Some n) is);
          sending = λ j. kept sent_or (ap (λ (n : ℕ). Some n) sending) j ∙ h.sending j;
          same = same_on w u v h.same node;
          notes = notes ∙ h.notes;
        }
