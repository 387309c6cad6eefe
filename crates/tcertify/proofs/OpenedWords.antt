-- Words before the first step.
use Rattle.std.proofs.Common.{◌≡◌, ◌<◌, ◌+◌, ℕ, zero, suc, arith, subst, ◌⊎◌, inl, inr, refl, sym, ap, ◌∙◌, Bool}
use Rattle.std.proofs.Common.{true, false, List, [], ◌∷◌, Option, Some, None}
use Rattle.std.specs.Prelude.{slice_get, slice_set, if◌then◌else◌}
use Rattle.std.proofs.lemmas.Bool.{cases_eq}
use Rattle.std.proofs.lemmas.Option.{same_Some}
use Rattle.std.specs.List.{list_any}
use Rattle.tword.specs.Stores.{Store}
use Rattle.tplan.specs.declared.plan.NodePlan.{NodePlan}
use Rattle.tprocesses.specs.Opening.{loaded_byte, opened_word}
use Rattle.tprocesses.specs.Values.{Use, Word, unknown}
use Rattle.tcertify.specs.declared.cells.Cells.{Cells}
use Rattle.tcertify.specs.declared.stored.StoredWord.{StoredWord}
use Rattle.tcertify.specs.declared.word_use.WordUse.{WordUse}
use Rattle.tcertify.specs.Cells.{cells_of}
use Rattle.tcertify.specs.Opened.{IsOpened, is_unknown_below, loaded_cells, opened_cells, opened_use}
use Rattle.tcertify.specs.Words.{use_of}
use Rattle.tcertify.proofs.Places.{set_elsewhere}

-- a cell by whether it is known
abbrev cell_if : NodePlan → ℕ → ℕ → Bool → Option ℕ
cell_if plan a k t = if t then None else Some (loaded_byte plan (a + k))

abbrev cells_if : NodePlan → ℕ → Bool → Store
cells_if plan a t = cell_if plan a 0 t ∷ cell_if plan a 1 t ∷ cell_if plan a 2 t ∷ cell_if plan a 3 t ∷ []

by_known : (plan : NodePlan) (a : ℕ) (t : Bool)
    → cells_if plan a t ≡ (if t then unknown else loaded_cells plan.image.segments a)
by_known plan a true = refl
by_known plan a false = refl

set_only : (ws : List StoredWord) (i : ℕ) (w x : StoredWord) → slice_get (slice_set ws i w) i ≡ Some x → x ≡ w
set_only [] i w x e = cc
set_only (v ∷ vs) zero w x e = sym (same_Some w x e)
set_only (v ∷ vs) (suc i) w x e = set_only vs i w x e

pub opened_so : (plan : NodePlan) (a : ℕ) (cells : Cells) (used : WordUse) → cells_of cells ≡ opened_cells plan a
    → use_of used ≡ opened_use plan a
    → ◌≡◌ {A = Word} (record { cells = cells_of cells; used = use_of used }) (opened_word plan a)
opened_so plan a cells used e f =
    ap (λ (s : Store). record { cells = s; used = use_of used })
    (e ∙ sym (by_known plan a (list_any (is_unknown_below a) plan.image.processes)))
    ∙ ap (λ (u : Use). record {
      cells = cells_if plan a (list_any (is_unknown_below a) plan.image.processes);
      used =
          u;
    }) f

-- one more word is as it is before the first step
pub opened_more : (plan : NodePlan) (ws vs : List StoredWord) (i : ℕ) (w : StoredWord) → IsOpened plan i w
    → vs ≡ slice_set ws i w
    → ((k : ℕ) (x : StoredWord) → k < i → slice_get ws k ≡ Some x → IsOpened plan k x)
    → (k : ℕ) (x : StoredWord) → k < i + 1 → slice_get vs k ≡ Some x → IsOpened plan k x
opened_more plan ws vs i w opened set before k x low there = by (cases_eq i k)
  where
    at : slice_get (slice_set ws i w) k ≡ Some x
    at = ap (λ (us : List StoredWord). slice_get us k) (sym set) ∙ there

    by : (i ≡ k) ⊎ (i ≡ k → ⊥) → IsOpened plan k x
    by (inl e) =
        let is : x ≡ w = set_only ws i w x (ap (slice_get (slice_set ws i w)) e ∙ at) in
        subst (λ (j : ℕ). IsOpened plan j x) e (subst (λ (y : StoredWord). IsOpened plan i y) (sym is) opened)
    by (inr ne) = before k x (omega (arith, low, ne)) (sym (set_elsewhere ws i k w ne) ∙ at)
