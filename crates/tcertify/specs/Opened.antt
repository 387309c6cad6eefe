-- A node before the first step.
-- Source: own choice, the opening of `tprocesses` at one node.
use Rattle.std.specs.Prelude.{ℕ, ◌≡◌, ◌+◌, ◌*◌, ◌==◌, Bool, List, [], ◌∷◌, map, fold, Some, slice_get, slice_set}
use Rattle.std.specs.Prelude.{if◌then◌else◌}
use Rattle.std.specs.List.{list_any}
use Rattle.tword.specs.Stores.{Store}
use Rattle.tword.specs.Words.{most_neg, word_below}
use Rattle.tproc.specs.Machine.{workspace_of}
use Rattle.tplan.specs.declared.plan.NodePlan.{NodePlan}
use Rattle.tplan.specs.declared.plan.Process.{Process}
use Rattle.tplan.specs.declared.plan.Segment.{Segment}
use Rattle.tprocesses.specs.Opening.{after_segment, opened_word}
use Rattle.tprocesses.specs.Touching.{Site}
use Rattle.tprocesses.specs.Values.{Free, Saved, Use, unknown}
use Rattle.tcertify.specs.declared.stored.StoredWord.{StoredWord}
use Rattle.tcertify.specs.declared.stored.Words.{Words}
use Rattle.tcertify.specs.Words.{word_of}

-- an address is that of one of the two highest saved words of a process, or of one of the three
abbrev pub is_unknown_below : ℕ → Process → Bool
is_unknown_below address q = list_any (λ k. word_below (workspace_of q.wdesc) k == address) (1 ∷ 2 ∷ [])

abbrev pub is_saved_below : ℕ → Process → Bool
is_saved_below address q = list_any (λ k. word_below (workspace_of q.wdesc) k == address) (1 ∷ 2 ∷ 3 ∷ [])

-- the four bytes at an address with segments loaded
abbrev pub loaded_cells : List Segment → ℕ → Store
loaded_cells segments address =
    map (λ k. Some (fold (after_segment (address + k)) 0 segments)) (0 ∷ 1 ∷ 2 ∷ 3 ∷ [])

-- a word is as it is before the first step, by its number: no pending output has a byte of it
abbrev pub IsOpened : NodePlan → ℕ → StoredWord → Type 0
IsOpened plan k w = (word_of w ≡ opened_word plan (most_neg + 4 * k)) × (w.sending ≡ 0)

-- so all of them are
abbrev pub AreOpened : NodePlan → List StoredWord → Type 0
AreOpened plan words = (k : ℕ) (w : StoredWord) → slice_get words k ≡ Some w → IsOpened plan k w

-- the bytes of a word before the first step, by its address, and what it is in use for
abbrev pub opened_cells : NodePlan → ℕ → Store
opened_cells plan a =
    if list_any (is_unknown_below a) plan.image.processes then unknown else loaded_cells plan.image.segments a

abbrev pub opened_use : NodePlan → ℕ → Use
opened_use plan a = if list_any (is_saved_below a) plan.image.processes then Saved else Free

-- words of which the one of this number is as it is before the first step now
pub record IsOpenedAt (plan : NodePlan) (old : Words) (k : ℕ) (new : Words) : Type 0 where
  pub word : StoredWord
  pub opened : IsOpened plan k word
  pub items : new.items.items ≡ slice_set old.items.items k word
  pub number : new.number ≡ old.number
  pub kind : new.kind ≡ old.kind
  pub first : new.first_place ≡ old.first_place
  pub notes : new.notes ≡ old.notes

-- the number of a node of a plan, the size of its memory, and its kind
abbrev pub planned_site : NodePlan → ℕ → Site
planned_site plan k = record { number = k; size = plan.memory; kind = plan.kind }
