use Rattle.std.proofs.Common.{◌≡◌, ◌<◌, ℕ, Some, [], false, length}
use Rattle.std.specs.Prelude.{slice_get}
use Rattle.tcertify.specs.declared.stored.StoredWord.{StoredWord}
use Rattle.tcertify.specs.Opened.{IsOpened}
use Rattle.tcertify.proofs.stored.Words.open.Given as goal

abbrev pub invariant-loop-index : goal.invariant-loop-index
invariant-loop-index l = record {
  number : l.words.number ≡ l.number;
  kind : l.words.kind ≡ l.plan.kind;
  count : length l.words.items.items ≡ l.count;
  first : l.words.first_place ≡ l.first_place;
  none : l.words.notes.items.items ≡ [];
  kept : l.words.notes.is_lost ≡ false;
  opened : (k : ℕ) (w : StoredWord) → k < l.index → slice_get l.words.items.items k ≡ Some w → IsOpened l.plan k w;
}
