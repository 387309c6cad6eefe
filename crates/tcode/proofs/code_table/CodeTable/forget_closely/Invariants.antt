use Rattle.std.proofs.Common.{◌≡◌, ◌<◌, ◌≤◌, ◌≢◌, ◌/◌, ℕ, Some}
use Rattle.std.specs.Prelude.{slice_get}
use Rattle.tcode.specs.Known.{OfEachByte}
use Rattle.tcode.specs.declared.code_table.CodeEntry.{CodeEntry}
use Rattle.tcode.proofs.code_table.CodeTable.forget_closely.Given as goal

abbrev pub invariant-loop-word : goal.invariant-loop-word
invariant-loop-word l = record {
  low : l.self.low ≡ l.fn.self.low;
  last : l.self.last ≡ l.fn.self.last;
  forgotten :
      (k : ℕ) (e : CodeEntry) → slice_get l.self.entries.items k ≡ Some e → 0 < e.length
      → (slice_get l.fn.self.entries.items k ≡ Some e)
      × ((w : ℕ) → l.first ≤ w → w < l.word
      → OfEachByte (λ a. a / 4 ≢ w) e);
}
