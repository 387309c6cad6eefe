use Rattle.std.proofs.Common.{◌≡◌, ◌≢◌, ◌<◌, ◌*◌, ℕ, Some}
use Rattle.std.specs.Prelude.{slice_get}
use Rattle.tword.specs.Words.{minus, plus}
use Rattle.tcode.specs.declared.code_table.CodeEntry.{CodeEntry}
use Rattle.tcode.proofs.code_table.CodeTable.forget_word.Given as goal

abbrev pub invariant-loop-k : goal.invariant-loop-k
invariant-loop-k l = record {
  words : l.self.words ≡ l.fn.self.words;
  low : l.self.low ≡ l.fn.self.low;
  last : l.self.last ≡ l.fn.self.last;
  dropped :
      (k : ℕ) (e : CodeEntry) → slice_get l.self.entries.items k ≡ Some e → 0 < e.length
      → (slice_get l.fn.self.entries.items k ≡ Some e)
      × ((j : ℕ) → j < l.k → e.address ≢ plus (minus (4 * l.fn.word) 1) j);
}
