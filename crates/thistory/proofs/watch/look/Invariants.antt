use Rattle.std.proofs.Common.{◌≡◌, ℕ, ◌<◌, get_or, length, None}
use Rattle.tword.specs.Words.{plus}
use Rattle.thistory.specs.Deeds.{processor_in}
use Rattle.thistory.specs.Watch.{seen_byte}
use Rattle.thistory.proofs.watch.look.Given as goal

-- those before are as they are seen
abbrev pub invariant-loop-index : goal.invariant-loop-index
invariant-loop-index l = record {
  size : length l.cells ≡ l.place.length;
  so_far : (k : ℕ) → k < l.index
      → get_or l.cells k None ≡ seen_byte (processor_in l.net l.place.node) (plus l.place.address k);
}
