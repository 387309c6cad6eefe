use Rattle.std.proofs.Common.{◌≡◌, ◌<◌, ◌≤◌, ◌%◌, ℕ, ap, sym}
use Rattle.tcode.specs.Known.{IsFetchedWhole, IsMarked, OfEachByte, TellsItsBytes}
use Rattle.tcode.specs.Known.{entry_count}
use Rattle.tcode.proofs.Tables.{set_all}
use Rattle.tcode.proofs.code_table.CodeTable.keep.Goals as goal

pub invariant_of-self : goal.invariant_of-self
invariant_of-self c =
    let new = c.mark_bytes.new.self in
    let place : ℕ = c.get.result % 256 in
    record {
      coded =
          set_all (λ k e. TellsItsBytes e × OfEachByte (IsMarked new.words.items) e) new.entries.items place
          c.args.entry
          new.coded (c.requires, c.mark_bytes.ensures.marked c.if-mark_bytes.true);
      placed =
          set_all
          (λ k e. (0 < e.length → e.address % entry_count ≡ k) × OfEachByte (λ a. (new.low ≤ a) × (a ≤ new.last)) e)
          new.entries.items place c.args.entry new.placed
          (λ _. ap (λ n. n % entry_count) (sym c.get.ensures), c.mark_bytes.ensures.within c.if-mark_bytes.true);
    }

pub returns-then-mark_bytes : goal.returns-then-mark_bytes
returns-then-mark_bytes c = λ store claims old whole.
    set_all (λ k e. IsFetchedWhole store claims e) c.mark_bytes.new.self.entries.items (c.get.result % 256) c.args.entry
    (rw c.mark_bytes.ensures.same old) whole
