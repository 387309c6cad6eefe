use Rattle.std.proofs.Common.{◌≡◌, ◌<◌, ◌≤◌, ◌%◌, arith}
use Rattle.tcode.specs.Known.{IsFetchedWhole, IsMarked, OfEachByte, TellsItsBytes, entry_count}
use Rattle.tcode.proofs.Tables.{replicate_all, unfetched, without_bytes}
use Rattle.tcode.proofs.code_table.CodeTable.new.Goals as goal

pub invariant_of-result : goal.invariant_of-result
invariant_of-result c = record {
  coded =
      rw (c.in_ok-vec.ensures.items_if_clones_equal (λ y e. e))
      (replicate_all (λ k e. TellsItsBytes e × OfEachByte (IsMarked c.in_ok-vec-2.field-0.items) e) 256 c.none.result
      (λ k. (c.none.ensures.tells, without_bytes _ _ c.none.ensures.none)));
  placed =
      rw (c.in_ok-vec.ensures.items_if_clones_equal (λ y e. e))
      (replicate_all
      (λ k e. (0 < e.length → e.address % entry_count ≡ k) × OfEachByte (λ a. (4294967295 ≤ a) × (a ≤ 0)) e) 256
      c.none.result
      (λ k. (λ some. absurd (omega (arith, some, c.none.ensures.none)), without_bytes _ _ c.none.ensures.none)));
}

pub returns : goal.returns
returns c = λ store claims.
    rw (c.in_ok-vec.ensures.items_if_clones_equal (λ y e. e))
    (replicate_all (λ k e. IsFetchedWhole store claims e) 256 c.none.result
    (λ k. unfetched store claims c.none.result c.none.ensures.none))
