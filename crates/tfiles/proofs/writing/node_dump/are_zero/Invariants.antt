use Rattle.std.proofs.Common.{◌≡◌, ◌+◌, drop}
use Rattle.std.specs.List.{list_all}
use Rattle.tword.specs.Stores.{as_cells, hiding_from}
use Rattle.tfiles.specs.Texts.{is_pending, is_zero}
use Rattle.tfiles.proofs.writing.node_dump.are_zero.Given as goal

abbrev pub invariant-loop-i : goal.invariant-loop-i
invariant-loop-i l =
    list_all is_zero (hiding_from (is_pending l.pending) (l.address + l.i) (as_cells (drop l.i l.bytes)))
    ≡ list_all is_zero (hiding_from (is_pending l.pending) l.address (as_cells l.bytes))
