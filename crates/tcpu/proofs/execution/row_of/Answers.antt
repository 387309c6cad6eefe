use Rattle.tcpu.proofs.execution.row_of.Goals as goal

pub short_row-count-requires-clause-knows : goal.short_row-count-requires-clause-knows
short_row-count-requires-clause-knows c =
    rw (c.as_slice-entries.ensures.value, c.as_slice-words.ensures.value)
    (record { coded = c.loop-done.codes.coded; fetched = c.loop-done.invariant.fetched })
