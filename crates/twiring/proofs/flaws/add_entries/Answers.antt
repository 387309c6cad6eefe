use Rattle.std.proofs.Common.{ap, ◌∙◌, ◌++◌}
use Rattle.toml.specs.View.{view}
use Rattle.twiring.specs.declared.flaws.Part.{Part}
use Rattle.twiring.specs.Flaws.{item_flaws}
use Rattle.twiring.proofs.FlawLists.{found_all, found_more, items_end, items_next}
use Rattle.twiring.proofs.flaws.add_entries.Goals as goal

pub loop-number-preserved : goal.loop-number-preserved
loop-number-preserved c =
    found_more c.args.found.now.items c.loop-number.found.items _ _ _ _ _ c.loop-number.invariant
    (items_next c.args.first c.args.entry c.loop-number.number c.args.array.now c.index-array-number.result
    c.loop-number-test.true c.index-array-number.is)
    (c.in_ok-add_entry.ensures
    ∙ ap (λ (p : Part). c.loop-number.found.items ++ item_flaws c.args.first c.args.entry p
    (view c.index-array-number.result))
    c.part.ensures)

pub returns : goal.returns
returns c =
    found_all c.args.found.now.items c.loop-number.found.items _ _ c.loop-number.invariant
    (items_end c.args.first c.args.entry c.loop-number.number c.args.array.now c.loop-number-test.false)
