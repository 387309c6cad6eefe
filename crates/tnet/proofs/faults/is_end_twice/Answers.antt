use Rattle.std.proofs.Common.{sym, ◌∙◌}
use Rattle.std.proofs.lemmas.List.Folds.{list_any_more}
use Rattle.std.proofs.lemmas.Option.{get_or_from_slice_get, slice_get_within}
use Rattle.tplan.specs.Wires.{all_wires}
use Rattle.tnet.specs.Building.{share_an_end}
use Rattle.tnet.proofs.PlannedWires.{any_below}
use Rattle.tnet.proofs.faults.is_end_twice.Goals as goal

pub returns-then-share_an_end : goal.returns-then-share_an_end
returns-then-share_an_end c =
    sym (any_below (share_an_end c.args.wire) (all_wires c.args.plan.now)
    c.loop-earlier.earlier c.args.place c.wire_at.result c.wire_at.ensures c.loop-earlier-test.true
    (sym c.share_an_end.ensures ∙ c.if-share_an_end.true))

pub loop-earlier-preserved : goal.loop-earlier-preserved
loop-earlier-preserved c =
    let there = get_or_from_slice_get (all_wires c.args.plan.now) c.loop-earlier.earlier c.wire_at.result
    c.wire_at.result c.wire_at.ensures in
    list_any_more (share_an_end c.args.wire) (all_wires c.args.plan.now)
    c.loop-earlier.earlier c.wire_at.result
    (slice_get_within (all_wires c.args.plan.now) c.loop-earlier.earlier c.wire_at.result c.wire_at.ensures)
    ∙ rw (c.loop-earlier.invariant, there) (sym c.share_an_end.ensures ∙ c.if-share_an_end.false)
