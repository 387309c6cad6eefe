use Rattle.std.proofs.Common.{◌≤◌, [], length, sym, ap, ◌∙◌, arith}
use Rattle.std.specs.List.{list_any, position_from}
use Rattle.std.proofs.lemmas.Iterator.Adapters.{position_from-zero}
use Rattle.std.proofs.lemmas.List.{drop_all}
use Rattle.tnet.specs.Building.{is_bad_end, named_ends}
use Rattle.tnet.proofs.PlannedWires.{length-named_ends}
use Rattle.tnet.proofs.FirstFaults.{position_here, position_next}
use Rattle.tnet.proofs.faults.first_bad_end.Goals as goal

pub loop-place-init : goal.loop-place-init
loop-place-init c =
    position_from-zero (list_any (is_bad_end (length c.args.plan.now.nodes))) (named_ends c.args.plan.now)

pub returns : goal.returns
returns c =
    let past : length (named_ends c.args.plan.now) ≤ c.loop-place.place =
    omega (arith, c.loop-place-test.false, c.wire_count-place-end.ensures, length-named_ends c.args.plan.now) in
    sym (c.loop-place.invariant
    ∙ ap (position_from (list_any (is_bad_end (length c.args.plan.now.nodes))) c.loop-place.place)
    (drop_all c.loop-place.place (named_ends c.args.plan.now) past))

pub returns-then-names_bad_end : goal.returns-then-names_bad_end
returns-then-names_bad_end c =
    sym (c.loop-place.invariant
    ∙ position_here (list_any (is_bad_end (length c.args.plan.now.nodes))) (named_ends c.args.plan.now)
    c.loop-place.place []
    (omega (arith, c.loop-place-test.true, c.wire_count-place-end.ensures, length-named_ends c.args.plan.now))
    (sym c.names_bad_end.ensures ∙ c.if-names_bad_end.true))

pub loop-place-preserved : goal.loop-place-preserved
loop-place-preserved c =
    c.loop-place.invariant
    ∙ position_next (list_any (is_bad_end (length c.args.plan.now.nodes))) (named_ends c.args.plan.now)
    c.loop-place.place []
    (omega (arith, c.loop-place-test.true, c.wire_count-place-end.ensures, length-named_ends c.args.plan.now))
    (sym c.names_bad_end.ensures ∙ c.if-names_bad_end.false)
