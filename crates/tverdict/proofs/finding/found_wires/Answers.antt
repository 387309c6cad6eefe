use Rattle.std.proofs.Common.{◌<◌, ◌++◌, ◌∷◌, ◌∙◌, [], List, ap, arith, get_or, length, subst, sym, take}
use Rattle.std.proofs.lemmas.List.{take_more}
use Rattle.tplan.specs.declared.plan.Wire.{Wire}
use Rattle.tverdict.specs.Opening.{AreEnds}
use Rattle.tverdict.proofs.FoundAgents.{wire_found}
use Rattle.tverdict.proofs.finding.found_wires.Goals as goal

pub loop-wire-preserved : goal.loop-wire-preserved
loop-wire-preserved c =
    let ws = c.args.wires.now in let i = c.loop-wire.wire-index in let items = c.as_slice-wire-items.result.now in
    let none : Wire = record { a = record { node = 0; link = 0 }; b = record { node = 0; link = 0 } } in
    let low : i < length ws = omega (arith, c.loop-wire-test.true, ap length c.as_slice-wire-items.ensures) in
    subst (λ (xs : List Wire). AreEnds xs c.find_wire_to-in-loop-wire.new.agents.items)
    (ap (λ (xs : List Wire). take i ws ++ get_or xs i none ∷ []) c.as_slice-wire-items.ensures
    ∙ sym (take_more ws i none low))
    (wire_found (take i ws) (get_or items i none) c.loop-wire.agents.items c.find_wire_to.new.agents.items
    c.find_wire_to-in-loop-wire.new.agents.items c.loop-wire.invariant c.in_ok-find_wire_to.ensures
    c.in_ok-find_wire_to-2.ensures)
