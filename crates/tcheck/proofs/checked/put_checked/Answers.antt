use Rattle.std.proofs.Common.{◌≡◌, ◌<◌, refl, sym, ap, ap₂, ◌∙◌, List, [], ◌∷◌, length, arith}
use Rattle.tplan.specs.declared.plan.Wire.{Wire}
use Rattle.tplan.specs.declared.wiring.WiringNode.{WiringNode}
use Rattle.tfiles.proofs.Told.{tells_as}
use Rattle.tcheck.specs.Checks.{told_text}
use Rattle.tcheck.specs.Summaries.{net_text}
use Rattle.tcheck.proofs.checked.put_checked.Goals as goal

-- a list of fewer than one is empty
none_of : {A : Type 0} (xs : List A) → length xs < 1 → xs ≡ []
none_of [] h = refl
none_of (x ∷ xs) h = absurd (omega (arith, h))

pub returns-in-empty : goal.returns-in-empty
returns-in-empty g c =
    let none : c.args.checked.now.wrongs ≡ [] =
    none_of c.args.checked.now.wrongs (rw c.as_slice.ensures at c.in-empty.len_below) in
    tells_as c.put_net.ensures
    (ap₂ (λ (ns : List WiringNode) (ws : List Wire). net_text ns ws c.args.checked.now.plan) c.as_slice-nodes.ensures
    c.as_slice-in-empty.ensures
    ∙ ap (told_text c.args.checked.now) (sym none))
