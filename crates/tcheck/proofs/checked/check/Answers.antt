use Rattle.std.proofs.Common.{◌≡◌, ◌∙◌, ap, sym, subst, List, [], map}
use Rattle.std.specs.Prelude.{◌↔◌, zip}
use Rattle.tplan.specs.declared.wiring.WiringNode.{WiringNode}
use Rattle.tcheck.specs.declared.flaws.Wrong.{Wrong}
use Rattle.tcheck.specs.Checks.{check_wrongs, IsAccepted, planned}
use Rattle.tcheck.proofs.Accepted.{accepted}
use Rattle.tcheck.proofs.Wholes.{all_checked, all_found}
use Rattle.tcheck.proofs.checked.check.Goals as goal

-- the nodes are planned, and all that is wrong is found
module _ (c : goal.After-drop-holds-inside-2) where
  nodes : c.in_ok-planned.planned ≡ map planned (zip c.args.wiring.nodes c.args.files.now)
  nodes = c.in_ok-planned.ensures.plans
      ∙ ap (λ (ns : List WiringNode). map planned (zip ns c.args.files.now)) c.as_slice.ensures

  exact : c.new-2.result ≡ check_wrongs c.args.wiring c.args.files.now
  exact =
      all_found c.args.wiring c.args.files.now c.in_ok-planned.planned _ _ _ _ _ c.new-2.result
      c.new-found.ensures.items nodes c.in_ok-planned.ensures.found c.in_ok-add_plan_wrongs.ensures
      c.in_ok-add_plan_hold_wrongs.ensures c.as_slice-3.ensures c.new-2.ensures

pub returns-clause-nothing : goal.returns-clause-nothing
returns-clause-nothing c =
    subst (λ (ws : List Wrong). (ws ≡ []) ↔ IsAccepted c.args.wiring c.args.files.now) (sym (exact c))
    (accepted c.args.wiring c.args.files.now)

pub returns-clause-exact : goal.returns-clause-exact
returns-clause-exact c =
    all_checked c.args.wiring c.args.files.now c.in_ok-planned.planned c.new.result c.new-2.result (nodes c)
    (c.new.ensures ∙ c.in_ok-wires.ensures) (exact c)
