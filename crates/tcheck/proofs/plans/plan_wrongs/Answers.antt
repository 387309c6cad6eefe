use Rattle.std.proofs.Common.{◌≡◌, sym, ap, ◌∙◌, subst, List, [], ◌++◌, IsOk}
use Rattle.std.specs.Prelude.{◌↔◌}
use Rattle.tnet.specs.Building.{built}
use Rattle.tcheck.specs.declared.flaws.Wrong.{Wrong}
use Rattle.tcheck.specs.Wrongs as spec
use Rattle.tcheck.proofs.FinePlans.{nothing_is_a_net}
use Rattle.tcheck.proofs.plans.plan_wrongs.Goals as goal

pub returns-clause-nothing : goal.returns-clause-nothing
returns-clause-nothing c =
    let exact : c.new.result ≡ spec.plan_wrongs c.args.plan.now =
    c.new.ensures ∙ c.in_ok-add_plan_wrongs.ensures
    ∙ ap (λ (ws : List Wrong). ws ++ spec.plan_wrongs c.args.plan.now) c.new-found.ensures.items in
    subst (λ (ws : List Wrong). (ws ≡ []) ↔ IsOk (built c.args.plan.now)) (sym exact)
    (nothing_is_a_net c.args.plan.now)
