use Rattle.std.proofs.Common.{◌≡◌, sym, subst, rules, List, [], IsOk}
use Rattle.std.specs.Prelude.{◌↔◌}
use Rattle.twiring.specs.declared.flaws.TextFlaw.{TextFlaw}
use Rattle.twiring.specs.Flaws as spec
use Rattle.twiring.specs.Wirings.{wiring_of_text}
use Rattle.twiring.proofs.FlawLaws.{nothing_is_a_wiring}
use Rattle.twiring.proofs.flaws.text_flaws.Goals as goal

pub returns-clause-nothing : goal.returns-clause-nothing
returns-clause-nothing c =
    let exact : c.new.result ≡ spec.text_flaws c.args.text.now = search rules in
    subst (λ (fs : List TextFlaw). (fs ≡ []) ↔ IsOk (wiring_of_text c.args.text.now)) (sym exact)
    (nothing_is_a_wiring c.args.text.now)
