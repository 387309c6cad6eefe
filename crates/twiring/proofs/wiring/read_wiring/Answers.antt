use Rattle.std.proofs.Common.{sym, ap, ◌∙◌, subst}
use Rattle.toml.specs.View.{table_view}
use Rattle.twiring.specs.Wirings.{IsWiringAnswer, wiring_of_document}
use Rattle.twiring.proofs.WiringValues.{wiring_in-whole}
use Rattle.twiring.proofs.wiring.read_wiring.Goals as goal

pub returns-in-Ok : goal.returns-in-Ok
returns-in-Ok c =
    subst (λ p. IsWiringAnswer p c.wiring.result) (wiring_in-whole (table_view c.in-Ok.root)
    ∙ sym (ap wiring_of_document c.in-Ok.ensures.ok)) c.wiring.ensures
