use Rattle.std.proofs.Common.{ap₂, ◌∙◌, rules}
use Rattle.toml.specs.View.{table_view}
use Rattle.twiring.specs.Wirings.{hold_keys}
use Rattle.twiring.specs.WiringParts.{both, held_in}
use Rattle.twiring.proofs.WiringAnswers.{answer-known, answer-told}
use Rattle.twiring.proofs.WiringValues.{hold_from}
use Rattle.twiring.proofs.wiring.HoldSection.read.Goals as goal

pub returns-in_err-end : goal.returns-in_err-end
returns-in_err-end c =
    let t = table_view c.args.table.now in
    let parts = c.both.ensures
    ∙ ap₂ both (c.both-place.ensures ∙ ap₂ both c.end_at.ensures c.kind_at.ensures) (c.both-rounds.ensures
    ∙ ap₂ both c.number_at.ensures c.number_at-2.ensures) in
    answer-known hold_from hold_keys t (held_in t) c.both.result c.from_residual-in_err-end.result (search rules)
    (answer-told (held_in t) c.both.result parts) (search rules)
