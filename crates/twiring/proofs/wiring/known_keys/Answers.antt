use Rattle.std.proofs.Common.{ap, ◌∙◌, map, rules}
use Rattle.std.specs.List.{list_any}
use Rattle.twiring.proofs.WiringAnswers.{is_unknown, has_unknown-keys}
use Rattle.twiring.proofs.wiring.known_keys.Goals as goal

pub loop-key-init : goal.loop-key-init
loop-key-init c =
    let names = map (λ name. name.now) c.args.names.now in
    (tt, tt, has_unknown-keys names c.args.table.now.entries ∙ ap (list_any (is_unknown names)) (search rules))
