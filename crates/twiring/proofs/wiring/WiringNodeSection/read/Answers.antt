use Rattle.std.proofs.Common.{codes, rules}
use Rattle.toml.specs.View.{table_view}
use Rattle.twiring.specs.Wirings.{node_keys}
use Rattle.twiring.specs.WiringParts.{both, required, number_in, text_in, node_kind_at}
use Rattle.twiring.proofs.WiringAnswers.{answer-known, answer-told, answer-both}
use Rattle.twiring.proofs.WiringValues.{node_from}
use Rattle.twiring.proofs.wiring.WiringNodeSection.read.Goals as goal

pub returns-in_err-memory : goal.returns-in_err-memory
returns-in_err-memory c =
    let t = table_view c.args.table.now in
    let rest = answer-both (node_kind_at t) c.node_kind_at.result (required text_in (codes "image") t) c.name_at.result
    c.both-rest.result (answer-told (node_kind_at t) c.node_kind_at.result c.node_kind_at.ensures) c.name_at.ensures
    c.both-rest.ensures in
    let memory = required number_in (codes "memory") t in
    let parts = answer-both memory c.number_at.result
    (both (node_kind_at t) (required text_in (codes "image") t)) c.both-rest.result c.both.result
    (answer-told memory c.number_at.result c.number_at.ensures) rest c.both.ensures in
    answer-known node_from (node_keys c.args.first) t
    (both memory (both (node_kind_at t) (required text_in (codes "image") t))) c.both.result
    c.from_residual-in_err-memory.result (search rules) parts (search rules)
