use Rattle.std.proofs.Common.{ℕ, refl, ap, ◌∙◌, length}
use Rattle.tfiles.specs.Texts.{sink_line}
use Rattle.tfiles.proofs.Told.{tells_as}
use Rattle.twhere.proofs.WhereRoles.{sink_told, source_told}
use Rattle.twhere.proofs.standing.put_role.Goals as goal

pub returns-in-Source : goal.returns-in-Source
returns-in-Source g c =
    tells_as c.put_source.ensures
    (source_told c.args.node.now.role c.args.net.now c.args.number c.args.node.now c.in-Source.source.now
    c.args.listed.now refl c.in-Source.ensures.0 c.in-Source.ensures.1)

pub returns-in-Sink : goal.returns-in-Sink
returns-in-Sink g c =
    tells_as c.put_sink_line.ensures
    (ap (λ (n : ℕ). sink_line c.args.number n) (c.count.ensures ∙ ap length c.kept.ensures)
    ∙ sink_told c.args.node.now.role c.args.net.now c.args.number c.args.node.now c.in-Sink.sink.now
    c.args.listed.now refl c.in-Sink.ensures.0 c.in-Sink.ensures.1)
