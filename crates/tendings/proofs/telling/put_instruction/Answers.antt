use Rattle.std.proofs.Common.{ap, ◌∙◌}
use Rattle.trendezvous.specs.declared.site.Body.{Body}
use Rattle.trendezvous.specs.Bodies.{node_seen}
use Rattle.tfiles.proofs.Told.{tells_as, tells_none}
use Rattle.tendings.proofs.Headings.{sink_has_none, source_has_none}
use Rattle.tendings.proofs.telling.put_instruction.Goals as goal

pub returns-in-Source : goal.returns-in-Source
returns-in-Source g c =
    tells_as (tells_none c.args.out.now)
    (source_has_none c.args.site.now c.in-Source.source _ _
    (c.body.ensures ∙ ap (λ (b : Body). node_seen b) c.in-Source.is) c.know_role-in-Source.ensures)

pub returns-in-Sink : goal.returns-in-Sink
returns-in-Sink g c =
    tells_as (tells_none c.args.out.now)
    (sink_has_none c.args.site.now c.in-Sink.sink _
    (c.body.ensures ∙ ap (λ (b : Body). node_seen b) c.in-Sink.is) c.know_role-in-Sink.ensures)
