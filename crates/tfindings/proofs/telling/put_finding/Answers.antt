use Rattle.std.proofs.Common.{ap, ap₂, sym, ◌∙◌, ◌++◌}
use Rattle.std.specs.Prelude.{codes}
use Rattle.tfiles.specs.Logs.{line}
use Rattle.tnames.specs.Nodes.{text_of_node}
use Rattle.tfindings.specs.declared.finding.Finding.{Finding}
use Rattle.tfindings.specs.Telling.{body_text, finding_text, last_text, node_of, node_of_place}
use Rattle.tfiles.proofs.Told.{tells_then, tells_as}
use Rattle.tfindings.proofs.telling.put_finding.Goals as goal

pub returns-in-Race : goal.returns-in-Race
returns-in-Race g c =
    tells_as (tells_then c.put.ensures
    (tells_then (tells_as c.put_of_node.ensures
    (ap₂ (text_of_node c.args.names.now) c.node_of_place.ensures c.requires.body)) c.put_last.ensures))
    (ap (λ (f : Finding). line (codes "race")
    ++ (text_of_node c.args.names.now (node_of_place c.args.machine.now c.in-Race.place)
    (body_text c.args.machine.now f)
    ++ last_text (codes "race") c.args.machine.now.done)) c.in-Race.is
    ∙ ap (finding_text c.args.names.now c.args.plan.now c.args.machine.now) (sym c.in-Race.is))

pub returns-in-Stopped : goal.returns-in-Stopped
returns-in-Stopped g c =
    tells_as (tells_then (tells_as c.put_of_node-in-Stopped.ensures
    (ap₂ (text_of_node c.args.names.now) c.node_of.ensures c.requires.body)) c.put_last-in-Stopped.ensures)
    (ap (λ (f : Finding). text_of_node c.args.names.now (node_of c.in-Stopped.made.agent)
    (body_text c.args.machine.now f) ++ last_text (codes "refused") c.args.machine.now.done) c.in-Stopped.is
    ∙ ap (finding_text c.args.names.now c.args.plan.now c.args.machine.now) (sym c.in-Stopped.is))

pub returns-in-TooManyProcesses : goal.returns-in-TooManyProcesses
returns-in-TooManyProcesses g c =
    tells_as c.put_node_refusal.ensures
    (ap (finding_text c.args.names.now c.args.plan.now c.args.machine.now) (sym c.in-TooManyProcesses.is))

pub returns-in-FlagsChanged : goal.returns-in-FlagsChanged
returns-in-FlagsChanged g c =
    tells_as c.put_node_refusal-in-FlagsChanged.ensures
    (ap (finding_text c.args.names.now c.args.plan.now c.args.machine.now) (sym c.in-FlagsChanged.is))

pub returns-in-Cut : goal.returns-in-Cut
returns-in-Cut g c =
    tells_as (tells_then c.put-in-Cut.ensures c.put_last-in-Cut.ensures)
    (ap (finding_text c.args.names.now c.args.plan.now c.args.machine.now) (sym c.in-Cut.is))
