use Rattle.std.proofs.Common.{ap, sym, ◌∙◌}
use Rattle.tfindings.proofs.PartNames.{there}
use Rattle.std.proofs.lemmas.List.Quantifiers.{position-Some}
use Rattle.tfindings.specs.Places.{found_text, has_part, script_text}
use Rattle.tfiles.proofs.Told.{tells_as}
use Rattle.tfindings.proofs.places.put_place.Goals as goal

pub returns-in-Some : goal.returns-in-Some
returns-in-Some g c =
    tells_as c.put_part_with.ensures
    (there c.args.number c.args.nodes.now c.in-Some.node c.index-nodes-node.result c.index-nodes-node.is
    (position-Some (has_part c.args.number) c.args.nodes.now c.in-Some.node c.index-nodes-node.result
    (sym c.node_with.ensures ∙ c.in-Some.is)).0
    ∙ ap (found_text c.args.nodes.now c.args.first_script c.args.number) (sym c.in-Some.is ∙ c.node_with.ensures))

pub returns-in-None : goal.returns-in-None
returns-in-None g c =
    tells_as c.put_script.ensures
    (ap script_text c.saturating_sub.ensures
    ∙ ap (found_text c.args.nodes.now c.args.first_script c.args.number) (sym c.in-None.is ∙ c.node_with.ensures))
