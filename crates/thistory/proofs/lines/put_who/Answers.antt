use Rattle.std.proofs.Common.{sym, ap, ◌∙◌}
use Rattle.std.specs.Prelude.{codes}
use Rattle.tplan.specs.Wires.{far_ends}
use Rattle.tfiles.proofs.Told.{tells_as}
use Rattle.thistory.specs.declared.deed.Deed.{Deed}
use Rattle.thistory.specs.Deeds.{processor_in}
use Rattle.thistory.specs.Lines.{link_text, who_text}
use Rattle.thistory.proofs.lines.put_who.Goals as goal

pub returns-in-Send : goal.returns-in-Send
returns-in-Send g c =
    tells_as c.put_link.ensures
    (ap (link_text (codes " send") c.in-Send.link (codes " to ")) c.far_end_of.ensures
    ∙ ap
    (λ (d : Deed). who_text (far_ends c.args.net.now.wires c.args.node) d (processor_in c.args.net.now c.args.node))
    (sym c.in-Send.is))

pub returns-in-Data : goal.returns-in-Data
returns-in-Data g c =
    tells_as c.put_link-in-Data.ensures
    (ap (link_text (codes " data") c.in-Data.link (codes " from ")) c.far_end_of-in-Data.ensures
    ∙ ap
    (λ (d : Deed). who_text (far_ends c.args.net.now.wires c.args.node) d (processor_in c.args.net.now c.args.node))
    (sym c.in-Data.is))

pub returns-in-Take : goal.returns-in-Take
returns-in-Take g c =
    tells_as c.put_link-in-Take.ensures
    (ap (link_text (codes " take") c.in-Take.link (codes " from ")) c.far_end_of-in-Take.ensures
    ∙ ap
    (λ (d : Deed). who_text (far_ends c.args.net.now.wires c.args.node) d (processor_in c.args.net.now c.args.node))
    (sym c.in-Take.is))

pub returns-in-Ack : goal.returns-in-Ack
returns-in-Ack g c =
    tells_as c.put_link-in-Ack.ensures
    (ap (link_text (codes " ack ") c.in-Ack.link (codes " from ")) c.far_end_of-in-Ack.ensures
    ∙ ap
    (λ (d : Deed). who_text (far_ends c.args.net.now.wires c.args.node) d (processor_in c.args.net.now c.args.node))
    (sym c.in-Ack.is))
