use Rattle.std.proofs.Common.{◌∙◌, ap, sym, Some}
use Rattle.tendings.proofs.NodeLists.{freeze_here, freeze_later}
use Rattle.tendings.proofs.telling.freeze_of.Goals as goal

pub loop-number-preserved : goal.loop-number-preserved
loop-number-preserved c =
    freeze_later c.loop-number.number c.args.state.now.nodes c.site-site.result.now c.site-site.ensures
    (sym c.broken.ensures ∙ c.in_default.is) c.loop-number.invariant

pub returns-in-Some : goal.returns-in-Some
returns-in-Some c =
    ap Some c.in_ok-freeze_text.ensures
    ∙ sym (freeze_here c.loop-number.number c.args.state.now.nodes c.site-site.result.now c.in-Some.broken
    c.site-site.ensures (sym c.broken.ensures ∙ c.in-Some.is) c.loop-number.invariant)
