use Rattle.std.proofs.Common.{◌∙◌, sym, length}
use Rattle.tnet.specs.Sound.{IsEnd}
use Rattle.tnet.proofs.OpenedWires.{wired_ends}
use Rattle.tfree.proofs.TakenParts.{if_some}
use Rattle.tfree.proofs.rings.far_of.Goals as goal

pub returns-clause-there : goal.returns-clause-there
returns-clause-there c =
    if_some (IsEnd (length c.args.parts.now.nodes.items)) c.far_end.result
    (λ f e. (wired_ends (length c.args.parts.now.nodes.items) c.args.parts.now.wires c.args.end f c.requires.ends
    (sym c.far_end.ensures ∙ e)).1)
