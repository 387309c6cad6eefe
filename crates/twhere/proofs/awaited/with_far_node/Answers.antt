use Rattle.std.proofs.Common.{◌≡◌, ap, ◌∙◌, sym, arith}
use Rattle.tplan.specs.Wires.{end_at, far_end, far_ends}
use Rattle.tnet.proofs.Ends.{far_end-is_end}
use Rattle.twhere.proofs.AwaitedNodes.{adds_far, adds_no_far}
use Rattle.twhere.proofs.awaited.with_far_node.Goals as goal

pub with-requires : goal.with-requires
with-requires c =
    omega (
      arith,
      c.requires,
      (far_end-is_end c.args.at.now.net.now c.know_sound.ensures (end_at c.args.at.now.number c.args.link) c.in-Some.end
          (sym (c.far_end.ensures ∙ ap (far_end c.args.at.now.net.now.wires) c.end_at.ensures) ∙ c.in-Some.is)).0,
    )

pub returns-in-Some : goal.returns-in-Some
returns-in-Some c = λ want.
    adds_far c.args.set c.with.result c.far_end.result c.in-Some.end want c.args.link
    (c.far_end.ensures ∙ ap (far_end c.args.at.now.net.now.wires) c.end_at.ensures) c.in-Some.is c.with.ensures

pub returns-in-None : goal.returns-in-None
returns-in-None c = λ want.
    adds_no_far c.args.set c.far_end.result want c.args.link
    (c.far_end.ensures ∙ ap (far_end c.args.at.now.net.now.wires) c.end_at.ensures) c.in-None.is
