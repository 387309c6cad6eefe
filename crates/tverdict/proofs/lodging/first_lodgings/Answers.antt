use Rattle.std.proofs.Common.{◌∙◌, arith, length, refl}
use Rattle.std.proofs.lemmas.Option.{slice_get_read}
use Rattle.tverdict.proofs.Berths.{first_more, none_first}
use Rattle.tverdict.proofs.lodging.first_lodgings.Goals as goal

pub loop-node-init : goal.loop-node-init
loop-node-init c = none_first c.args.nodes.now c.in_ok-lodgings.lodgings.items c.in_ok-lodgings.ensures.items

pub loop-node-preserved : goal.loop-node-preserved
loop-node-preserved c =
    let nodes = c.args.nodes.now in let k = c.loop-node.node-index in let node = c.node-item.result in
    first_more nodes c.loop-node.lodgings.items c.push.new.self.items k node c.in_ok-first.field-0
    c.loop-node.invariant (slice_get_read nodes (length nodes) k node refl c.loop-node-test.true c.node-item.is)
    c.in_ok-first.ensures c.in_ok-push.ensures.items

pub returns : goal.returns
returns c =
    record {
      many = c.loop-node.invariant.many ∙ omega (arith, c.loop-node-test.false, c.loop-node.auto.node-index-end);
      each = c.loop-node.invariant.each;
    }
