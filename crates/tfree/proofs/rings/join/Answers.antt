use Rattle.std.proofs.Common.{◌+◌, ◌<◌, ap, ◌∙◌, sym, subst, arith, List, length, Option, Some}
use Rattle.std.specs.Prelude.{slice_set}
use Rattle.tnet.specs.NetParts.{net_of_parts}
use Rattle.tnet.proofs.OpenedWires.{wired_ends}
use Rattle.tfree.specs.declared.ends.InEnd.{InEnd}
use Rattle.tfree.specs.declared.ends.OutEnd.{OutEnd}
use Rattle.tfree.specs.Ends.{in_view, out_view, ins_view, outs_view}
use Rattle.tfree.specs.Lists.{lying}
use Rattle.tfree.specs.Rings.{AreJoined}
use Rattle.tfree.specs.Slots.{with_slot}
use Rattle.tfree.proofs.Joining.{joined_more, put_there}
use Rattle.tfree.proofs.LinkSlots.{rows-length, slot_set}
use Rattle.tfree.proofs.RingIds.{joined_views}
use Rattle.tfree.proofs.rings.join.Goals as goal

pub returns : goal.returns
returns c =
    let net = net_of_parts c.args.parts.now in
    let end = c.args.end in
    let far = c.in-Some.far in
    let ins = c.args.ins.now.items in
    let outs = c.args.outs.now.items in
    let out = c.in_ok-out.out in
    let taker = c.in_ok-out.taker in
    let j = c.requires.joined in
    let wired = sym c.far_of.ensures.far ∙ c.in-Some.is in
    let there = (wired_ends (length net.nodes) net.wires end far c.requires.wires.ends wired).1 in
    let in_row : far.node < length ins = omega (arith, there.0, j.ins_are.count, rows-length in_view ins) in
    let out_row : end.node < length outs =
    omega (arith, c.requires.end.0, j.outs_are.count, rows-length out_view outs) in
    let all = joined_more net end far (ins_view ins) (outs_view outs) c.requires.wires j c.requires.end wired
    (in_view taker) (out_view out) c.in_ok-out.ensures.ids c.in_ok-out.ensures.got
    (c.in_ok-out.ensures.put ∙ ap lying c.inbox.ensures ∙ put_there net end far wired) in
    subst (λ (rows : List (List (Option InEnd))). AreJoined net end.node (end.link + 1) (ins_view rows)
    (outs_view (slice_set outs end.node (slice_set c.index_mut.result.now end.link (Some out)))))
    (sym (slot_set ins far.node c.index_mut-2.result.now in_row c.index_mut-2.ensures.value far.link (Some taker)))
    (subst (λ (rows : List (List (Option OutEnd))). AreJoined net end.node (end.link + 1)
    (ins_view (with_slot far.node far.link (Some taker) ins)) (outs_view rows))
    (sym (slot_set outs end.node c.index_mut.result.now out_row c.index_mut.ensures.value end.link (Some out)))
    (joined_views net end.node (end.link + 1) far end ins outs taker out all))
