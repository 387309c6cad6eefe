use Rattle.std.proofs.Common.{◌∙◌, sym, arith, subst}
use Rattle.std.specs.Prelude.{Option, IfSome}
use Rattle.tfree.specs.Views.{View}
use Rattle.tfree.specs.Opened.{worker_of}
use Rattle.tfree.specs.TakenApart.{HasRoomForParts, IsAdded}
use Rattle.tfree.proofs.TakenParts.{some_of, if_some, from_some, taken_none, taken_more, room_for}
use Rattle.tfree.proofs.taking.take_all.Goals as goal

pub take_one-wires-requires-clause-room : goal.take_one-wires-requires-clause-room
take_one-wires-requires-clause-room c =
    let ws = c.args.workers.items in
    let r = c.requires.room in
    if_some (λ (v : View). HasRoomForParts v.share.owned c.args.all.now) (worker_of 0 ws)
    (λ v e. room_for c.args.count ws c.requires.opening c.requires.there 0 c.args.all.now
    (taken_none ws c.args.count c.args.all.now r) (omega arith) v c.requires.some e r.nodes r.ins r.outs r.taken)

pub loop-number-init : goal.loop-number-init
loop-number-init c =
    let ws = c.args.workers.items in
    let r = c.requires.room in
    let v = some_of (worker_of 0 ws) (c.requires.there 0 c.requires.some) in
    let added = from_some (λ (v : View). IsAdded v c.args.all.now c.take_one-wires.new.all c.take_one-wires.result)
    (worker_of 0 ws) v.0 v.1 c.take_one-wires.ensures.added in
    let k = c.take_one-wires.ensures.room in
    record {
      rest = λ j b. c.take_one-wires.ensures.others j (λ q. omega (arith, b, q));
      taken = taken_more ws 0 v.0 c.args.all.now c.take_one-wires.new.all c.take_one-wires.result v.1 added
          (taken_none ws c.args.count c.args.all.now r);
      nodes = omega (arith, r.nodes, k.nodes);
      ins = omega (arith, r.ins, k.ins);
      outs = omega (arith, r.outs, k.outs);
      taken_room = omega (arith, r.taken, k.taken);
    }

pub take_one-requires-clause-room : goal.take_one-requires-clause-room
take_one-requires-clause-room c =
    let ws = c.args.workers.items in
    let n = c.loop-number.number in
    let i = c.loop-number.invariant in
    subst (λ (o : Option View). IfSome o (λ (v : View). HasRoomForParts v.share.owned c.loop-number.all))
    (sym (i.rest n (omega arith)))
    (if_some (λ (v : View). HasRoomForParts v.share.owned c.loop-number.all) (worker_of n ws)
    (λ v e. room_for c.args.count ws c.requires.opening c.requires.there n c.loop-number.all i.taken
    (omega (arith, c.loop-number-test.true)) v c.loop-number-test.true e i.nodes i.ins i.outs i.taken_room))

pub loop-number-preserved : goal.loop-number-preserved
loop-number-preserved c =
    let ws = c.args.workers.items in
    let n = c.loop-number.number in
    let i = c.loop-number.invariant in
    let v = some_of (worker_of n ws) (c.requires.there n c.loop-number-test.true) in
    let added = from_some (λ (v : View). IsAdded v c.loop-number.all c.take_one.new.all c.take_one.result)
    (worker_of n c.loop-number.workers.items) v.0 (i.rest n (omega arith) ∙ v.1) c.take_one.ensures.added in
    let k = c.take_one.ensures.room in
    record {
      rest = λ j b. c.take_one.ensures.others j (λ q. omega (arith, b, q)) ∙ i.rest j (omega (arith, b));
      taken = taken_more ws n v.0 c.loop-number.all c.take_one.new.all c.take_one.result v.1 added i.taken;
      nodes = omega (arith, i.nodes, k.nodes);
      ins = omega (arith, i.ins, k.ins);
      outs = omega (arith, i.outs, k.outs);
      taken_room = omega (arith, i.taken_room, k.taken);
    }
