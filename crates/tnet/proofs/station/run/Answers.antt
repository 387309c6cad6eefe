use Rattle.std.proofs.Common.{◌<◌, refl, arith}
use Rattle.tnet.proofs.RunsSeen.{runs-told, room_for_last}
use Rattle.tnet.proofs.station.run.Goals as goal

pub last_told-requires : goal.last_told-requires
last_told-requires c =
    let below : c.run_many-count.result.count < c.args.most =
    room_for_last c.args.most c.args.node.now _ c.run_many-count.result _ c.run_many-count.ensures c.in-Some.is in
    omega (arith, below, c.ranges.most)

pub returns-in-Some : goal.returns-in-Some
returns-in-Some c = λ far.
    runs-told c.args.number far c.args.most c.args.node.now _ c.run_many-count.result _ _ c.run_many-count.ensures
    c.in-Some.is c.last_told.ensures

pub returns-in-None : goal.returns-in-None
returns-in-None c = λ far.
    runs-told c.args.number far c.args.most c.args.node.now _ c.run_many-count.result _ _ c.run_many-count.ensures
    c.in-None.is refl
