use Rattle.std.proofs.Common.{ap, length, arith}
use Rattle.tlink.specs.Node.{NodeState}
use Rattle.tfiles.proofs.Told.{tells_as}
use Rattle.twhere.proofs.AwaitedNodes.{first_awaited}
use Rattle.twhere.proofs.circles.put_circles.Goals as goal

pub returns : goal.returns
returns g c =
    tells_as c.put_all.ensures
    (first_awaited c.args.net.now c.all_awaited-waits.result (length c.nodes.result.now)
    (ap length c.nodes.ensures.held) (omega (arith, ap length c.nodes.ensures.held)) c.all_awaited-waits.ensures)
