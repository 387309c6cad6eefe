use Rattle.std.proofs.Common.{arith}
use Rattle.tfiles.specs.Texts.{dump_from}
use Rattle.tfiles.proofs.Told.{goes_on-start, goes_on-next, goes_on-end}
use Rattle.tendings.proofs.NodeLists.{dump_next, dump_over}
use Rattle.tendings.proofs.telling.put_dump.Goals as goal

pub loop-number-init : goal.loop-number-init
loop-number-init g c = goes_on-start c.args.out.now (dump_from 0 c.args.state.now.nodes)

pub loop-number-preserved : goal.loop-number-preserved
loop-number-preserved g c =
    goes_on-next _ _ c.loop-number.invariant
    (dump_next c.loop-number.number c.args.state.now.nodes c.site.result.now c.site.ensures) c.put_site.ensures

pub returns : goal.returns
returns g c =
    goes_on-end c.loop-number.invariant (dump_over c.loop-number.number c.args.state.now.nodes (omega arith))
