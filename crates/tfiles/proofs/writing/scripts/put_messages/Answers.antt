use Rattle.std.proofs.Common.{ap, arith, flat_map, length}
use Rattle.tfiles.specs.Texts.{kept_line}
use Rattle.tfiles.proofs.Told.{goes_on-start, goes_on-next, goes_on-end}
use Rattle.tfiles.proofs.writing.scripts.put_messages.Goals as goal

pub loop-message-init : goal.loop-message-init
loop-message-init g c = goes_on-start c.args.out.now (flat_map kept_line c.args.kept)

pub loop-message-smaller : goal.loop-message-smaller
loop-message-smaller g c = omega (arith, ap length c.in-Some.ensures)

pub loop-message-preserved : goal.loop-message-preserved
loop-message-preserved g c =
    goes_on-next (kept_line c.in-Some.message.now) _ c.loop-message.invariant
    (ap (flat_map kept_line) c.in-Some.ensures) c.put_message.ensures

pub returns : goal.returns
returns g c = goes_on-end c.loop-message.invariant (ap (flat_map kept_line) c.in_default.ensures.0)
