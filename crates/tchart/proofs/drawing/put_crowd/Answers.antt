use Rattle.tfiles.proofs.Told.{tells_none, tells_then}
use Rattle.tchart.proofs.drawing.put_crowd.Goals as goal

pub returns-then-is_crowded : goal.returns-then-is_crowded
returns-then-is_crowded g c =
    rw c.if-is_crowded.true
    (tells_then c.put_text.ensures (tells_then c.put.ensures c.put-then-is_crowded.ensures))

pub returns-else-is_crowded : goal.returns-else-is_crowded
returns-else-is_crowded g c = rw c.if-is_crowded.false (tells_none c.args.out.now)
