use Rattle.std.proofs.Common.{arith}
use Rattle.twords.proofs.WordParsers.{skips_next}
use Rattle.twords.proofs.words.named.Goals as goal

pub loop-which-preserved : goal.loop-which-preserved
loop-which-preserved c =
    skips_next _ c.loop-which.which-index _ c.args.name.now c.name.result.now c.eq.result _
    (omega (arith, c.loop-which-test.true)) c.name.ensures c.eq.ensures c.if-eq.false c.loop-which.invariant
