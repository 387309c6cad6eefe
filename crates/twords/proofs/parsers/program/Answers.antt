use Rattle.std.proofs.Common.{arith}
use Rattle.twords.proofs.WordParsers.{adds_next}
use Rattle.twords.proofs.parsers.program.Goals as goal

pub loop-which-preserved : goal.loop-which-preserved
loop-which-preserved c =
    adds_next _ c.loop-which.which-index _ c.loop-which.program c.in_ok-parser.field-0 c.in_ok-program-2.program _
    (omega (arith, c.loop-which-test.true)) c.in_ok-program-2.ensures c.in_ok-parser.ensures c.loop-which.invariant
