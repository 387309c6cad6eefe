use Rattle.std.proofs.Common.{ℕ, ap, arith}
use Rattle.std.specs.Prelude.{replicate}
use Rattle.std.proofs.lemmas.List.{replicate_more}
use Rattle.tfiles.proofs.Told.{tells_none, tells_then, tells_as}
use Rattle.thistory.proofs.lines.put_blanks.Goals as goal

pub loop-blank-init : goal.loop-blank-init
loop-blank-init g c = tells_none c.args.out.now

pub loop-blank-preserved : goal.loop-blank-preserved
loop-blank-preserved g c =
    tells_as (tells_then c.loop-blank.invariant c.put.ensures) (replicate_more c.loop-blank._blank 32)

pub returns : goal.returns
returns g c = tells_as c.loop-blank.invariant (ap (λ (k : ℕ). replicate k 32) (omega arith))
