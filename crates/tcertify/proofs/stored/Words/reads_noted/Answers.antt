use Rattle.std.proofs.Common.{sym}
use Rattle.std.proofs.lemmas.Option.{IfSome_then}
use Rattle.tword.specs.Touches.{Reads}
use Rattle.tcertify.proofs.Places.{placed}
use Rattle.tcertify.proofs.stored.Words.reads_noted.Goals as goal

pub returns : goal.returns
returns c =
    IfSome_then c.sees_noted.result c.sees_noted.ensures
    (λ cells h. placed c.args.self.now Reads c.args.address _ c.in-Ok.number _ (sym c.in-Ok.ensures.checks) h)
