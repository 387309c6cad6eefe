use Rattle.std.proofs.Common.{arith}
use Rattle.tword.specs.Touches.{byte_span}
use Rattle.tword.proofs.AsCells.{byte_put, length-as_cells}
use Rattle.tword.proofs.Descheduling.{inside_within}
use Rattle.tword.proofs.bytes.Bytes.set_byte.Goals as goal

pub returns-clause-set : goal.returns-clause-set
returns-clause-set c =
    let b = inside_within _ (byte_span c.args.address) (omega arith) c.requires in
    byte_put _ _ c.args.address _ c.args.value c.self.view_is c.place.ensures
    (omega (arith, b, c.place.ensures, length-as_cells c.self.inside.bytes.items c.args.self.now c.self.view_is))
