use Rattle.tfiles.proofs.Told.{tells_as, tells_then}
use Rattle.tendings.proofs.telling.put_freeze.Goals as goal

pub returns : goal.returns
returns g c =
    tells_then c.put.ensures
    (tells_then
    (tells_then c.put_decimal.ensures
    (tells_then c.put-2.ensures (tells_as c.put-3.ensures c.break_name.ensures)))
    c.put_instruction.ensures)
