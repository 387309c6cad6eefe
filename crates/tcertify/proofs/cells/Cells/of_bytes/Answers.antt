use Rattle.tcertify.proofs.ByteWrites.{laid}
use Rattle.tcertify.proofs.cells.Cells.of_bytes.Goals as goal

pub returns : goal.returns
returns c =
    rw (
      c.unwrap_or-first.ensures,
      c.unwrap_or-next.ensures,
      c.unwrap_or-upper.ensures,
      c.unwrap_or-last.ensures,
      c.bit.ensures.is,
      c.bit-2.ensures.is,
      c.bit-3.ensures.is,
      c.bit-4.ensures.is,
    ) (laid c.args.lowest c.args.second c.args.third c.args.highest)
