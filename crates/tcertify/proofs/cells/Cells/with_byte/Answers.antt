use Rattle.std.proofs.Common.{◌∙◌}
use Rattle.tcertify.proofs.ByteWrites.{chosen}
use Rattle.tcertify.proofs.cells.Cells.with_byte.Goals as goal

pub returns : goal.returns
returns c =
    c.of_bytes.ensures
    ∙ rw (
      c.byte_or-lowest.ensures,
      c.byte_or-second.ensures,
      c.byte_or-third.ensures,
      c.byte_or-highest.ensures,
    ) (chosen c.args.self.now c.args.cell c.args.number c.requires)
