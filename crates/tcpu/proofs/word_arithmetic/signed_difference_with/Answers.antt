use Rattle.tcpu.proofs.SignedWords.{wide_difference}
use Rattle.tcpu.proofs.word_arithmetic.signed_difference_with.Goals as goal

pub returns-clause-value : goal.returns-clause-value
returns-clause-value c =
    rw (
      wide_difference c.signed.result c.signed-2.result c.from.result c.from-2.result c.from-3.result c.args.borrow
          (record { sfits = c.signed.type_inv }) (record { sfits = c.signed-2.type_inv }) c.requires c.from.ensures
          c.from-2.ensures c.from-3.ensures,
      c.signed.ensures,
      c.signed-2.ensures,
    ) at c.narrow.ensures.value

pub returns-clause-overflow : goal.returns-clause-overflow
returns-clause-overflow c =
    rw (
      wide_difference c.signed.result c.signed-2.result c.from.result c.from-2.result c.from-3.result c.args.borrow
          (record { sfits = c.signed.type_inv }) (record { sfits = c.signed-2.type_inv }) c.requires c.from.ensures
          c.from-2.ensures c.from-3.ensures,
      c.signed.ensures,
      c.signed-2.ensures,
    ) at c.narrow.ensures.overflow
