use Rattle.std.proofs.Common.{◌∙◌}
use Rattle.tcpu.proofs.SignedWords.{wrapped_product}
use Rattle.tcpu.proofs.word_arithmetic.signed_product.Goals as goal

pub returns-clause-value : goal.returns-clause-value
returns-clause-value c =
    rw (← c.signed.ensures, ← c.signed-2.ensures)
    (c.new.ensures ∙ c.cast_unsigned.ensures
    ∙ wrapped_product c.signed.result c.signed-2.result c.overflowing_mul-product.result.0
    (record { sfits = c.signed.type_inv }) (record { sfits = c.signed-2.type_inv })
    c.overflowing_mul-product.ensures.value)
