use Rattle.std.proofs.Common.{ℤ, ap, ◌∙◌, decimal, w32}
use Rattle.std.proofs.lemmas.Int.{to_z-of_z}
use Rattle.tfiles.proofs.SignedText.{signed_text, signed_parts}
use Rattle.tfiles.proofs.Told.{tells_then, tells_as}
use Rattle.tfiles.proofs.writing.text.put_signed.Goals as goal

pub returns : goal.returns
returns g c =
    tells_as (tells_then c.put_sign.ensures
    (tells_as c.put_decimal.ensures (ap decimal (c.from.ensures ∙ c.unsigned_abs.ensures.value))))
    (ap (λ (z : ℤ). signed_text z) (to_z-of_z w32 c.args.number c.ranges.number) ∙ signed_parts c.args.number)
