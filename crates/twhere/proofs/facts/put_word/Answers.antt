use Rattle.std.proofs.Common.{ℕ, ap, ◌∙◌}
use Rattle.std.specs.Int.{to_be_bytes, w32}
use Rattle.hex.specs.Hex.{encode_lower}
use Rattle.tfiles.proofs.Told.{tells_then, tells_as}
use Rattle.twhere.proofs.facts.put_word.Goals as goal

pub returns : goal.returns
returns g c =
    tells_then c.put.ensures
    (tells_as c.put_hex.ensures
    (ap encode_lower (c.to_be_bytes.ensures ∙ ap (λ (a : ℕ). to_be_bytes w32 a) c.get.ensures)))
