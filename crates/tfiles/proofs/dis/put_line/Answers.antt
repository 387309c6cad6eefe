use Rattle.std.proofs.Common.{ℕ, ap, ◌∙◌}
use Rattle.std.specs.Int.{to_be_bytes, w32}
use Rattle.hex.specs.Hex.{encode_lower}
use Rattle.tfiles.proofs.Told.{tells_then, tells_as}
use Rattle.tfiles.proofs.dis.put_line.Goals as goal

pub returns : goal.returns
returns g c =
    tells_then
    (tells_then
    (tells_as c.put_hex.ensures
    (ap encode_lower (c.to_be_bytes.ensures ∙ ap (λ (a : ℕ). to_be_bytes w32 a) c.get.ensures)))
    (tells_then c.put.ensures c.put_head.ensures)) c.put-2.ensures
