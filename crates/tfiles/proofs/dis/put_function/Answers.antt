use Rattle.std.proofs.Common.{ap, ◌∙◌, w32}
use Rattle.std.specs.Fmt.{signed_decimal}
use Rattle.std.proofs.lemmas.Int.{to_z-of_z}
use Rattle.tfiles.proofs.Told.{tells_then, tells_as}
use Rattle.tfiles.proofs.dis.put_function.Goals as goal

pub returns : goal.returns
returns g c =
    tells_then (tells_as c.put.ensures (c.as_bytes.ensures.value ∙ c.function_name.ensures))
    (tells_then c.put-2.ensures
    (tells_as c.put_signed.ensures (ap signed_decimal (to_z-of_z w32 c.args.operand c.ranges.operand))))
